use Rattle.std.proofs.Common.{◌≡◌, ◌∙◌, ◌&&◌, ap, sym, refl, replicate, length, None, Option, List, arith}
use Rattle.std.specs.Prelude.{nat_lt, is_some, if◌then◌else◌}
use Rattle.std.specs.List.{list_all}
use Rattle.std.proofs.lemmas.List.{length-map, length-replicate}
use Rattle.plain_file.specs.Counts.{more_by_one}
use Rattle.range_tree.specs.declared.plain.Seen.{Seen}
use Rattle.range_tree.specs.Plain.{plain_view, all_noted, is_seen_blocked}
use Rattle.range_tree.proofs.OneGuest.{parts_of, inv-looks}
use Rattle.range_tree.proofs.Seeing.{forgets}
use Rattle.range_tree.proofs.plain_turns.PlainRangesRangeBoard.forget_looks.Goals as goal

-- the looks afterwards, and their number
cleared : (c : goal.After-clear_looks) → c.clear_looks.new.looks.items ≡ replicate (length c.self.inside.looks.items) None
cleared c = c.clear_looks.ensures ∙ ap (λ n. replicate n None) (sym c.deref.ensures.len ∙ ap length c.deref.ensures.value)

counts : (c : goal.After-clear_looks) → c.len-ranges.result ≡ length c.self.inside.looks.items
counts c = let e = c.len-ranges.ensures in let l = c.deref.ensures.len in let v = ap (λ (xs : List (Option Seen)). length xs) c.deref.ensures.value in omega (arith, e, l, v)

pub invariant_of-self : goal.invariant_of-self
invariant_of-self c =
    let n : length (all_noted c.clear_looks.new.looks.items) ≡ length (all_noted c.self.inside.looks.items) =
    length-map _ _ ∙ ap length (cleared c) ∙ length-replicate (length c.self.inside.looks.items) None ∙ sym (length-map _ _) in
    inv-looks _ _ _ c.self.invariant (n ∙ c.self.invariant.looks)

pub returns : goal.returns
returns c =
    let p = parts_of c.self.inside in
    let looks = c.self.inside.looks.items in
    let looked : c.all_looked.result ≡ list_all is_some looks = c.all_looked.ensures ∙ ap (list_all is_some) c.deref.ensures.value in
    let blocked : c.all_blocked.result ≡ list_all is_seen_blocked looks = c.all_blocked.ensures ∙ ap (list_all is_seen_blocked) c.deref-2.ensures.value in
    let sweeps : c.counted-self-inside.result ≡ (if nat_lt 0 (length looks) && list_all is_some looks then more_by_one p.sweeps else p.sweeps) =
    c.counted-self-inside.ensures ∙ ap (λ n. if nat_lt 0 n && c.all_looked.result then more_by_one p.sweeps else p.sweeps) (counts c) ∙ ap (λ b. if nat_lt 0 (length looks) && b then more_by_one p.sweeps else p.sweeps) looked in
    let rounds : c.counted-self-inside-2.result ≡ (if nat_lt 0 (length looks) && list_all is_seen_blocked looks then more_by_one p.rounds else p.rounds) =
    c.counted-self-inside-2.ensures ∙ ap (λ n. if nat_lt 0 n && c.all_blocked.result then more_by_one p.rounds else p.rounds) (counts c) ∙ ap (λ b. if nat_lt 0 (length looks) && b then more_by_one p.rounds else p.rounds) blocked in
    rw (← c.self.view_is) (ap (λ l. plain_view (record p { looks = all_noted l; sweeps = c.counted-self-inside.result; rounds = c.counted-self-inside-2.result })) (cleared c)
    ∙ ap (λ n. plain_view (record p { looks = all_noted (replicate (length looks) None); sweeps = n; rounds = c.counted-self-inside-2.result })) sweeps
    ∙ ap (λ n. plain_view (record p { looks = all_noted (replicate (length looks) None); sweeps = (if nat_lt 0 (length looks) && list_all is_some looks then more_by_one p.sweeps else p.sweeps); rounds = n })) rounds
    ∙ forgets p looks c.self.invariant refl)

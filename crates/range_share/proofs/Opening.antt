-- A table is opened.
use Rattle.std.proofs.Common.{◌≡◌, ℕ, zero, suc, ◌+◌, ◌*◌, ◌<◌, ◌≤◌, List, [], ◌∷◌, map, replicate, length, take, get_or, cond, Option, Some, None, refl, sym, ap, ◌∙◌, subst, arith}
use mathlib.Core.Option.{some}
use Rattle.std.proofs.lemmas.List.{length-replicate}
use Rattle.atomic_table.specs.Table.{opening}
use Rattle.seats.specs.Views.{root, guests}
use Rattle.seats.specs.Views as views
use Rattle.seats.specs.Seats.{Shows}
use Rattle.seats.proofs.Seating.{opens}
use Rattle.page_map.specs.declared.ranges.LogEntry.{LogEntry}
use Rattle.page_map.specs.declared.ranges.Target.{Target}
use Rattle.window_core.specs.declared.states.Pin.{Pin}
use Rattle.window_core.specs.declared.states.RangeState.{RangeState}
use Rattle.window_core.specs.declared.states.RangeState.TheVariants as states
use Rattle.window_core.specs.Window.{Side, Window, no_side, side, state, target, seen_by, pin_count, word_of, new_side, new_window}
use Rattle.window_core.specs.Shown.{is_moving, branch, holds, map_held}
use Rattle.window_core.proofs.Starts.{window_start}
use Rattle.window_core.proofs.Keeps.{free_moving}
use Rattle.range_share.specs.Packed.{control_word, map_word}
use Rattle.range_share.specs.Table.{Core, GoodCore, ShowsWords, number_of, tree_at, control_at, map_at, home, Mine, mine, no_branch, not_moving, nothing_of, no_map, all_unseen, new_core, blank, opener, window_kit}
use Rattle.range_share.proofs.LawsOfMoves.{map_same, listed_same}
use Rattle.range_share.proofs.Laws.{window_laws}

get_replicate : {A : Type 0} (n i : ℕ) (x : A) → get_or (replicate n x) i x ≡ x
get_replicate zero i x = refl
get_replicate (suc n) zero x = refl
get_replicate (suc n) (suc i) x = get_replicate n i x

in_replicate : {A : Type 0} (n i : ℕ) (x d : A) → i < n → get_or (replicate n x) i d ≡ x
in_replicate zero i x d l = absurd (omega arith)
in_replicate (suc n) zero x d l = refl
in_replicate (suc n) (suc i) x d l = in_replicate n i x d (omega arith)

map_replicate : {A B : Type 0} (F : A → B) (n : ℕ) (a : A) → map F (replicate n a) ≡ replicate n (F a)
map_replicate F zero a = refl
map_replicate F (suc n) a = ap (λ l. F a ∷ l) (map_replicate F n a)

free_at : (ranges files r : ℕ) → state (new_window ranges files guests) r ≡ states.Free
free_at ranges files r = get_replicate ranges r states.Free

new_at : (ranges files f : ℕ) → f < files → side (new_window ranges files guests) f ≡ new_side guests
new_at ranges files f near = in_replicate files f (new_side guests) no_side near

start_good : (ranges files movers : ℕ) → ranges ≤ 256 → files ≤ 64 → GoodCore (new_core ranges files movers)
start_good ranges files movers few many = let n = length-replicate files (new_side guests) in record {
  window_good = window_start ranges files guests few;
  files_few = omega arith;
  moves_only = λ g r le e. free_moving g (sym (free_at ranges files r) ∙ e);
  pins_only = λ g le. get_replicate {A = List Pin} guests g [];
  alone_seen = λ g f l off near. subst (λ (s : Side). seen_by s g ≡ length s.log) (sym (new_at ranges files f (omega arith))) (get_replicate {A = ℕ} guests g 0);
}

start_words : (ranges files movers : ℕ) → ShowsWords (replicate (8 * files + 8 * ranges + 8) 0) (new_core ranges files movers)
start_words ranges files movers = let h = new_window ranges files guests in let many : ℕ = 8 * files + 8 * ranges + 8 in let n = length-replicate ranges states.Free in let m = length-replicate files (new_side guests) in let w = length-replicate {A = ℕ} many 0 in record {
  wide = omega arith;
  trees = λ f l. get_replicate many (tree_at f) 0 ∙ sym (ap (λ (s : Side). number_of s.holder) (new_at ranges files f (omega arith)));
  controls = λ r l. get_replicate many (control_at (length h.sides) r) 0 ∙ sym (ap (λ (x : RangeState). control_word (word_of x (pin_count h r))) (free_at ranges files r));
  maps = λ r l. get_replicate many (map_at (length h.sides) r) 0 ∙ sym (ap (λ (t : Option Target). map_word t) (get_replicate {A = Option Target} ranges r None));
}

new_branch : (n : ℕ) → branch n (new_side guests) ≡ no_branch
new_branch n = let e = get_replicate {A = ℕ} guests n 0 in λ i. record no_branch { seen = take (e i) [] }

start_bare : (ranges files movers n : ℕ) → mine n (new_core ranges files movers) ≡ all_unseen (new_core ranges files movers)
start_bare ranges files movers n = let h : Window = new_window ranges files guests in
    let a = map_same (is_moving n) not_moving h.states states.Free (λ r l. ap (λ (x : RangeState). is_moving n x) (free_at ranges files r)) in
    let m = length-replicate files (new_side guests) in
    let b = map_same (branch n) nothing_of h.sides no_side (λ f l. ap (λ (s : Side). branch n s) (new_at ranges files f (omega arith)) ∙ new_branch n) in
    let d = listed_same (map_held n h) no_map (length h.states) (λ r l. ap (λ (x : RangeState). cond (holds n h x) (Some (target h r)) None) (free_at ranges files r)) in
    let p = get_replicate {A = List Pin} guests n [] in
    λ i. record { shown = record { moving = a i; branches = b i; pins = p i; maps = d i }; movers = movers }

-- The table to which nothing was done yet, with its first pass.
pub starts : (ranges files movers : ℕ) (words : List ℕ) (slots : List (Option (List LogEntry))) → ranges ≤ 256 → files ≤ 64 → words ≡ replicate (8 * files + 8 * ranges + 8) 0 → slots ≡ replicate files (Some []) → Shows window_kit (opening words slots (opener ranges files movers))
starts ranges files movers words slots few many is is' = let c : Core = new_core ranges files movers in
    subst (λ (z : List ℕ × List (Option (List LogEntry)) × Mine). Shows window_kit (opening z.0 z.1 (views.opener z.2 blank))) (λ i. (sym is i, sym is' i, start_bare ranges files movers root i))
    (opens window_kit window_laws c (replicate (8 * files + 8 * ranges + 8) 0) (replicate files (Some [])) (start_good ranges files movers few many) (ranges, files, movers, refl) (start_words ranges files movers)
    (map_replicate some files (Some []) ∙ sym (map_replicate home files (new_side guests))) (start_bare ranges files movers))

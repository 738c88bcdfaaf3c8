-- What the calls of the board of one guest leave true of its parts.
use Rattle.std.proofs.Common.{◌≡◌, ◌≢◌, ◌∙◌, ap, sym, refl, subst, ℕ, zero, suc, ◌<◌, ◌≤◌, ◌==◌, Bool, true, false, cond, List, [], length, get_or, slice_set, replicate, Option, Some, None, inl, inr, arith}
use Rattle.std.specs.Prelude.{IfSome, IsSome}
use Rattle.std.proofs.lemmas.Grind.{common_steps}
use Rattle.std.proofs.lemmas.Bool.{cases_eq}
use Rattle.std.proofs.lemmas.List.{length-replicate, length-set, get_or-set_same, get_or-set_other}
use Rattle.page_map.specs.declared.ranges.LogEntry.{LogEntry}
use Rattle.page_map.specs.declared.ranges.Target.{Target}
use Rattle.page_map.specs.Logs.{Slot, slots_of, slots_from, slot_in, sound, sound_from}
use Rattle.page_map.specs.Board.{Noted}
use Rattle.range_tree.specs.declared.plain.Owner.{Owner}
use Rattle.range_tree.specs.declared.plain.PlainRanges.TheInside.{Inside}
use Rattle.range_tree.specs.Ranges.{no_target}
use Rattle.range_tree.specs.Plain.{Parts, owner_at, map_at, pins_at, pinned_at, entries_of, owned_slot, slot_for, all_noted, IsPinTarget, IsOwned, IsMoved, IsPlainRanges}

-- the parts of a board
abbrev pub parts_of : Inside → Parts
parts_of b = record { guest = b.guest; tree = b.tree; moves = b.moves; pins = b.pins.items; logs = b.trees.items; pinned = b.pinned.items; looks = all_noted b.looks.items; targets = b.targets.items; targeted = b.targeted; sweeps = b.sweeps; rounds = b.rounds; owners = b.owners.items; maps = b.maps.items }

-- ---- what is placed, by file

pub slot_for-own : (range : ℕ) (o : Owner) → slot_for o.file range (Some o) ≡ Some (owned_slot range o)
unfolding slot_for
slot_for-own range o = let own : (o.file == o.file) ≡ true = grind (arith, common_steps) in rw own refl

pub slot_for-other : (file range : ℕ) (o : Owner) → file ≢ o.file → slot_for file range (Some o) ≡ None
unfolding slot_for
slot_for-other file range o ne = let other : (o.file == file) ≡ false = grind (arith, common_steps, ne) in rw other refl

pub slot_for-none : (file range : ℕ) → slot_for file range None ≡ None
unfolding slot_for
slot_for-none file range = refl

-- whose slot is seen owns the range
pub owner-slot : (file range : ℕ) (o : Option Owner) (s : Slot) → slot_for file range o ≡ Some s → IfSome o (λ own. (own.file ≡ file) × (owned_slot range own ≡ s)) × IsSome o
unfolding slot_for
owner-slot file range None s e = absurd (cc)
owner-slot file range (Some o) s e = go (o.file == file) refl e
  where
    go : (b : Bool) → (o.file == file) ≡ b → cond b (Some (owned_slot range o)) None ≡ Some s → ((o.file ≡ file) × (owned_slot range o ≡ s)) × IsSome (Some o)
    go true at e = let same : owned_slot range o ≡ s = cc in ((grind (arith, common_steps, at), same), refl)
    go false at e = absurd (cc)

-- ---- parts of no weight

pub inv-tree : {s : Parts} (t : Option ℕ) → IsPlainRanges s → IfSome t (λ file. file < length s.logs) → IsPlainRanges (record s { tree = t })
inv-tree {s} t i h = record {
  few = i.few;
  files = i.files;
  pinned = i.pinned;
  looks = i.looks;
  targets = i.targets;
  owners = i.owners;
  maps = i.maps;
  tree = h;
  moves = λ range e. let m = i.moves range e in record { within = m.within; unpinned = m.unpinned; empty = m.empty };
  logs = i.logs;
  slots = i.slots;
  owned = i.owned;
  pins = i.pins;
}

-- another range is moved, or none
pub inv-moves : {s : Parts} (moves : Option ℕ) → IsPlainRanges s → ((range : ℕ) → moves ≡ Some range → IsMoved s range) → IsPlainRanges (record s { moves = moves })
inv-moves {s} moves i h = record {
  few = i.few;
  files = i.files;
  pinned = i.pinned;
  looks = i.looks;
  targets = i.targets;
  owners = i.owners;
  maps = i.maps;
  tree = i.tree;
  moves = λ range e. let m = h range e in record { within = m.within; unpinned = m.unpinned; empty = m.empty };
  logs = i.logs;
  slots = i.slots;
  owned = i.owned;
  pins = i.pins;
}

pub inv-looks : {s : Parts} (looks : List (Option Noted)) (sweeps rounds : ℕ) → IsPlainRanges s → length looks ≡ length s.pins → IsPlainRanges (record s { looks = looks; sweeps = sweeps; rounds = rounds })
inv-looks {s} looks sweeps rounds i e = record {
  few = i.few;
  files = i.files;
  pinned = i.pinned;
  looks = e;
  targets = i.targets;
  owners = i.owners;
  maps = i.maps;
  tree = i.tree;
  moves = λ range e. let m = i.moves range e in record { within = m.within; unpinned = m.unpinned; empty = m.empty };
  logs = i.logs;
  slots = i.slots;
  owned = i.owned;
  pins = i.pins;
}

pub inv-targets : {s : Parts} (targets : List (Option Target)) (targeted : ℕ) → IsPlainRanges s → length targets ≡ length s.pins → IsPlainRanges (record s { targets = targets; targeted = targeted })
inv-targets {s} targets targeted i e = record {
  few = i.few;
  files = i.files;
  pinned = i.pinned;
  looks = i.looks;
  targets = e;
  owners = i.owners;
  maps = i.maps;
  tree = i.tree;
  moves = λ range e. let m = i.moves range e in record { within = m.within; unpinned = m.unpinned; empty = m.empty };
  logs = i.logs;
  slots = i.slots;
  owned = i.owned;
  pins = i.pins;
}

-- ---- what is mapped

-- a range is mapped otherwise, and what is placed there, if anything, is still that
pub inv-maps : {s : Parts} (range : ℕ) (t : Option Target) → IsPlainRanges s → range < length s.pins → ((o : Owner) → owner_at s range ≡ Some o → IsOwned (length s.logs) t o) → IsPlainRanges (record s { maps = slice_set s.maps range t })
inv-maps {s} range t i within h = record {
  few = i.few;
  files = i.files;
  pinned = i.pinned;
  looks = i.looks;
  targets = i.targets;
  owners = i.owners;
  maps = length-set s.maps range t ∙ i.maps;
  tree = i.tree;
  moves = λ range e. let m = i.moves range e in record { within = m.within; unpinned = m.unpinned; empty = m.empty };
  logs = i.logs;
  slots = i.slots;
  owned = λ q o e. elim (cases_eq q range) [
    | inl same ↦ subst (λ (m : Option Target). IsOwned (length s.logs) m o) (sym (ap (λ n. get_or (slice_set s.maps range t) n None) same ∙ get_or-set_same s.maps range t None (omega (arith, i.maps, within))))
        (h o (ap (λ n. owner_at s n) (sym same) ∙ e))
    | inr other ↦ subst (λ (m : Option Target). IsOwned (length s.logs) m o) (sym (get_or-set_other s.maps range q t None other)) (i.owned q o e)
  ];
  pins = i.pins;
}

-- ---- what is placed

-- what changes with one entry of a file's log that is of one range
pub record IsEntry (s : Parts) (file range : ℕ) (log : List LogEntry) (o : Option Owner) : Type 0 where
  pub known : file < length s.logs
  pub within : range < length s.pins
  pub sound : sound (length s.pins) log ≡ true
  pub here : slot_in log range ≡ slot_for file range o
  pub elsewhere : (q : ℕ) → q ≢ range → slot_in log q ≡ slot_in (entries_of s file) q
  -- no other file has or had it
  pub others : (f : ℕ) → f ≢ file → slot_for f range o ≡ slot_for f range (owner_at s range)
  pub owned : (own : Owner) → o ≡ Some own → IsOwned (length s.logs) (map_at s range) own
  pub pins : 0 < pins_at s range → IsPinTarget o (pinned_at s range)

abbrev pub with_entry : Parts → Option ℕ → ℕ → ℕ → List LogEntry → Option Owner → Parts
with_entry s moves file range log o = record s { moves = moves; logs = slice_set s.logs file log; owners = slice_set s.owners range o }

entry-slots : (s : Parts) (file range : ℕ) (log : List LogEntry) (o : Option Owner) → IsPlainRanges s → IsEntry s file range log o → (f q : ℕ) →
    slot_in (get_or (slice_set s.logs file log) f []) q ≡ slot_for f q (get_or (slice_set s.owners range o) q None)
entry-slots s file range log o i h f q =
    let owners = slice_set s.owners range o in
    let logs = slice_set s.logs file log in
    let here : get_or owners range None ≡ o = get_or-set_same s.owners range o None (omega (arith, i.owners, h.within)) in
    let own : get_or logs file [] ≡ log = get_or-set_same s.logs file log [] h.known in
    elim (cases_eq f file) [
      | inl ef ↦ subst (λ f. slot_in (get_or logs f []) q ≡ slot_for f q (get_or owners q None)) (sym ef) (elim (cases_eq q range) [
        | inl eq ↦ subst (λ q. slot_in (get_or logs file []) q ≡ slot_for file q (get_or owners q None)) (sym eq)
            (ap (λ l. slot_in l range) own ∙ h.here ∙ sym (ap (slot_for file range) here))
        | inr nq ↦ ap (λ l. slot_in l q) own ∙ h.elsewhere q nq ∙ i.slots file q ∙ sym (ap (slot_for file q) (get_or-set_other s.owners range q o None nq))
      ])
      | inr nf ↦ ap (λ l. slot_in l q) (get_or-set_other s.logs file f log [] nf) ∙ i.slots f q ∙ (elim (cases_eq q range) [
        | inl eq ↦ subst (λ q. slot_for f q (owner_at s q) ≡ slot_for f q (get_or owners q None)) (sym eq) (sym (h.others f nf) ∙ sym (ap (slot_for f range) here))
        | inr nq ↦ sym (ap (slot_for f q) (get_or-set_other s.owners range q o None nq))
      ])
    ]

pub inv-entry : {s : Parts} (moves : Option ℕ) (file range : ℕ) (log : List LogEntry) (o : Option Owner) → IsPlainRanges s → IsEntry s file range log o →
    ((r : ℕ) → moves ≡ Some r → (r < length s.pins) × (pins_at s r ≡ 0) × (get_or (slice_set s.owners range o) r None ≡ None)) → IsPlainRanges (with_entry s moves file range log o)
inv-entry {s} moves file range log o i h m =
    let owners = slice_set s.owners range o in
    let logs = slice_set s.logs file log in
    let here : get_or owners range None ≡ o = get_or-set_same s.owners range o None (omega (arith, i.owners, h.within)) in
    let own : get_or logs file [] ≡ log = get_or-set_same s.logs file log [] h.known in
    let count : length logs ≡ length s.logs = length-set s.logs file log in
    record {
      few = i.few;
      files = omega (arith, count, i.files);
      pinned = i.pinned;
      looks = i.looks;
      targets = i.targets;
      owners = length-set s.owners range o ∙ i.owners;
      maps = i.maps;
      tree = subst (λ n. IfSome s.tree (λ f. f < n)) (sym count) i.tree;
      moves = λ r e. let p = m r e in record { within = p.0; unpinned = p.1; empty = p.2 };
      logs = λ f within. elim (cases_eq f file) [
        | inl ef ↦ subst (λ l. sound (length s.pins) l ≡ true) (sym (ap (λ f. get_or logs f []) ef ∙ own)) h.sound
        | inr nf ↦ subst (λ l. sound (length s.pins) l ≡ true) (sym (get_or-set_other s.logs file f log [] nf)) (i.logs f (omega (arith, count, within)))
      ];
      slots = entry-slots s file range log o i h;
      owned = λ q own e. subst (λ n. IsOwned n (map_at s q) own) (sym count) (elim (cases_eq q range) [
        | inl eq ↦ subst (λ q. IsOwned (length s.logs) (map_at s q) own) (sym eq) (h.owned own (sym here ∙ (ap (λ q. get_or owners q None) (sym eq) ∙ e)))
        | inr nq ↦ i.owned q own (sym (get_or-set_other s.owners range q o None nq) ∙ e)
      ]);
      pins = λ q some. elim (cases_eq q range) [
        | inl eq ↦ subst (λ q. IsPinTarget (get_or owners q None) (pinned_at s q)) (sym eq) (subst (λ p. IsPinTarget p (pinned_at s range)) (sym here) (h.pins (subst (λ q. 0 < pins_at s q) eq some)))
        | inr nq ↦ subst (λ p. IsPinTarget p (pinned_at s q)) (sym (get_or-set_other s.owners range q o None nq)) (i.pins q some)
      ];
    }

-- ---- a new board

abbrev pub new_parts : ℕ → ℕ → ℕ → Parts
new_parts ranges files guest = record { guest = guest; tree = None; moves = None; pins = replicate ranges 0; logs = replicate files []; pinned = replicate ranges no_target; looks = replicate ranges None; targets = replicate ranges None; targeted = 0; sweeps = 0; rounds = 0; owners = replicate ranges None; maps = replicate ranges None }

any-replicate : {X : Type 0} (n i : ℕ) (x : X) → get_or (replicate n x) i x ≡ x
any-replicate zero i x = refl
any-replicate (suc n) zero x = refl
any-replicate (suc n) (suc i) x = any-replicate n i x

no-slot : (range : ℕ) → slot_in [] range ≡ None
unfolding slot_in slots_of slots_from
no-slot range = refl

no-log : (ranges : ℕ) → sound ranges [] ≡ true
unfolding sound sound_from
no-log ranges = refl

pub inv-new : (ranges files guest : ℕ) → ranges ≤ 256 → files ≤ 64 → IsPlainRanges (new_parts ranges files guest)
inv-new ranges files guest few known =
    let count = length-replicate {A = ℕ} ranges 0 in
    let logs : (file : ℕ) → get_or (replicate files []) file [] ≡ [] = λ file. any-replicate files file [] in
    record {
      few = omega (arith, count, few);
      files = (let n = length-replicate {A = List LogEntry} files [] in omega (arith, n, known));
      pinned = length-replicate ranges no_target ∙ sym count;
      looks = length-replicate ranges None ∙ sym count;
      targets = length-replicate ranges None ∙ sym count;
      owners = length-replicate ranges None ∙ sym count;
      maps = length-replicate ranges None ∙ sym count;
      tree = tt;
      moves = λ range e. absurd (cc);
      logs = λ file within. ap (sound (length (replicate ranges 0))) (logs file) ∙ no-log (length (replicate ranges 0));
      slots = λ file range. ap (λ l. slot_in l range) (logs file) ∙ no-slot range ∙ sym (ap (slot_for file range) (any-replicate {X = Option Owner} ranges range None) ∙ slot_for-none file range);
      owned = λ range o e. absurd (let k : None ≡ Some o = sym (any-replicate {X = Option Owner} ranges range None) ∙ e in cc);
      pins = λ range some. absurd (let n = any-replicate {X = ℕ} ranges range 0 in omega (arith, n, some));
    }

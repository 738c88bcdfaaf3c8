-- What the board of one guest lets be set and cleared, and what is placed there.
use Rattle.std.proofs.Common.{◌≡◌, ◌∙◌, ap, sym, refl, subst, ℕ, ◌+◌, ◌-◌, ◌*◌, ◌/◌, ◌%◌, ◌<◌, ◌≤◌, ◌==◌, ◌&&◌, ◌||◌, Bool, true, nat_lt, nat_le, List, [], ◌∷◌, length, map, Option, Some, None, inl, inr, arith}
use Rattle.std.specs.Prelude.{IsSome}
use Rattle.std.specs.List.{list_any, AllByRecursion}
use Rattle.std.proofs.lemmas.Grind.{common_steps}
use Rattle.std.proofs.lemmas.Bool.{cases_Bool, and_parts, ltb-true, leb-true}
use Rattle.page_map.specs.declared.pages.Mode.{Mode}
use Rattle.page_map.specs.declared.pages.Mode.TheVariants as modes
use Rattle.page_map.specs.declared.pages.Span.{Span}
use Rattle.page_map.specs.declared.ranges.Target.{Target}
use Rattle.page_map.specs.Logs.{Slot, is_writable, slots_of, slot_in}
use Rattle.page_map.specs.Board.{is_range, is_moved, is_chunk_of, chunk_in, placed_in, is_at_chunk, may_set, may_clear}
use Rattle.range_tree.specs.declared.plain.Owner.{Owner}
use Rattle.range_tree.specs.Ranges.{is_enough}
use Rattle.range_tree.specs.Plain.{Parts, plain_view, owner_at, entries_of, owned_slot, slot_for, IsOwned, IsMoved, IsPlainRanges}
use Rattle.range_tree.proofs.Apart.{IsApart, apart_of}
use Rattle.range_tree.proofs.OneGuest.{owner-slot}
use Rattle.range_tree.proofs.Moves.{tree-known}
use Rattle.range_tree.proofs.Pages.{IsRange, IsSpan}
use Rattle.range_tree.proofs.Whole.{within-owned}

eq-true : (a b : ℕ) → (a == b) ≡ true → a ≡ b
eq-true a b h = grind (arith, common_steps, h)

-- ---- an interval that is a range

pub range-at : (range moffset len : ℕ) → is_range range moffset len ≡ true → (moffset ≡ range * 2097152) × (len ≡ 2097152)
range-at range moffset len h = let p = and_parts (moffset == range * 2097152) (len == 2097152) h in (eq-true moffset (range * 2097152) p.0, eq-true len 2097152 p.1)

-- the range that an interval is
abbrev pub range_of : ℕ → ℕ
range_of moffset = moffset / 2097152

range_of-at : (range moffset : ℕ) → moffset ≡ range * 2097152 → range_of moffset ≡ range
range_of-at range moffset e = omega (arith, e)

-- the moved range
pub record IsMovedAt (s : Parts) (moffset len : ℕ) : Type 0 where
  pub range : IsRange s (range_of moffset) moffset len
  pub moved : IsMoved s (range_of moffset)

moved-at : (s : Parts) (moffset len : ℕ) (m : Option ℕ) → IsPlainRanges s → s.moves ≡ m → is_moved m moffset len ≡ true → IsMovedAt s moffset len
unfolding is_moved
moved-at s moffset len None i e h = absurd (cc)
moved-at s moffset len (Some r) i e h =
    let p = range-at r moffset len h in
    let at = range_of-at r moffset p.0 in
    let m : IsMoved s r = i.moves r e in
    let w = m.within in
    record {
      range = record { within = omega (arith, at, w, i.maps); at = p.0 ∙ ap (λ n. n * 2097152) (sym at); long = p.1 };
      moved = subst (IsMoved s) (sym at) m;
    }

pub may-clear : (s : Parts) (moffset len : ℕ) → IsPlainRanges s → may_clear (plain_view s) moffset len ≡ true → IsMovedAt s moffset len
unfolding may_clear
may-clear s moffset len i h = moved-at s moffset len s.moves i refl h

-- ---- a span that is a placed chunk

pub record IsThere {X : Type 0} (P : X → Type 0) (test : X → Bool) : Type 0 where
  pub one : X
  pub holds : P one
  pub passes : test one ≡ true

any-there : {X Y : Type 0} (test : Y → Bool) (g : X → Y) (P : X → Type 0) (xs : List X) → list_any test (map g xs) ≡ true → AllByRecursion P xs → IsThere P (λ x. test (g x))
any-there test g P [] h all = absurd (cc)
any-there test g P (x ∷ xs) h all = elim (cases_Bool (test (g x))) [
  | inl hit ↦ record { one = x; holds = all.0; passes = hit }
  | inr miss ↦ any-there test g P xs (rw miss at h) all.1
]

-- the owner of a range whose whole chunk a span is
pub record IsPlacedAt (s : Parts) (span : Span) : Type 0 where
  pub range : IsRange s (range_of span.moffset) span.moffset span.len
  pub own : Owner
  pub owner : owner_at s (range_of span.moffset) ≡ Some own
  pub same_node : own.file + 2 ≡ span.node
  pub same_chunk : own.chunk * 2097152 ≡ span.foffset

pub record IsOwnedBy (o : Option Owner) (file : ℕ) (t : Slot) : Type 0 where
  pub own : Owner
  pub is : o ≡ Some own
  pub same_file : own.file ≡ file
  pub same_slot : owned_slot t.range own ≡ t

owned-by : (file : ℕ) (o : Option Owner) (t : Slot) → slot_for file t.range o ≡ Some t → IsOwnedBy o file t
unfolding slot_for
owned-by file None t e = absurd (cc)
owned-by file (Some o) t e = let h = (owner-slot file t.range (Some o) t e).0 in record { own = o; is = refl; same_file = h.0; same_slot = h.1 }

placed-slot : (s : Parts) (span : Span) (file : ℕ) (t : Slot) → IsPlainRanges s → IsApart (slots_of (entries_of s file)) t → is_chunk_of span (chunk_in file t) ≡ true → IsPlacedAt s span
unfolding slot_in
placed-slot s span file t i a h =
    let p = and_parts (is_range t.range span.moffset span.len && file + 2 == span.node) (t.chunk * 2097152 == span.foffset) h in
    let q = and_parts (is_range t.range span.moffset span.len) (file + 2 == span.node) p.0 in
    let r = range-at t.range span.moffset span.len q.0 in
    let at = range_of-at t.range span.moffset r.0 in
    let b : IsOwnedBy (owner_at s t.range) file t = owned-by file (owner_at s t.range) t (sym (i.slots file t.range) ∙ a.range) in
    let w = within-owned s t.range i (subst (λ (o : Option Owner). IsSome o) (sym b.is) refl) in
    record {
      range = record { within = omega (arith, at, w, i.maps); at = r.0 ∙ ap (λ n. n * 2097152) (sym at); long = r.1 };
      own = b.own;
      owner = ap (owner_at s) at ∙ b.is;
      same_node = ap (λ n. n + 2) b.same_file ∙ eq-true (file + 2) span.node q.1;
      same_chunk = ap (λ (x : Slot). x.chunk * 2097152) b.same_slot ∙ eq-true (t.chunk * 2097152) span.foffset p.1;
    }

placed-any : (s : Parts) (span : Span) (t : Option ℕ) → IsPlainRanges s → s.tree ≡ t → list_any (is_chunk_of span) (placed_in t s.logs) ≡ true → IsPlacedAt s span
unfolding placed_in
placed-any s span None i e h = absurd (cc)
placed-any s span (Some file) i e h =
    let log = entries_of s file in
    let there = any-there (is_chunk_of span) (chunk_in file) (IsApart (slots_of log)) (slots_of log) h (apart_of (length s.pins) log (i.logs file (tree-known s file i e))) in
    placed-slot s span file there.one i there.holds there.passes

-- ---- a span that may be set

pub record IsAtChunk (s : Parts) (span : Span) : Type 0 where
  pub node : 2 ≤ span.node
  pub known : span.node - 2 < length s.logs
  pub begins : span.foffset % 2097152 ≡ 0
  pub small : span.foffset / 2097152 < 32

at-chunk : (s : Parts) (span : Span) → is_at_chunk (length s.logs) span ≡ true → IsAtChunk s span
at-chunk s span h =
    let a = and_parts (nat_le 2 span.node && nat_lt (span.node - 2) (length s.logs) && span.foffset % 2097152 == 0) (nat_lt (span.foffset / 2097152) 32) h in
    let b = and_parts (nat_le 2 span.node && nat_lt (span.node - 2) (length s.logs)) (span.foffset % 2097152 == 0) a.0 in
    let c = and_parts (nat_le 2 span.node) (nat_lt (span.node - 2) (length s.logs)) b.0 in
    record { node = leb-true 2 span.node c.0; known = ltb-true (span.node - 2) (length s.logs) c.1; begins = eq-true (span.foffset % 2097152) 0 b.1; small = ltb-true (span.foffset / 2097152) 32 a.1 }

-- what a span maps its range to
abbrev pub span_target : Span → Target
span_target span = record { file = span.node - 2; chunk = span.foffset / 2097152; mode = span.mode }

pub span-is : (s : Parts) (span : Span) → IsAtChunk s span → IsSpan span (span_target span)
span-is s span a = let n = a.node in let b = a.begins in record { node = omega (arith, n); begins = omega (arith, b); mode = refl }

enough-writable : (a b : Mode) → is_writable b ≡ true → is_enough a b ≡ true
unfolding is_enough is_writable
enough-writable modes.R b h = refl
enough-writable modes.W modes.R h = absurd (cc)
enough-writable modes.W modes.W h = refl

-- the range that may be set, and what is placed there is what it is set to
pub record IsSettable (s : Parts) (span : Span) : Type 0 where
  pub at : IsAtChunk s span
  pub range : IsRange s (range_of span.moffset) span.moffset span.len
  pub owned : (o : Owner) → owner_at s (range_of span.moffset) ≡ Some o → IsOwned (length s.logs) (Some (span_target span)) o

settable-moved : (s : Parts) (span : Span) → IsAtChunk s span → IsMovedAt s span.moffset span.len → IsSettable s span
settable-moved s span a m = record { at = a; range = m.range; owned = λ o e. absurd (let k : None ≡ Some o = sym m.moved.empty ∙ e in cc) }

settable-placed : (s : Parts) (span : Span) → IsPlainRanges s → IsAtChunk s span → is_writable span.mode ≡ true → IsPlacedAt s span → IsSettable s span
settable-placed s span i a written p = record {
  at = a;
  range = p.range;
  owned = λ o e.
      let same : p.own ≡ o = (let k : Some p.own ≡ Some o = sym p.owner ∙ e in cc) in
      let w : IsOwned (length s.logs) _ p.own = i.owned (range_of span.moffset) p.own p.owner in
      let node = p.same_node in
      let chunk = p.same_chunk in
      subst (λ x. IsOwned (length s.logs) (Some (span_target span)) x) same (record {
        known = w.known;
        small = w.small;
        target = span_target span;
        mapped = refl;
        enough = record { same_file = omega (arith, node); same_chunk = omega (arith, chunk); enough = enough-writable p.own.mode span.mode written };
      });
}

pub may-set : (s : Parts) (span : Span) → IsPlainRanges s → may_set (plain_view s) span ≡ true → IsSettable s span
unfolding may_set
may-set s span i h =
    let rest : Bool = is_moved s.moves span.moffset span.len || (is_writable span.mode && list_any (is_chunk_of span) (placed_in s.tree s.logs)) in
    let p = and_parts (is_at_chunk (length s.logs) span) rest h in
    let a = at-chunk s span p.0 in
    elim (cases_Bool (is_moved s.moves span.moffset span.len)) [
      | inl moved ↦ settable-moved s span a (moved-at s span.moffset span.len s.moves i refl moved)
      | inr still ↦
          let q = and_parts (is_writable span.mode) (list_any (is_chunk_of span) (placed_in s.tree s.logs)) (rw still at p.1) in
          settable-placed s span i a q.0 (placed-any s span s.tree i refl q.1)
    ]

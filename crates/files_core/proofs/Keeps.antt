-- Each deed keeps a file good: each part of it by a lemma of its own.
use Rattle.std.proofs.Common.{Bool, cond, true, false, ◌≡◌, ◌≢◌, ◌⊎◌, ℕ, zero, suc, ◌+◌, ◌-◌, ◌<◌, ◌≤◌, List, [], ◌∷◌, ◌++◌, map, length, slice_get, Option, Some, None, IfSome, IsSome, refl, sym, ap, ◌∙◌, subst, ⊎_elim, inl, inr, arith, length-set, length-append, lt_of_not-le}
use mathlib.Core.Logic.{dite}
use native.Mathlib.Decide.{dec_le}
use Rattle.std.proofs.lemmas.List.Sums.{sum_by-set}
use Rattle.plain_file.specs.declared.operations.Op.{Op}
use Rattle.plain_file.specs.declared.operations.Op.TheVariants as ops
use Rattle.plain_file.specs.declared.operations.Entry.{Entry}
use Rattle.plain_file.specs.declared.operations.First.{First}
use Rattle.plain_file.specs.File.{max_file, reach}
use Rattle.plain_file.specs.History.{size}
use Rattle.files_core.specs.declared.rows.Note.{Note}
use Rattle.files_core.specs.Files.{Row, FileState, is_guest, reaches, Deed, take_turn, set_size, give_turn, lease, note_size, unlease, set_bar, clear_bar, blank, row, leases, leases_of, with_entry, whole, sized, written_size, MaySet, May, with_row, upper_or, ended_at, entered, seen_to, leased, noted_after, note, noted, noted_left, unleased, made}
use Rattle.files_core.specs.Good.{size_of, RowOk, NoteOk, GoodFile}
use Rattle.files_core.proofs.Places.{at_put, at_end, in_range}
use Rattle.files_core.proofs.Sizes.{size_front, size_more}

-- ---- guests

pub same_guest : (a b : ℕ) → Some a ≡ Some b → a ≡ b
same_guest a b e = cc

pub not_none : (a : ℕ) → None ≡ Some a → ⊥
not_none a e = cc

-- a turn that nobody has is no one's, and a turn is one guest's
unheld : (t : Option ℕ) (g : ℕ) → t ≡ None → t ≡ Some g → ⊥
unheld t g none is = not_none g (sym none ∙ is)

one_holder : (t : Option ℕ) (a b : ℕ) → t ≡ Some a → t ≡ Some b → a ≡ b
one_holder t a b p q = same_guest a b (sym p ∙ q)

-- ---- entries

none_applied : (o : Option Entry) (t : Option ℕ) → t ≡ None → IfSome o (λ e. t ≡ Some e.guest) → o ≡ None
none_applied None t none is = refl
none_applied (Some e) t none is = absurd (unheld t e.guest none is)

pub length_with : (h : List Entry) (o : Option Entry) → length h ≤ length (with_entry h o)
length_with h None = omega arith
length_with h (Some e) = omega (arith, length-append h (e ∷ []))

-- who has an entry in the whole has it in the history, or the turn
in_whole : (h : List Entry) (o : Option Entry) (t : Option ℕ) → IfSome o (λ e. t ≡ Some e.guest) → (k : ℕ) (e : Entry) → slice_get (with_entry h o) k ≡ Some e → (slice_get h k ≡ Some e) ⊎ (t ≡ Some e.guest)
in_whole h None t is k e at = inl at
in_whole h (Some x) t is k e at = ⊎_elim (λ b. inl b) (λ b. inr (is ∙ ap (λ (y : Entry). Some y.guest) b.1)) (at_end h x e k at)

-- ---- leases

pub leases_set : (c : FileState) (g : ℕ) (r : Row) → g < length c.rows → leases (with_row c g r) + (row c g).leases ≡ leases c + r.leases
leases_set c g r near = sum_by-set leases_of c.rows g r blank near

pub same_leases : (c : FileState) (g : ℕ) (r : Row) → g < length c.rows → r.leases ≡ (row c g).leases → leases (with_row c g r) ≡ leases c
same_leases c g r near e = let s = leases_set c g r near in omega arith

pub row_below : (c : FileState) (g : ℕ) → g < length c.rows → (row c g).leases ≤ leases c
row_below c g near = let s = leases_set c g blank near in let z : blank.leases ≡ 0 = refl in omega arith

-- ---- sizes

written_small : (n off k : ℕ) → n ≤ max_file → off + k ≤ max_file → written_size n off k ≤ max_file
written_small n off zero few end = few
written_small n off (suc k) few end = omega arith

sized_small : (n : ℕ) (op : Op) → n ≤ max_file → reach op ≤ max_file → sized n op ≤ max_file
unfolding sized reach
sized_small n (ops.Read off len) few end = few
sized_small n (ops.Write off bytes) few end = written_small n off (length bytes) few end
sized_small n (ops.Truncate size) few end = end
sized_small n ops.Size few end = few

-- ---- noted sizes

-- the size may fall only with no lease
noted_safe : (o : Option ℕ) (n z z' : ℕ) → (z' < z → n ≡ 0) → IfSome o (λ x. (x ≤ z) × (0 < n)) → IfSome o (λ x. (x ≤ z') × (0 < n))
noted_safe None n z z' safe h = h
noted_safe (Some x) n z z' safe h = let a = h.0 in let b = h.1 in dite (dec_le z z') (λ m. (omega arith, b)) (λ not. let none_left = safe (lt_of_not-le not) in absurd (omega arith))

noted_grows : (o : Option ℕ) (n z : ℕ) → IfSome o (λ x. (x ≤ z) × (0 < n)) → IfSome o (λ x. (x ≤ z) × (0 < n + 1))
noted_grows None n z h = h
noted_grows (Some x) n z h = (h.0, omega arith)

noted_taken : (o : Option ℕ) (n z : ℕ) → IfSome o (λ x. (x ≤ z) × (0 < n)) → IfSome (noted_after n z o) (λ x. (x ≤ z) × (0 < n))
noted_taken o zero z h = h
noted_taken o (suc n) z h = (omega arith, omega arith)

noted_kept : (o : Option ℕ) (n m z : ℕ) → IfSome o (λ x. (x ≤ z) × (0 < m)) → IfSome (noted_left n o) (λ x. (x ≤ z) × (0 < n))
noted_kept o zero m z h = tt
noted_kept None (suc n) m z h = tt
noted_kept (Some x) (suc n) m z h = (h.0, omega arith)

-- ---- notes

at_mapped : {A B : Type 0} (F : A → B) (l : List A) (i : ℕ) (b : B) → slice_get (map F l) i ≡ Some b → (a : A) × (slice_get l i ≡ Some a) × (F a ≡ b)
at_mapped F [] i b e = absurd (cc)
at_mapped F (x ∷ xs) zero b e = let s : F x ≡ b = cc in (x, refl, s)
at_mapped F (x ∷ xs) (suc i) b e = at_mapped F xs i b e

note_ended : (first : First) (h : List Entry) (u : ℕ) (n : Note) → length h ≤ u → NoteOk first h n → NoteOk first h (ended_at u n)
note_ended first h u n far ok = record { at = ok.at; above = ok.above; within = ok.within; is = ok.is; below = go n.upper ok.below }
  where
    go : (o : Option ℕ) → IfSome o (λ x. ok.at ≤ x) → IfSome (upper_or u o) (λ x. ok.at ≤ x)
    go None b = let a = ok.within in omega arith
    go (Some x) b = b

note_longer : (first : First) (h : List Entry) (e : Entry) (n : Note) → NoteOk first h n → NoteOk first (h ++ e ∷ []) n
note_longer first h e n ok = let a = ok.within in record {
  at = ok.at;
  above = ok.above;
  within = omega (arith, length-append h (e ∷ []));
  is = ok.is ∙ sym (size_front first h e ok.at a);
  below = ok.below;
}

-- ---- rows

row_put : (c : FileState) (g : ℕ) (r : Row) (i : ℕ) → g < length c.rows → ((i ≡ g) × (row (with_row c g r) i ≡ r)) ⊎ ((i ≢ g) × (row (with_row c g r) i ≡ row c i))
row_put c g r i near = at_put c.rows g i r blank near

-- every row is as it was, but the guest's
pub rows_put : (c : FileState) (guests : ℕ) (t : Option ℕ) (h : List Entry) (z g : ℕ) (r : Row) → g < length c.rows → RowOk t h z g r → ((i : ℕ) → i < guests → i ≢ g → RowOk t h z i (row c i))
    → (i : ℕ) → i < guests → RowOk t h z i (row (with_row c g r) i)
rows_put c guests t h z g r near mine others i few = ⊎_elim
    (λ e. subst (λ (x : Row). RowOk t h z i x) (sym e.1) (subst (λ (n : ℕ). RowOk t h z n r) (sym e.0) mine))
    (λ e. subst (λ (x : Row). RowOk t h z i x) (sym e.1) (others i few e.0)) (row_put c g r i near)

-- the notes of every guest are right, where those of one are new
pub notes_put : (c : FileState) (first : First) (h : List Entry) (g : ℕ) (r : Row) → g < length c.rows → ((k : ℕ) (n : Note) → slice_get r.notes k ≡ Some n → NoteOk first h n)
    → ((i k : ℕ) (n : Note) → slice_get (row c i).notes k ≡ Some n → NoteOk first h n)
    → (i k : ℕ) (n : Note) → slice_get (row (with_row c g r) i).notes k ≡ Some n → NoteOk first h n
notes_put c first h g r near mine old i k n at = ⊎_elim
    (λ e. mine k n (subst (λ (x : Row). slice_get x.notes k ≡ Some n) e.1 at))
    (λ e. old i k n (subst (λ (x : Row). slice_get x.notes k ≡ Some n) e.1 at)) (row_put c g r i near)

module _ (guests : ℕ) (c : FileState) (g : ℕ) (l : g < guests) (good : GoodFile guests c) where
  near : g < length c.rows
  near = let s = good.rows_all in omega arith

  rows_all_kept : (d : Deed) → May c g d → length (made c g d).rows ≡ guests
  rows_all_kept take_turn a = length-set c.rows g (entered (length c.history) (row c g)) ∙ good.rows_all
  rows_all_kept (set_size e) a = good.rows_all
  rows_all_kept give_turn a = length-set c.rows g (seen_to (length (whole c)) (row c g)) ∙ good.rows_all
  rows_all_kept lease a = length-set c.rows g (leased (row c g)) ∙ good.rows_all
  rows_all_kept note_size a = length-set c.rows g (noted c.size (reaches c g) (row c g)) ∙ good.rows_all
  rows_all_kept unlease a = length-set c.rows g (unleased (row c g)) ∙ good.rows_all
  rows_all_kept set_bar a = good.rows_all
  rows_all_kept clear_bar a = good.rows_all

  first_small_kept : (d : Deed) → May c g d → (made c g d).first.size ≤ max_file
  first_small_kept take_turn a = good.first_small
  first_small_kept (set_size e) a = good.first_small
  first_small_kept give_turn a = good.first_small
  first_small_kept lease a = good.first_small
  first_small_kept note_size a = good.first_small
  first_small_kept unlease a = good.first_small
  first_small_kept set_bar a = good.first_small
  first_small_kept clear_bar a = good.first_small

  size_small_kept : (d : Deed) → May c g d → (made c g d).size ≤ max_file
  size_small_kept take_turn a = good.size_small
  size_small_kept (set_size e) a = sized_small c.size e.op good.size_small a.fits
  size_small_kept give_turn a = good.size_small
  size_small_kept lease a = good.size_small
  size_small_kept note_size a = good.size_small
  size_small_kept unlease a = good.size_small
  size_small_kept set_bar a = good.size_small
  size_small_kept clear_bar a = good.size_small

  entries_small_kept : (d : Deed) → May c g d → (k : ℕ) (e : Entry) → slice_get (made c g d).history k ≡ Some e → e.guest < guests
  entries_small_kept take_turn a = good.entries_small
  entries_small_kept (set_size x) a = good.entries_small
  entries_small_kept give_turn a = λ k e at. ⊎_elim (λ b. good.entries_small k e b) (λ b. good.turn_small e.guest b) (in_whole c.history c.applied c.turn good.applied_is k e at)
  entries_small_kept lease a = good.entries_small
  entries_small_kept note_size a = good.entries_small
  entries_small_kept unlease a = good.entries_small
  entries_small_kept set_bar a = good.entries_small
  entries_small_kept clear_bar a = good.entries_small

  its_own : (i : ℕ) → Some g ≡ Some i → i < guests
  its_own i e = subst (λ (n : ℕ). n < guests) (same_guest g i e) l

  turn_small_kept : (d : Deed) → May c g d → (i : ℕ) → (made c g d).turn ≡ Some i → i < guests
  turn_small_kept take_turn a = its_own
  turn_small_kept (set_size e) a = good.turn_small
  turn_small_kept give_turn a = λ i e. absurd (not_none i e)
  turn_small_kept lease a = good.turn_small
  turn_small_kept note_size a = good.turn_small
  turn_small_kept unlease a = good.turn_small
  turn_small_kept set_bar a = good.turn_small
  turn_small_kept clear_bar a = good.turn_small

  bar_small_kept : (d : Deed) → May c g d → (i : ℕ) → (made c g d).bar ≡ Some i → i < guests
  bar_small_kept take_turn a = good.bar_small
  bar_small_kept (set_size e) a = good.bar_small
  bar_small_kept give_turn a = good.bar_small
  bar_small_kept lease a = good.bar_small
  bar_small_kept note_size a = good.bar_small
  bar_small_kept unlease a = good.bar_small
  bar_small_kept set_bar a = its_own
  bar_small_kept clear_bar a = λ i e. absurd (not_none i e)

  -- the whole of a file in which nothing is applied is its history
  at_rest : c.applied ≡ None → whole c ≡ c.history
  at_rest none = ap (λ (o : Option Entry). with_entry c.history o) none

  size_is_kept : (d : Deed) → May c g d → (made c g d).size ≡ size_of c.first (whole (made c g d))
  size_is_kept take_turn a = good.size_is
  size_is_kept (set_size e) a = ap (λ (n : ℕ). sized n e.op) (good.size_is ∙ ap (λ (h : List Entry). size_of c.first h) (at_rest a.free)) ∙ sym (size_more c.first c.history e)
  size_is_kept give_turn a = good.size_is
  size_is_kept lease a = good.size_is
  size_is_kept note_size a = good.size_is
  size_is_kept unlease a = good.size_is
  size_is_kept set_bar a = good.size_is
  size_is_kept clear_bar a = good.size_is

  applied_is_kept : (d : Deed) → May c g d → IfSome (made c g d).applied (λ e. (made c g d).turn ≡ Some e.guest)
  applied_is_kept take_turn a = subst (λ (o : Option Entry). IfSome o (λ e. Some g ≡ Some e.guest)) (sym (none_applied c.applied c.turn a good.applied_is)) tt
  applied_is_kept (set_size e) a = a.turn ∙ ap (λ (n : ℕ). Some n) (sym a.own)
  applied_is_kept give_turn a = tt
  applied_is_kept lease a = good.applied_is
  applied_is_kept note_size a = good.applied_is
  applied_is_kept unlease a = good.applied_is
  applied_is_kept set_bar a = good.applied_is
  applied_is_kept clear_bar a = good.applied_is

  no_bar_none : (o : Option ℕ) → o ≡ None → IsSome o → ⊥
  no_bar_none None e s = cc
  no_bar_none (Some x) e s = cc

  barred_kept : (d : Deed) → May c g d → IsSome (made c g d).bar → leases (made c g d) ≡ 0
  barred_kept take_turn a b = same_leases c g (entered (length c.history) (row c g)) near refl ∙ good.barred b
  barred_kept (set_size e) a b = good.barred b
  barred_kept give_turn a b = same_leases c g (seen_to (length (whole c)) (row c g)) near refl ∙ good.barred b
  barred_kept lease a b = absurd (no_bar_none c.bar a.0 b)
  barred_kept note_size a b = same_leases c g (noted c.size (reaches c g) (row c g)) near refl ∙ good.barred b
  barred_kept unlease a b = let z = good.barred b in let under = row_below c g near in absurd (omega arith)
  barred_kept set_bar a b = a.1
  barred_kept clear_bar a b = absurd (cc)

  reached : reaches c g ≤ length (whole c)
  reached = go (is_guest g c.turn)
    where
      go : (b : Bool) → cond b (length (whole c)) (row c g).seen ≤ length (whole c)
      go true = omega arith
      go false = let a = (good.rows_ok g l).seen in let b = length_with c.history c.applied in omega arith

  noted_now : NoteOk c.first (whole c) (note c.size (reaches c g))
  noted_now = let r = reached in record { at = length (whole c); above = omega arith; within = omega arith; is = good.size_is; below = tt }

  notes_ok_kept : (d : Deed) → May c g d → (i k : ℕ) (n : Note) → slice_get (row (made c g d) i).notes k ≡ Some n → NoteOk c.first (whole (made c g d)) n
  notes_ok_kept take_turn a = notes_put c c.first (whole c) g (entered (length c.history) (row c g)) near (λ k n at.
      let x = at_mapped (ended_at (length c.history)) (row c g).notes k n at in let z = ap (λ (h : List Entry). length h) (at_rest (none_applied c.applied c.turn a good.applied_is)) in
      subst (λ (y : Note). NoteOk c.first (whole c) y) x.2 (note_ended c.first (whole c) (length c.history) x.0 (omega arith) (good.notes_ok g k x.0 x.1))) good.notes_ok
  notes_ok_kept (set_size e) a = λ i k n at. note_longer c.first c.history e n (subst (λ (h : List Entry). NoteOk c.first h n) (at_rest a.free) (good.notes_ok i k n at))
  notes_ok_kept give_turn a = notes_put c c.first (whole c) g (seen_to (length (whole c)) (row c g)) near (good.notes_ok g) good.notes_ok
  notes_ok_kept lease a = notes_put c c.first (whole c) g (leased (row c g)) near (good.notes_ok g) good.notes_ok
  notes_ok_kept note_size a = notes_put c c.first (whole c) g (noted c.size (reaches c g) (row c g)) near (λ k n at. ⊎_elim (λ b. good.notes_ok g k n b) (λ b. subst (λ (y : Note). NoteOk c.first (whole c) y) b.1 noted_now) (at_end (row c g).notes (note c.size (reaches c g)) n k at)) good.notes_ok
  notes_ok_kept unlease a = notes_put c c.first (whole c) g (unleased (row c g)) near (good.notes_ok g) good.notes_ok
  notes_ok_kept set_bar a = good.notes_ok
  notes_ok_kept clear_bar a = good.notes_ok

  -- a size that falls meets no lease
  falls_safe : (e : Entry) → MaySet c g e → (i : ℕ) → i < guests → sized c.size e.op < c.size → (row c i).leases ≡ 0
  falls_safe e a i few falls = let none_left = good.barred (subst (λ (o : Option ℕ). IsSome o) (sym (a.barred falls)) refl) in let s = good.rows_all in let under = row_below c i (omega arith) in omega arith

  rows_ok_kept : (d : Deed) → May c g d → (i : ℕ) → i < guests → RowOk (made c g d).turn (made c g d).history (made c g d).size i (row (made c g d) i)
  rows_ok_kept take_turn a = let me = good.rows_ok g l in rows_put c guests (Some g) c.history c.size g (entered (length c.history) (row c g)) near
      record { seen = omega arith; at_turn = λ _. refl; own = λ k e at _. in_range c.history k e at; noted = me.noted; few = me.few }
      (λ i few other. let r = good.rows_ok i few in record { seen = r.seen; at_turn = λ t. absurd (other (sym (same_guest g i t))); own = r.own; noted = r.noted; few = r.few })
  rows_ok_kept (set_size e) a = λ i few. let r = good.rows_ok i few in record { seen = r.seen; at_turn = r.at_turn; own = r.own; noted = noted_safe (row c i).noted (row c i).leases c.size (sized c.size e.op) (falls_safe e a i few) r.noted; few = r.few }
  rows_ok_kept give_turn a = let me = good.rows_ok g l in rows_put c guests None (whole c) c.size g (seen_to (length (whole c)) (row c g)) near
      record { seen = omega arith; at_turn = λ _. refl; own = λ k e at _. in_range (whole c) k e at; noted = me.noted; few = me.few }
      (λ i few other. let r = good.rows_ok i few in let more = length_with c.history c.applied in record {
        seen = let s = r.seen in omega arith;
        at_turn = λ t. absurd (not_none i t);
        own = λ k e at is. ⊎_elim (λ b. r.own k e b is) (λ b. absurd (other (sym is ∙ one_holder c.turn e.guest g b a))) (in_whole c.history c.applied c.turn good.applied_is k e at);
        noted = r.noted;
        few = r.few;
      })
  rows_ok_kept lease a = let me = good.rows_ok g l in let few = a.1 in rows_put c guests c.turn c.history c.size g (leased (row c g)) near
      record { seen = me.seen; at_turn = me.at_turn; own = me.own; noted = noted_grows (row c g).noted (row c g).leases c.size me.noted; few = omega arith } (λ i few other. good.rows_ok i few)
  rows_ok_kept note_size a = let me = good.rows_ok g l in rows_put c guests c.turn c.history c.size g (noted c.size (reaches c g) (row c g)) near
      record { seen = me.seen; at_turn = me.at_turn; own = me.own; noted = noted_taken (row c g).noted (row c g).leases c.size me.noted; few = me.few } (λ i few other. good.rows_ok i few)
  rows_ok_kept unlease a = let me = good.rows_ok g l in let few = me.few in rows_put c guests c.turn c.history c.size g (unleased (row c g)) near
      record { seen = me.seen; at_turn = me.at_turn; own = me.own; noted = noted_kept (row c g).noted ((row c g).leases - 1) (row c g).leases c.size me.noted; few = omega arith } (λ i few other. good.rows_ok i few)
  rows_ok_kept set_bar a = good.rows_ok
  rows_ok_kept clear_bar a = good.rows_ok

  first_kept : (d : Deed) → (made c g d).first ≡ c.first
  first_kept take_turn = refl
  first_kept (set_size e) = refl
  first_kept give_turn = refl
  first_kept lease = refl
  first_kept note_size = refl
  first_kept unlease = refl
  first_kept set_bar = refl
  first_kept clear_bar = refl

  pub file_keeps : (d : Deed) → May c g d → GoodFile guests (made c g d)
  file_keeps d a = record {
    rows_all = rows_all_kept d a;
    first_small = first_small_kept d a;
    size_small = size_small_kept d a;
    entries_small = entries_small_kept d a;
    turn_small = turn_small_kept d a;
    bar_small = bar_small_kept d a;
    size_is = subst (λ (f : First). (made c g d).size ≡ size_of f (whole (made c g d))) (sym (first_kept d)) (size_is_kept d a);
    applied_is = applied_is_kept d a;
    barred = barred_kept d a;
    notes_ok = subst (λ (f : First). (i k : ℕ) (n : Note) → slice_get (row (made c g d) i).notes k ≡ Some n → NoteOk f (whole (made c g d)) n) (sym (first_kept d)) (notes_ok_kept d a);
    rows_ok = rows_ok_kept d a;
  }

-- What a deed makes of what a pass is shown.
use Rattle.std.proofs.Common.{◌≡◌, ℕ, ◌<◌, List, [], ◌∷◌, ◌++◌, map, length, take, drop, set, true, false, Bool, cond, Option, Some, None, IfSome, refl, sym, ap, ◌∙◌, subst, arith, get_or-set_same, length-set}
use lib.Seq.{map-set, map-set_same}
use Rattle.std.proofs.Math.Seq.{take-length}
use Rattle.std.proofs.lemmas.List.{take-append-drop, length-take-le}
use Rattle.seats.specs.Views.{guests}
use Rattle.plain_file.specs.declared.operations.Entry.{Entry}
use Rattle.files_core.specs.Files.{Row, FileState, is_guest, reaches, row, no_file, file, with_entry, whole, entered, seen_to, leased, noted, unleased, ended_at, note, noted_after, Deed, take_turn, set_size, give_turn, lease, note_size, unlease, set_bar, clear_bar, made, on, after}
use Rattle.files_core.specs.Good.{GoodFile, GoodFiles, size_of}
use Rattle.files_core.specs.Shown.{Shown, shown_of}
use Rattle.files_core.proofs.AllKeep.{files_keep}
use Rattle.file_share.specs.Table.{Core, Mine, Knows, part, first_of}
use Rattle.file_share.specs.Steps.{DoesOn}
use Rattle.file_share.specs.Known.{IsShown, taken_part, applied_part, given_part, noted_part, leased_part, unleased_part, barred_part, whole_of}
use Rattle.file_share.proofs.Places.{first_kept, row_here}
use Rattle.file_share.proofs.Parts.{part_is, is_its, is_itself}

-- ---- one file, as a guest is shown it

-- as a function of the guest's row
abbrev pub shown_by : FileState → ℕ → Option ℕ → Option Entry → List Entry → Option ℕ → Row → Shown
shown_by c g turn applied history bar r = record { seen = take r.seen history; turn = is_guest g turn; applied = cond (is_guest g turn) applied None; leases = r.leases; noted = r.noted; bar = is_guest g bar; notes = r.notes }

at_rest : (o : Option Entry) (h : List Entry) → o ≡ None → with_entry h o ≡ h
at_rest o h e = ap (with_entry h) e

module _ (c : FileState) (g : ℕ) (l : g < guests) (good : GoodFile guests c) where
  near : g < length c.rows
  near = let s = good.rows_all in omega arith

  abbrev r : Row
  r = row c g

  none_yet : c.turn ≡ None → c.applied ≡ None
  none_yet free = go c.applied good.applied_is
    where
      go : (o : Option Entry) → IfSome o (λ e. c.turn ≡ Some e.guest) → o ≡ None
      go None h = refl
      go (Some e) h = absurd (let x : None ≡ Some e.guest = sym free ∙ h in cc)

  -- what was seen, with what comes then, is the whole history
  pub seen_whole : take r.seen c.history ++ drop r.seen c.history ≡ c.history
  seen_whole = take-append-drop r.seen c.history

  pub shown_taken : c.turn ≡ None → shown_of g (made c g take_turn) ≡ taken_part (drop r.seen c.history) (shown_of g c)
  shown_taken free =
      let seen = take-length c.history ∙ sym seen_whole in
      let applied = ap (λ b. cond b c.applied None) (is_itself g) ∙ none_yet free in
      let far = sym seen_whole in
      ap (shown_by c g (Some g) c.applied c.history c.bar) (row_here c g (entered (length c.history) r) near)
      ∙ (λ i. record { seen = seen i; turn = is_itself g i; applied = applied i; leases = r.leases; noted = r.noted; bar = is_guest g c.bar; notes = map (ended_at (length (far i))) r.notes })

  pub shown_applied : (e : Entry) → c.turn ≡ Some g → shown_of g (made c g (set_size e)) ≡ applied_part e (shown_of g c)
  shown_applied e on = let a = ap (λ b. cond b (Some e) None) (ap (is_guest g) on ∙ is_itself g) in λ i. record (shown_of g c) { applied = a i }

  applied_mine : c.turn ≡ Some g → (shown_of g c).applied ≡ c.applied
  applied_mine on = ap (λ b. cond b c.applied None) (ap (is_guest g) on ∙ is_itself g)

  seen_mine : c.turn ≡ Some g → (shown_of g c).seen ≡ c.history
  seen_mine on = ap (λ n. take n c.history) ((good.rows_ok g l).at_turn on) ∙ take-length c.history

  pub whole_mine : c.turn ≡ Some g → whole_of (shown_of g c) ≡ whole c
  whole_mine on = let s = seen_mine on in let a = applied_mine on in λ i. with_entry (s i) (a i)

  pub shown_given : c.turn ≡ Some g → shown_of g (made c g give_turn) ≡ given_part (shown_of g c)
  shown_given on = let seen = take-length (whole c) ∙ sym (whole_mine on) in
      ap (shown_by c g None None (whole c) c.bar) (row_here c g (seen_to (length (whole c)) r) near)
      ∙ (λ i. record { seen = seen i; turn = false; applied = None; leases = r.leases; noted = r.noted; bar = is_guest g c.bar; notes = r.notes })

  pub shown_leased : shown_of g (made c g lease) ≡ leased_part (shown_of g c)
  shown_leased = ap (shown_by c g c.turn c.applied c.history c.bar) (row_here c g (leased r) near)

  pub shown_unleased : shown_of g (made c g unlease) ≡ unleased_part (shown_of g c)
  shown_unleased = ap (shown_by c g c.turn c.applied c.history c.bar) (row_here c g (unleased r) near)

  reach_is : reaches c g ≡ length (whole_of (shown_of g c))
  reach_is = go (is_guest g c.turn) refl
    where
      go : (b : Bool) → is_guest g c.turn ≡ b → cond b (length (whole c)) r.seen ≡ length (with_entry (take r.seen c.history) (cond b c.applied None))
      go true e = let on = is_its g c.turn e in let s = seen_mine on in sym (ap (λ h. length (with_entry h c.applied)) s)
      go false e = sym (length-take-le r.seen c.history (good.rows_ok g l).seen)

  pub shown_noted : shown_of g (made c g note_size) ≡ noted_part c.size (shown_of g c)
  shown_noted = ap (shown_by c g c.turn c.applied c.history c.bar) (row_here c g (noted c.size (reaches c g) r) near)
      ∙ (λ i. record (shown_of g c) { noted = noted_after r.leases c.size r.noted; notes = r.notes ++ note c.size (reach_is i) ∷ [] })

  pub shown_barred : shown_of g (made c g set_bar) ≡ barred_part true (shown_of g c)
  shown_barred = λ i. record (shown_of g c) { bar = is_itself g i }

  pub shown_unbarred : shown_of g (made c g clear_bar) ≡ barred_part false (shown_of g c)
  shown_unbarred = refl

  -- the size is that of what is seen, while the turn is had
  pub size_mine : c.turn ≡ Some g → c.size ≡ size_of c.first (whole_of (shown_of g c))
  size_mine on = good.size_is ∙ sym (ap (size_of c.first) (whole_mine on))

-- ---- a pass

module _ (f : ℕ) (d : Deed) (P : Core → Type 0) (v w : Knows) (t : DoesOn f d P v w) where
  abbrev c : FileState
  c = file t.core.files f

  pub core_near : f < length t.core.files
  core_near = t.allowed.allowed.known

  pub good_here : GoodFile guests c
  good_here = t.good.files_good.files_ok f core_near

  pub before_is : part v f ≡ shown_of v.guest c
  before_is = part_is v t.core t.part f

  made_is : w.mine ≡ record { firsts = map first_of (set t.core.files f (made c v.guest d)); leasers = t.core.leasers; files = map (shown_of v.guest) (set t.core.files f (made c v.guest d)) }
  made_is = ap (λ (u : Knows). u.mine) t.is

  -- what is shown afterwards is as before but for the file
  pub shown_made : w.mine ≡ record v.mine { files = set v.mine.files f (shown_of v.guest (made c v.guest d)) }
  shown_made =
      let firsts = map-set_same first_of t.core.files f (made c v.guest d) no_file (first_kept c v.guest d) ∙ sym (ap (λ (m : Mine). m.firsts) t.part) in
      let leasers = sym (ap (λ (m : Mine). m.leasers) t.part) in
      let files = map-set (shown_of v.guest) t.core.files f (made c v.guest d) ∙ ap (λ l. set l f (shown_of v.guest (made c v.guest d))) (sym (ap (λ (m : Mine). m.files) t.part)) in
      made_is ∙ (λ i. record { firsts = firsts i; leasers = leasers i; files = files i })

  pub shown_as : (m : Shown) → shown_of v.guest (made c v.guest d) ≡ m → IsShown f m v w
  shown_as m e = shown_made ∙ ap (λ x. record v.mine { files = set v.mine.files f x }) e

  pub guest_kept : w.guest ≡ v.guest
  guest_kept = ap (λ (u : Knows). u.guest) t.is

  pub live_kept : w.live ≡ v.live
  live_kept = ap (λ (u : Knows). u.live) t.is

  pub numbers_kept : w.numbers ≡ v.numbers
  numbers_kept = ap (λ (u : Knows). u.numbers) t.is

  -- the file after the deed is good
  pub good_after : v.guest < guests → GoodFiles guests (after t.core.files v.guest (on f d))
  good_after l = files_keep guests t.core.files v.guest l t.good.files_good (on f d) t.allowed.allowed

  pub good_made : v.guest < guests → GoodFile guests (made c v.guest d)
  good_made l = subst (GoodFile guests) (get_or-set_same t.core.files f (made c v.guest d) no_file core_near) ((good_after l).files_ok f (let e = length-set t.core.files f (made c v.guest d) in let n = core_near in omega arith))

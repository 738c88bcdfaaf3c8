-- Whatever a guest does, each other is shown the same.
use Rattle.std.proofs.Common.{◌≡◌, ◌≢◌, ℕ, ◌<◌, ◌≤◌, List, [], ◌∷◌, take, length, Bool, true, false, cond, Option, Some, None, refl, sym, ap, ◌∙◌, get_or-set_other, ne_eqb}
use lib.Seq.{map-set_same}
use Rattle.std.proofs.lemmas.List.{take-append-le}
use Rattle.plain_file.specs.declared.operations.Entry.{Entry}
use Rattle.files_core.specs.Files.{Row, FileState, is_guest, reaches, blank, row, no_file, file, with_entry, whole, with_row, entered, seen_to, leased, noted, unleased, Deed, take_turn, set_size, give_turn, lease, note_size, unlease, set_bar, clear_bar, May, made, FileDeed, Allowed, after}
use Rattle.files_core.specs.Good.{GoodFile, GoodFiles}
use Rattle.files_core.specs.Shown.{shown_of, shown}

take_with : (n : ℕ) (h : List Entry) (o : Option Entry) → n ≤ length h → take n (with_entry h o) ≡ take n h
take_with n h None l = refl
take_with n h (Some e) l = take-append-le n h (e ∷ []) l

module _ (guests : ℕ) (c : FileState) (g o : ℕ) (ne : o ≢ g) (l : o < guests) (good : GoodFile guests c) where
  row_else : (r : Row) → row (with_row c g r) o ≡ row c o
  row_else r = get_or-set_other c.rows g o r blank ne

  other : is_guest o (Some g) ≡ false
  other = ne_eqb g o (λ e. ne (sym e))

  not_its : (t : Option ℕ) → t ≡ Some g → is_guest o t ≡ false
  not_its t e = ap (λ (x : Option ℕ). is_guest o x) e ∙ other

  nobodys : (t : Option ℕ) → t ≡ None → is_guest o t ≡ false
  nobodys t e = ap (λ (x : Option ℕ). is_guest o x) e

  nothing : (b : Bool) (a : Option Entry) → b ≡ false → cond b a None ≡ None
  nothing true a e = cc
  nothing false a e = refl

  same_row : (r : Row) → shown_of o (with_row c g r) ≡ shown_of o c
  same_row r = let e = row_else r in λ i. record (shown_of o c) { seen = take (e i).seen c.history; leases = (e i).leases; noted = (e i).noted; notes = (e i).notes }

  pub other_sees : (d : Deed) → May c g d → shown_of o (made c g d) ≡ shown_of o c
  other_sees take_turn a = let e = row_else (entered (length c.history) (row c g)) in let t = nobodys c.turn a in let turn = other ∙ sym t in
      let applied = nothing (is_guest o (Some g)) c.applied other ∙ sym (nothing (is_guest o c.turn) c.applied t) in
      λ i. record { seen = take (e i).seen c.history; turn = turn i; applied = applied i; leases = (e i).leases; noted = (e i).noted; bar = is_guest o c.bar; notes = (e i).notes }
  other_sees (set_size x) a = let t = not_its c.turn a.turn in let applied = nothing (is_guest o c.turn) (Some x) t ∙ sym (nothing (is_guest o c.turn) c.applied t) in λ i. record (shown_of o c) { applied = applied i }
  other_sees give_turn a = let e = row_else (seen_to (length (whole c)) (row c g)) in let t = not_its c.turn a in let turn = sym t in let applied = sym (nothing (is_guest o c.turn) c.applied t) in
      let seen = ap (λ (r : Row). take r.seen (whole c)) e ∙ take_with (row c o).seen c.history c.applied (good.rows_ok o l).seen in
      λ i. record { seen = seen i; turn = turn i; applied = applied i; leases = (e i).leases; noted = (e i).noted; bar = is_guest o c.bar; notes = (e i).notes }
  other_sees lease a = same_row (leased (row c g))
  other_sees note_size a = same_row (noted c.size (reaches c g) (row c g))
  other_sees unlease a = same_row (unleased (row c g))
  other_sees set_bar a = let b = other ∙ sym (nobodys c.bar a.0) in λ i. record (shown_of o c) { bar = b i }
  other_sees clear_bar a = let b = sym (not_its c.bar a) in λ i. record (shown_of o c) { bar = b i }

pub others_see : (guests g o : ℕ) (cs : List FileState) (d : FileDeed) → o ≢ g → o < guests → GoodFiles guests cs → Allowed cs g d → shown o (after cs g d) ≡ shown o cs
others_see guests g o cs d ne l good a = map-set_same (shown_of o) cs d.at (made (file cs d.at) g d.deed) no_file (other_sees guests (file cs d.at) g o ne l (good.files_ok d.at a.known) d.deed a.may)

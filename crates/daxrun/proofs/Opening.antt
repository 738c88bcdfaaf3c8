-- Files of different names are found and opened one after another.
use Rattle.std.proofs.Common.{◌≡◌, ◌∙◌, ap, sym, subst, refl, ℕ, zero, suc, ◌+◌, ◌-◌, ◌<◌, ◌≤◌, ◌^◌, min, nat_lt, Bool, true, false, true≢false, ⊎_elim, List, [], ◌∷◌, ◌++◌, length, map, replicate, get_or, get_or-set_same, slice_get, slice_set, slice_index_or, Option, Some, None, arith, length-append, if◌then◌else◌, position}
use Rattle.std.specs.List.{AllByRecursion, IsDistinct, list_any, position_or_len}
use Rattle.std.specs.Str.{bytes_eq}
use Rattle.std.proofs.lemmas.Bool.{lt-ltb}
use Rattle.std.proofs.lemmas.Grind.{common_steps}
use Rattle.std.proofs.lemmas.List.{length-set, length-replicate}
use Rattle.std.proofs.lemmas.Option.{slice_get-get_or}
use Rattle.std.proofs.lemmas.List.Sums.{position_or_len_is}
use Rattle.std.proofs.lemmas.Slice.Eq.{bytes_eq-Decides}
use Rattle.plain_file.specs.declared.operations.First.{First}
use Rattle.plain_file.specs.File.{max_file}
use Rattle.plain_file.specs.History.{bytes, after_all}
use Rattle.plain_file.specs.Plain.{new_board, new_file}
use Rattle.plain_file.specs.Board.{BoardView, no_file, file_at, bytes_now, size_of}
use Rattle.fuse_device.specs.State as state
use Rattle.fuse_device.specs.State.{State, no_made, is_made, made_at, is_same_name, has_name, named, begun, new_state, looked_up, counted_up, with_open, next_opened, is_dir, is_open}
use Rattle.fuse_device.specs.declared.tables.MadeFile.{MadeFile}
use Rattle.fuse_device.specs.declared.tables.Opened.{Opened}
use Rattle.fuse_device.specs.Checks.{is_known, is_handle, may_open}
use Rattle.fuse_device.specs.OpenFiles.{HasOpenFile}
use Rattle.fuse_device.proofs.OpenHandles.{opened_is_open}
use Rattle.guest_wire.specs.declared.driver.FileRef.{FileRef}
use Rattle.dax_script.specs.declared.scripts.FileLine.{FileLine}
use Rattle.daxrun.specs.Session.{IsSession, IsThere, AreOpen, AreSmall, firsts_of}
use Rattle.guest_run.proofs.Places.{none_is, some_is, within, at_end, in_map, map_at, map_len}

-- ---- names

abbrev pub made_names : List MadeFile → List (Option (List ℕ))
made_names made = map (λ (f : MadeFile). f.name) made

new_named : (names : List (List ℕ)) → made_names (map state.new_file names) ≡ map Some names
new_named [] = refl
new_named (n ∷ names) = ap (λ (xs : List (Option (List ℕ))). Some n ∷ xs) (new_named names)

-- the device right after INIT
pub session_begun : (pages : ℕ) (names : List (List ℕ)) (s : State) → s ≡ begun (new_state pages names) → IsSession names 0 s
session_begun pages names s e = rw e record { started = refl; named = new_named names; opened = refl; next = omega arith }

-- of different names a later one is another
later_differs : (names : List (List ℕ)) (i k : ℕ) (a b : List ℕ) → IsDistinct bytes_eq names → k < i → slice_get names k ≡ Some a → slice_get names i ≡ Some b → bytes_eq a b ≡ false
unfolding IsDistinct
later_differs [] i k a b d lt at at' = absurd (none_is a at)
later_differs (n ∷ names) zero k a b d lt at at' = absurd (omega arith)
later_differs (n ∷ names) (suc i) zero a b d lt at at' = ap (λ (x : List ℕ). bytes_eq x b) (sym (some_is n a at)) ∙ each names i b d.0 at'
  where
    each : (ns : List (List ℕ)) (j : ℕ) (x : List ℕ) → AllByRecursion (λ y. bytes_eq n y ≡ false) ns → slice_get ns j ≡ Some x → bytes_eq n x ≡ false
    each [] j x all there = absurd (none_is x there)
    each (y ∷ ns) zero x all there = ap (bytes_eq n) (sym (some_is y x there)) ∙ all.0
    each (y ∷ ns) (suc j) x all there = each ns j x all.1 there
later_differs (n ∷ names) (suc i) (suc k) a b d lt at at' = later_differs names i k a b d.1 (omega arith) at at'

not_true : (b : Bool) → (b ≡ true → ⊥) → b ≡ false
not_true true h = absurd (h refl)
not_true false h = refl

other_way : (a b : List ℕ) → bytes_eq a b ≡ false → bytes_eq b a ≡ false
other_way a b h = not_true (bytes_eq b a) (λ e. true≢false (sym ((bytes_eq-Decides a b).1 (sym ((bytes_eq-Decides b a).0 e))) ∙ h))

-- a made file has the name of its number
module _ (names : List (List ℕ)) (made : List MadeFile) (all : made_names made ≡ map Some names) where
  as_many : length made ≡ length names
  as_many = sym (map_len (λ (f : MadeFile). f.name) made) ∙ ap length all ∙ map_len Some names

  its_name : (k : ℕ) (f : MadeFile) → slice_get made k ≡ Some f → (name : List ℕ) × (slice_get names k ≡ Some name) × (f.name ≡ Some name)
  its_name k f at =
      let a = map_at (λ (g : MadeFile). g.name) made k f at in
      let b = in_map Some names k f.name (ap (λ (xs : List (Option (List ℕ))). slice_get xs k) (sym all) ∙ a) in
      (b.0, b.1, sym b.2)

  read_made : (k : ℕ) → k < length made → slice_get made k ≡ Some (get_or made k no_made)
  read_made k lt = slice_get-get_or made k no_made lt

  pub found_named : (i : ℕ) (name : List ℕ) → IsDistinct bytes_eq names → slice_get names i ≡ Some name → position (has_name name) made ≡ Some i
  found_named i name different at =
      let lt : i < length made = (let w = within names i name at in let e = as_many in omega arith) in
      let here : has_name name (get_or made i no_made) ≡ true =
      let x = its_name i (get_or made i no_made) (read_made i lt) in
      ap (is_same_name name) (x.2 ∙ sym x.1 ∙ at) ∙ (bytes_eq-Decides name name).1 refl in
      let before : (k : ℕ) → k < i → has_name name (get_or made k no_made) ≡ false = λ k low.
      let x = its_name k (get_or made k no_made) (read_made k (omega arith)) in
      ap (is_same_name name) x.2 ∙ other_way x.0 name (later_differs names i k x.0 name different low x.1 at) in
      let place : position_or_len (has_name name) made ≡ i = position_or_len_is (has_name name) made i no_made (omega arith) before (λ _. here) in
      ap (λ (n : ℕ). if nat_lt n (length made) then Some n else None) place ∙ ap (λ (b : Bool). if b then Some i else None) (lt-ltb i (length made) lt)

-- the file of a name is there
pub is_there : (names : List (List ℕ)) (count i : ℕ) (name : List ℕ) (s : State) → IsSession names count s → IsDistinct bytes_eq names → slice_get names i ≡ Some name → count < 16 → IsThere name i s
unfolding named is_made may_open
is_there names count i name s h different at few =
    let lt : i < length s.made = (let w = within names i name at in let e = as_many names s.made h.named in omega arith) in
    let o = h.opened in
    let n = h.next in
    record {
      started = h.started;
      found = found_named names s.made h.named i name different at;
      made = grind (arith, common_steps);
      may = grind (arith, common_steps);
    }

-- ---- a file that was looked up

counted_up-some : (n : ℕ) → nat_lt 0 (min (n + 1) (2 ^ 64 - 1)) ≡ true
counted_up-some n = lt-ltb 0 (min (n + 1) (2 ^ 64 - 1)) (omega arith)

-- it is known, and all else is as it was
pub record IsFound (s : State) (file : ℕ) : Type 0 where
  pub started : s.started ≡ true
  pub known : is_known s (file + 2) ≡ true
  pub made : is_made s (file + 2) ≡ true
  pub may : may_open s ≡ true

two_more : (n : ℕ) → n + 2 - 2 ≡ n
two_more n = omega arith

pub is_found : (name : List ℕ) (file : ℕ) (s : State) → IsThere name file s → IsFound (looked_up s file) file
unfolding is_known is_made may_open
is_found name file s h =
    let made = h.made in
    let n = two_more file in
    let lt : file < length s.made = grind (arith, common_steps) in
    let len : length (looked_up s file).made ≡ length s.made = length-set s.made file (counted_up (made_at s (file + 2))) in
    let here : made_at (looked_up s file) (file + 2) ≡ counted_up (made_at s (file + 2)) = ap (λ (k : ℕ). slice_index_or (looked_up s file).made k no_made) n ∙ get_or-set_same s.made file (counted_up (made_at s (file + 2))) no_made lt in
    let up : nat_lt 0 (made_at (looked_up s file) (file + 2)).lookups ≡ true = ap (λ (f : MadeFile). nat_lt 0 f.lookups) here ∙ counted_up-some (made_at s (file + 2)).lookups in
    let there : is_made (looked_up s file) (file + 2) ≡ true = grind (arith, common_steps) in
    record {
      started = h.started;
      known = grind (arith, common_steps);
      made = there;
      may = h.may;
    }

-- ---- one more file opened

names_set : (made : List MadeFile) (i : ℕ) → made_names (slice_set made i (counted_up (slice_index_or made i no_made))) ≡ made_names made
names_set [] i = refl
names_set (f ∷ made) zero = refl
names_set (f ∷ made) (suc i) = ap (λ (xs : List (Option (List ℕ))). f.name ∷ xs) (names_set made i)

pub session_more : (names : List (List ℕ)) (count : ℕ) (s : State) → IsSession names count s → IsSession names (count + 1) (with_open (looked_up s count) (count + 2))
session_more names count s h =
    let n = two_more count in
    let o = h.opened in
    let x = h.next in
    record {
      started = h.started;
      named = ap (λ (k : ℕ). made_names (slice_set s.made count (counted_up (slice_index_or s.made k no_made)))) n ∙ names_set s.made count ∙ h.named;
      opened = length-append s.opened (next_opened (looked_up s count) (count + 2) ∷ []) ∙ ap (λ (k : ℕ). k + 1) o;
      next = ap (λ (k : ℕ). k + 1) x;
    }

any_front : (p : Opened → Bool) (os : List Opened) (o : Opened) → list_any p os ≡ true → list_any p (os ++ o ∷ []) ≡ true
any_front p [] o h = absurd (true≢false (sym h))
any_front p (x ∷ os) o h = grind (arith, common_steps, any_front p os o)

-- an open handle stays
stays_open : (s : State) (count node fh : ℕ) → HasOpenFile s node fh → HasOpenFile (with_open (looked_up s count) (count + 2)) node fh
unfolding is_made is_handle
stays_open s count node fh h =
    let len : length (looked_up s count).made ≡ length s.made = length-set s.made count (counted_up (made_at s (count + 2))) in
    let made = h.made in
    record {
      started = h.started;
      made = grind (arith, common_steps);
      handle = any_front _ s.opened (next_opened (looked_up s count) (count + 2)) h.handle;
    }

pub open_more : (ats : List FileRef) (s : State) (at : FileRef) → AreOpen ats s → at.node ≡ length ats + 2 → HasOpenFile (with_open (looked_up s (length ats)) (length ats + 2)) at.node at.fh
    → AreOpen (ats ++ at ∷ []) (with_open (looked_up s (length ats)) (length ats + 2))
open_more ats s at h node opened = record {
  each = λ i a there. ⊎_elim
      (λ (old : slice_get ats i ≡ Some a). let x = h.each i a old in (x.0, stays_open s (length ats) a.node a.fh x.1))
      (λ (new : (i ≡ length ats) × (at ≡ a)). subst (λ (z : FileRef). (z.node ≡ i + 2) × HasOpenFile (with_open (looked_up s (length ats)) (length ats + 2)) z.node z.fh) new.1 (node ∙ ap (λ (k : ℕ). k + 2) (sym new.0), opened))
      (at_end ats at a i there);
}

-- ---- a board on which nothing was done

pub size_of-new : (first : First) → size_of (new_file first) ≡ first.size
unfolding bytes_now bytes after_all
size_of-new first = length-replicate first.size first.fill

small_from : (fs : List First) (i : ℕ) → AllByRecursion (λ (f : First). f.size ≤ max_file) fs → size_of (slice_index_or (map new_file fs) i no_file) ≤ max_file
unfolding bytes_now bytes after_all
small_from [] i all = omega arith
small_from (f ∷ fs) zero all = let e = size_of-new f in let h = all.0 in omega arith
small_from (f ∷ fs) (suc i) all = small_from fs i all.1

pub firsts_small : (fs : List FileLine) → AllByRecursion (λ (f : FileLine). f.first.size ≤ max_file) fs → AllByRecursion (λ (f : First). f.size ≤ max_file) (firsts_of fs)
firsts_small [] all = tt
firsts_small (f ∷ fs) all = (all.0, firsts_small fs all.1)

pub empty_small : (n : ℕ) → AllByRecursion (λ (f : First). f.size ≤ max_file) (replicate n (record { size = 0; fill = 0 }))
empty_small zero = tt
empty_small (suc n) = (omega arith, empty_small n)

pub small_new : (firsts : List First) (v : BoardView) → v ≡ new_board 0 firsts → AllByRecursion (λ (f : First). f.size ≤ max_file) firsts → AreSmall v
small_new firsts v e all i = subst (λ (b : BoardView). size_of (file_at b i) ≤ max_file) (sym e) (small_from firsts i all)

-- the file of a name was opened next
pub open_next : (name : List ℕ) (ats : List FileRef) (i : ℕ) (s : State) (at : FileRef) → length ats ≡ i → IsThere name i s → AreOpen ats s → at ≡ record { node = i + 2; fh = s.next_fh } → AreOpen (ats ++ at ∷ []) (with_open (looked_up s i) (i + 2))
open_next name ats i s at count there opened is =
    let found = is_found name i s there in
    let new : HasOpenFile (with_open (looked_up s i) (i + 2)) (i + 2) s.next_fh = opened_is_open (looked_up s i) (i + 2) found.started found.made in
    let here : HasOpenFile (with_open (looked_up s i) (i + 2)) at.node at.fh = subst (λ (z : FileRef). HasOpenFile (with_open (looked_up s i) (i + 2)) z.node z.fh) (sym is) new in
    let node : at.node ≡ length ats + 2 = ap (λ (z : FileRef). z.node) is ∙ ap (λ (n : ℕ). n + 2) (sym count) in
    subst (λ (n : ℕ). AreOpen (ats ++ at ∷ []) (with_open (looked_up s n) (n + 2))) count (open_more ats s at opened node (subst (λ (n : ℕ). HasOpenFile (with_open (looked_up s n) (n + 2)) at.node at.fh) (sym count) here))

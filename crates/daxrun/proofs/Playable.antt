-- A text that is a script keeps the limits of scripts, and so whichever calls it has can be made.
use Rattle.std.proofs.Common.{◌≡◌, ◌⊎◌, inl, inr, ◌∙◌, ap, sym, subst, refl, ℕ, zero, suc, ◌+◌, ◌<◌, ◌≤◌, ◌==◌, ◌&&◌, ◌||◌, not, nat_lt, nat_le, Bool, true, false, true≢false, List, [], ◌∷◌, ◌++◌, length, take, slice_get, Option, Some, None, Ok, arith}
use Rattle.std.proofs.lemmas.Grind.{common_steps}
use Rattle.std.proofs.lemmas.Bool.{and_parts, eqb-true}
use Rattle.std.proofs.lemmas.List.{append-nil}
use Rattle.std.proofs.lemmas.List.Sums.{sum_by-cons}
use Rattle.std.specs.List.{AllByRecursion, IsDistinct, list_any, list_all, sum_by}
use Rattle.std.specs.Str.{bytes_eq}
use Rattle.plain_file.specs.File.{max_file}
use Rattle.plain_file.specs.Limits.{max_files, max_transfer}
use Rattle.page_map.specs.declared.pages.Mode.{Mode}
use Rattle.page_map.specs.declared.pages.Mode.TheVariants as modes
use Rattle.page_map.specs.Logs.{is_writable}
use Rattle.plain_text.specs.Options.{◌>>=◌}
use Rattle.dax_script.specs.Asks.{is_hold, hold_places, place_of_hold, held_of}
use Rattle.dax_script.specs.declared.scripts.Call.{Call}
use Rattle.dax_script.specs.declared.scripts.Call.TheVariants as calls
use Rattle.dax_script.specs.declared.scripts.FileLine.{FileLine}
use Rattle.dax_script.specs.declared.scripts.Script.{Script}
use Rattle.dax_script.specs.Fits.{call_fits, calls_fit, file_fits, files_fit, fits}
use Rattle.dax_script.specs.ScriptWords.{is_called, is_script_name, is_ranges, is_writing, held_mode, hold_modes}
use Rattle.dax_script.specs.ScriptText.{are_few, has_window, max_guests, script_of}
use Rattle.dax_script.proofs.TextFits.{fits_exactly}
use Rattle.guest_run.specs.Runs.{IsAskedBefore}
use Rattle.guest_run.specs.Working as working
use Rattle.guest_run.specs.Working.{IsCall, IsForWriting}
use Rattle.guest_run.proofs.Places.{none_is, some_is, found, all_push}
use Rattle.daxrun.specs.Carried.{names_of, AreRanges, IsPlayable}

-- ---- files

-- files in the order of the script, without their number
record Fitting (fs : List FileLine) : Type 0 where
  named : AllByRecursion (λ (f : FileLine). is_script_name f.name ≡ true) fs
  different : IsDistinct bytes_eq (names_of fs)
  small : AllByRecursion (λ (f : FileLine). f.first.size ≤ max_file) fs

all_names : (x : List ℕ) (fs : List FileLine) (f : FileLine) → AllByRecursion (λ (y : List ℕ). bytes_eq x y ≡ false) (names_of fs) → bytes_eq x f.name ≡ false → AllByRecursion (λ (y : List ℕ). bytes_eq x y ≡ false) (names_of (fs ++ f ∷ []))
all_names x [] f all e = (e, tt)
all_names x (g ∷ fs) f all e = (all.0, all_names x fs f all.1 e)

neither : (a b : Bool) → (a || b) ≡ false → (a ≡ false) × (b ≡ false)
neither true b e = absurd (true≢false e)
neither false b e = (refl, e)

isnt : (b : Bool) → not b ≡ true → b ≡ false
isnt true e = absurd (true≢false (sym e))
isnt false e = refl

different_push : (fs : List FileLine) (f : FileLine) → IsDistinct bytes_eq (names_of fs) → list_any (is_called f.name) fs ≡ false → IsDistinct bytes_eq (names_of (fs ++ f ∷ []))
unfolding IsDistinct
different_push [] f d e = (tt, tt)
different_push (g ∷ fs) f d e =
    let k = neither (is_called f.name g) (list_any (is_called f.name) fs) e in
    (all_names g.name fs f d.0 k.0, different_push fs f d.1 k.1)

fitting_push : (fs : List FileLine) (f : FileLine) → Fitting fs → file_fits f ≡ true → list_any (is_called f.name) fs ≡ false → Fitting (fs ++ f ∷ [])
fitting_push fs f h fit new =
    let a = and_parts (is_script_name f.name && nat_le f.first.size max_file) (nat_lt f.first.fill 256) fit in
    let b = and_parts (is_script_name f.name) (nat_le f.first.size max_file) a.0 in
    let low = b.1 in
    record {
      named = all_push (λ (g : FileLine). is_script_name g.name ≡ true) fs f h.named b.0;
      different = different_push fs f h.different new;
      small = all_push (λ (g : FileLine). g.first.size ≤ max_file) fs f h.small (grind (arith, common_steps));
    }

behind : {A : Type 0} (xs : List A) (x : A) (ys : List A) → (xs ++ x ∷ []) ++ ys ≡ xs ++ x ∷ ys
behind [] x ys = refl
behind (z ∷ xs) x ys = ap (λ (l : List _). z ∷ l) (behind xs x ys)

fitting_all : (before fs : List FileLine) → Fitting before → files_fit before fs ≡ true → Fitting (before ++ fs)
fitting_all before [] h e = subst Fitting (sym (append-nil before)) h
fitting_all before (f ∷ fs) h e =
    let a = and_parts (file_fits f && not (list_any (is_called f.name) before)) (files_fit (before ++ f ∷ []) fs) e in
    let b = and_parts (file_fits f) (not (list_any (is_called f.name) before)) a.0 in
    subst Fitting (behind before f fs) (fitting_all (before ++ f ∷ []) fs (fitting_push before f h b.0 (isnt (list_any (is_called f.name) before) b.1)) a.1)

-- ---- holds

-- a hold of the first calls, with the mode that it was asked for with, where it stands
record IsAsked (m : ℕ) (cs : List Call) (n hold : ℕ) (mode : Mode) : Type 0 where
  at : ℕ
  file : ℕ
  chunk : ℕ
  place : slice_get (hold_places m cs) hold ≡ Some (m + at)
  before : at < n
  asks : slice_get cs at ≡ Some (calls.Hold file chunk mode)

-- it stands one further where another call comes first
behind_other : (m : ℕ) (c : Call) (cs : List Call) (n hold : ℕ) (mode : Mode) → is_hold c ≡ false → IsAsked (m + 1) cs n hold mode → IsAsked m (c ∷ cs) (suc n) hold mode
unfolding hold_places
behind_other m c cs n hold mode other a =
    let z : m + 1 + a.at ≡ m + suc a.at = omega arith in
    record {
      at = suc a.at;
      file = a.file;
      chunk = a.chunk;
      place = rw other (a.place ∙ ap Some z);
      before = (let b = a.before in omega (arith, b));
      asks = a.asks;
    }

behind_hold : (m : ℕ) (file chunk : ℕ) (md : Mode) (cs : List Call) (n hold : ℕ) (mode : Mode) → IsAsked (m + 1) cs n hold mode → IsAsked m (calls.Hold file chunk md ∷ cs) (suc n) (suc hold) mode
unfolding hold_places is_hold
behind_hold m file chunk md cs n hold mode a =
    let z : m + 1 + a.at ≡ m + suc a.at = omega arith in
    record {
      at = suc a.at;
      file = a.file;
      chunk = a.chunk;
      place = a.place ∙ ap Some z;
      before = (let b = a.before in omega (arith, b));
      asks = a.asks;
    }

first_hold : (m : ℕ) (file chunk : ℕ) (md : Mode) (cs : List Call) (n : ℕ) (mode : Mode) → md ≡ mode → IsAsked m (calls.Hold file chunk md ∷ cs) (suc n) zero mode
unfolding hold_places is_hold
first_hold m file chunk md cs n mode same =
    let z : m ≡ m + 0 = omega arith in
    record { at = 0; file = file; chunk = chunk; place = ap Some z; before = omega arith; asks = ap (λ (x : Mode). Some (calls.Hold file chunk x)) same }

asked_for : (m : ℕ) (cs : List Call) (n hold : ℕ) (mode : Mode) → slice_get (hold_modes (take n cs)) hold ≡ Some mode → IsAsked m cs n hold mode
unfolding held_mode is_hold
asked_for m cs zero hold mode e = absurd (none_is mode e)
asked_for m [] (suc n) hold mode e = absurd (none_is mode e)
asked_for m (calls.Hold file chunk md ∷ cs) (suc n) zero mode e = first_hold m file chunk md cs n mode (some_is md mode e)
asked_for m (calls.Hold file chunk md ∷ cs) (suc n) (suc hold) mode e = behind_hold m file chunk md cs n hold mode (asked_for (m + 1) cs n hold mode e)
asked_for m (calls.Read file off len ∷ cs) (suc n) hold mode e = behind_other m (calls.Read file off len) cs n hold mode refl (asked_for (m + 1) cs n hold mode e)
asked_for m (calls.Write file off xs ∷ cs) (suc n) hold mode e = behind_other m (calls.Write file off xs) cs n hold mode refl (asked_for (m + 1) cs n hold mode e)
asked_for m (calls.Fill file off len b ∷ cs) (suc n) hold mode e = behind_other m (calls.Fill file off len b) cs n hold mode refl (asked_for (m + 1) cs n hold mode e)
asked_for m (calls.Size file ∷ cs) (suc n) hold mode e = behind_other m (calls.Size file) cs n hold mode refl (asked_for (m + 1) cs n hold mode e)
asked_for m (calls.Truncate file size ∷ cs) (suc n) hold mode e = behind_other m (calls.Truncate file size) cs n hold mode refl (asked_for (m + 1) cs n hold mode e)
asked_for m (calls.Load h off len ∷ cs) (suc n) hold mode e = behind_other m (calls.Load h off len) cs n hold mode refl (asked_for (m + 1) cs n hold mode e)
asked_for m (calls.Store h off xs ∷ cs) (suc n) hold mode e = behind_other m (calls.Store h off xs) cs n hold mode refl (asked_for (m + 1) cs n hold mode e)
asked_for m (calls.Release h ∷ cs) (suc n) hold mode e = behind_other m (calls.Release h) cs n hold mode refl (asked_for (m + 1) cs n hold mode e)

-- there are as many modes as places of holds
as_many : (m : ℕ) (cs : List Call) → length (hold_modes cs) ≡ length (hold_places m cs)
unfolding held_mode is_hold hold_places
as_many m [] = refl
as_many m (calls.Hold file chunk md ∷ cs) = ap suc (as_many (m + 1) cs)
as_many m (calls.Read file off len ∷ cs) = as_many (m + 1) cs
as_many m (calls.Write file off xs ∷ cs) = as_many (m + 1) cs
as_many m (calls.Fill file off len b ∷ cs) = as_many (m + 1) cs
as_many m (calls.Size file ∷ cs) = as_many (m + 1) cs
as_many m (calls.Truncate file size ∷ cs) = as_many (m + 1) cs
as_many m (calls.Load h off len ∷ cs) = as_many (m + 1) cs
as_many m (calls.Store h off xs ∷ cs) = as_many (m + 1) cs
as_many m (calls.Release h ∷ cs) = as_many (m + 1) cs

placed_at_it : (cs : List Call) (n hold : ℕ) (mode : Mode) (a : IsAsked 0 cs n hold mode) → place_of_hold cs hold ≡ Some a.at
placed_at_it cs n hold mode a = let z : 0 + a.at ≡ a.at = omega arith in a.place ∙ ap Some z

before_it : (cs : List Call) (n hold : ℕ) (mode : Mode) → IsAsked 0 cs n hold mode → IsAskedBefore cs n hold
before_it cs n hold mode a = record { at = a.at; place = placed_at_it cs n hold mode a; before = a.before }

writes : (m : Mode) → is_writable m ≡ true → m ≡ modes.W
unfolding is_writable
writes modes.R e = absurd (true≢false (sym e))
writes modes.W e = refl

writing_mode : (o : Option Mode) → is_writing o ≡ true → o ≡ Some modes.W
writing_mode None e = absurd (true≢false (sym e))
writing_mode (Some m) e = ap Some (writes m e)

for_writing : (cs : List Call) (n hold : ℕ) → IsAsked 0 cs n hold modes.W → IsForWriting cs hold
unfolding held_of
for_writing cs n hold a = record { held = record { file = a.file; chunk = a.chunk; mode = modes.W }; by = ap (λ (o : Option ℕ). o >>= λ at. slice_get cs at >>= held_of) (placed_at_it cs n hold modes.W a) ∙ ap (λ (o : Option Call). o >>= held_of) a.asks; mode = refl }

-- ---- calls

some_moved : (room off len : ℕ) → (nat_le 1 len && nat_le len max_transfer && nat_le (off + len) room) ≡ true → (0 < len) × (len ≤ max_transfer) × (off + len ≤ room)
some_moved room off len e = (grind (arith, common_steps), grind (arith, common_steps), grind (arith, common_steps))

some_window : (ranges : ℕ) → not (ranges == 0) ≡ true → 0 < ranges
some_window ranges e = grind (arith, common_steps)

low : (a b : ℕ) → nat_lt a b ≡ true → a < b
low a b e = grind (arith, common_steps)

least : (a b : ℕ) → nat_le a b ≡ true → a ≤ b
least a b e = grind (arith, common_steps)

call_within : (files : List FileLine) (ranges : ℕ) (cs : List Call) (n : ℕ) (c : Call) → call_fits files (hold_modes (take n cs)) c ≡ true → has_window ranges c ≡ true → IsCall (length files) ranges cs n c
unfolding call_fits IsCall is_hold
call_within files ranges cs n (calls.Read file off len) e w =
    let a = and_parts (nat_lt file (length files)) _ e in
    let m = some_moved max_file off len a.1 in
    (low file (length files) a.0, (m.0, m.1), m.2)
call_within files ranges cs n (calls.Write file off xs) e w =
    let a = and_parts (nat_lt file (length files) && _) _ e in
    let b = and_parts (nat_lt file (length files)) _ a.0 in
    let m = some_moved max_file off (length xs) b.1 in
    (low file (length files) b.0, (m.0, m.1), m.2)
call_within files ranges cs n (calls.Fill file off len x) e w =
    let a = and_parts (nat_lt file (length files) && _) _ e in
    let b = and_parts (nat_lt file (length files)) _ a.0 in
    let m = some_moved max_file off len b.1 in
    (low file (length files) b.0, (m.0, m.1), m.2)
call_within files ranges cs n (calls.Size file) e w = low file (length files) e
call_within files ranges cs n (calls.Truncate file size) e w =
    let a = and_parts (nat_lt file (length files)) _ e in
    (low file (length files) a.0, least size max_file a.1)
call_within files ranges cs n (calls.Hold file chunk md) e w =
    let held = hold_modes (take n cs) in
    let a = and_parts (nat_lt file (length files) && nat_le chunk 31) (nat_lt (length held) 32) e in
    let b = and_parts (nat_lt file (length files)) (nat_le chunk 31) a.0 in
    let few = low (length held) 32 a.1 in
    let many = as_many 0 (take n cs) in
    let small = least chunk 31 b.1 in
    (low file (length files) b.0, omega (arith, small), some_window ranges w, omega (arith, few, many))
call_within files ranges cs n (calls.Load h off len) e w =
    let held = hold_modes (take n cs) in
    let a = and_parts (nat_lt h (length held)) _ e in
    let m = some_moved 2097152 off len a.1 in
    let x = found held h (low h (length held) a.0) in
    (before_it cs n h x.0 (asked_for 0 cs n h x.0 x.1), (m.0, m.1), m.2)
call_within files ranges cs n (calls.Store h off xs) e w =
    let held = hold_modes (take n cs) in
    let a = and_parts (is_writing (slice_get held h) && _) _ e in
    let b = and_parts (is_writing (slice_get held h)) _ a.0 in
    let m = some_moved 2097152 off (length xs) b.1 in
    let x = asked_for 0 cs n h modes.W (writing_mode (slice_get held h) b.0) in
    (before_it cs n h modes.W x, for_writing cs n h x, (m.0, m.1), m.2)
call_within files ranges cs n (calls.Release h) e w =
    let held = hold_modes (take n cs) in
    let x = found held h (low h (length held) e) in
    before_it cs n h x.0 (asked_for 0 cs n h x.0 x.1)

-- each call fits behind those before it
call_at : (files : List FileLine) (ranges : ℕ) (made cs : List Call) (n : ℕ) (c : Call) → calls_fit files ranges made cs ≡ true → slice_get cs n ≡ Some c → (call_fits files (hold_modes (made ++ take n cs)) c ≡ true) × (has_window ranges c ≡ true)
call_at files ranges made [] n c e at = absurd (none_is c at)
call_at files ranges made (d ∷ cs) zero c e at =
    let a = and_parts (call_fits files (hold_modes made) d && has_window ranges d) (calls_fit files ranges (made ++ d ∷ []) cs) e in
    let b = and_parts (call_fits files (hold_modes made) d) (has_window ranges d) a.0 in
    let same = some_is d c at in
    let none = append-nil made in
    ((λ i. call_fits files (hold_modes (none i)) (sym same i)) ∙ b.0, ap (has_window ranges) (sym same) ∙ b.1)
call_at files ranges made (d ∷ cs) (suc n) c e at =
    let a = and_parts (call_fits files (hold_modes made) d && has_window ranges d) (calls_fit files ranges (made ++ d ∷ []) cs) e in
    subst (λ (l : List Call). (call_fits files (hold_modes l) c ≡ true) × (has_window ranges c ≡ true)) (behind made d (take n cs)) (call_at files ranges (made ++ d ∷ []) cs n c a.1 at)

-- ---- the whole script

all_true : {A : Type 0} (p : A → Bool) (xs : List A) (n : ℕ) (x : A) → list_all p xs ≡ true → slice_get xs n ≡ Some x → p x ≡ true
all_true p [] n x all e = absurd (none_is x e)
all_true p (y ∷ xs) zero x all e = ap p (sym (some_is y x e)) ∙ (and_parts (p y) (list_all p xs) all).0
all_true p (y ∷ xs) (suc n) x all e = all_true p xs n x (and_parts (p y) (list_all p xs) all).1 e

length_below : (gs : List (List Call)) (g : ℕ) (cs : List Call) → slice_get gs g ≡ Some cs → length cs ≤ sum_by length gs
length_below [] g cs e = absurd (none_is cs e)
length_below (x ∷ gs) zero cs e = let z = ap length (some_is x cs e) in omega (arith, sum_by-cons length x gs)
length_below (x ∷ gs) (suc g) cs e = let k = length_below gs g cs e in omega (arith, sum_by-cons length x gs)

few_of : (gs : List (List Call)) → are_few gs ≡ true → sum_by length gs ≤ working.max_calls
few_of gs e = grind (arith, common_steps)

-- what a script that fits has
record Limited (s : Script) : Type 0 where
  ranges : is_ranges s.ranges ≡ true
  few_files : nat_le (length s.files) max_files ≡ true
  files : files_fit [] s.files ≡ true
  few_guests : nat_le (length s.guests) max_guests ≡ true
  calls : list_all (calls_fit s.files s.ranges []) s.guests ≡ true
  few : are_few s.guests ≡ true
  background : (not (s.ranges == 0) || s.background == 0) ≡ true

limited : (s : Script) → fits s ≡ true → Limited s
unfolding fits
limited s e =
    let a = and_parts _ (are_few s.guests) e in
    let b = and_parts _ (list_all (calls_fit s.files s.ranges []) s.guests) a.0 in
    let c = and_parts _ (nat_le (length s.guests) 16) b.0 in
    let d = and_parts _ (files_fit [] s.files) c.0 in
    let f = and_parts _ (nat_le (length s.files) max_files) d.0 in
    let g = and_parts _ (not (s.ranges == 0) || s.background == 0) f.0 in
    let h = and_parts (is_ranges s.ranges) _ g.0 in
    record { ranges = h.0; few_files = f.1; files = d.1; few_guests = c.1; calls = b.1; few = a.1; background = g.1 }

ranges_of : (n : ℕ) → is_ranges n ≡ true → AreRanges n
ranges_of n e = record { most = grind (arith, common_steps); not_one = λ one. grind (arith, common_steps) }

-- a background has ranges
with_ranges : (ranges background : ℕ) → (not (ranges == 0) || background == 0) ≡ true → (background ≡ 0) ⊎ (0 < ranges)
with_ranges zero background e = inl (eqb-true background 0 e)
with_ranges (suc r) background e = inr (omega arith)

pub playable : (text : List ℕ) (s : Script) → script_of text ≡ Ok s → IsPlayable s
unfolding IsDistinct
playable text s reads =
    let k = limited s ((fits_exactly s).1 (text, reads)) in
    let fs = fitting_all [] s.files (record { named = tt; different = tt; small = tt }) k.files in
    let few = few_of s.guests k.few in
    record {
      ranges = ranges_of s.ranges k.ranges;
      files = record { few = least (length s.files) max_files k.few_files; named = fs.named; different = fs.different; small = fs.small };
      guests = record {
        most = least (length s.guests) max_guests k.few_guests;
        few = λ g cs at. let l = length_below s.guests g cs at in omega (arith, l, few);
        calls = λ g cs at n c at'.
            let fit = all_true (calls_fit s.files s.ranges []) s.guests g cs k.calls at in
            let x = call_at s.files s.ranges [] cs n c fit at' in
            call_within s.files s.ranges cs n c x.0 x.1;
      };
      background = with_ranges s.ranges s.background k.background;
    }

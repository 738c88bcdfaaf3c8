-- What the calls of a pass answer and leave.
use Rattle.std.proofs.Common.{◌≡◌, ◌≢◌, ℕ, zero, suc, ◌+◌, ◌-◌, ◌<◌, ◌≤◌, List, [], ◌∷◌, ◌++◌, length, drop, get_or, set, slice_get, true, false, true≢false, Option, Some, None, refl, sym, ap, ◌∙◌, subst, arith, get_or-set_same, ⊎_elim, eq-eqb, ne_eqb}
use Rattle.std.specs.Prelude.{IfSome, All}
use mathlib.Core.Logic.{dite}
use native.Mathlib.Decide.{ℕ_discrete}
use lib.ListN.{get_elem?}
use mathlib.Core.Option.{some}
use Rattle.std.proofs.lemmas.List.{length-append}
use Rattle.atomic_table.specs.Seated.{TableId}
use Rattle.seats.specs.Views.{guests, unused}
use Rattle.plain_file.specs.declared.operations.Entry.{Entry}
use Rattle.plain_file.specs.declared.operations.Mark.{Mark}
use Rattle.plain_file.specs.Board.{is_file, last_of}
use Rattle.plain_file.specs.History.{Past, grown}
use Rattle.files_core.specs.Files.{FileState, row, file, with_entry, Deed, take_turn, set_size, give_turn, lease, note_size, unlease, set_bar, clear_bar, made}
use Rattle.files_core.specs.Good.{GoodFile, Within, size_of}
use Rattle.files_core.specs.Shown.{Shown, shown_of}
use Rattle.files_core.proofs.Places.{at_end}
use Rattle.file_share.specs.Table.{Core, Mine, Marks, in_list, unseen, first_in, part, first_at, past_of}
use Rattle.file_share.specs.Steps.{Chair, DoesOn, Always, Never, IfAllIn, Accounted, NoTurn, refused}
use Rattle.file_share.specs.Known.{Known, known, IsDeed, IsShown, IsSoundPart, InHand, Holds, Sound, Entered, Looked, IsLeased, IsCurrent, NoBar, taken_part, applied_part, given_part, noted_part, leased_part, unleased_part, barred_part, whole_of, whole_seen}
use Rattle.file_share.specs.Places.{places_of}
use Rattle.file_share.proofs.Parts.{first_is, turn_is, seen_is}
use Rattle.file_share.proofs.Listing.{places_others, places_own, end_get}
use Rattle.file_share.proofs.BoardsCore.{one_bar}
use Rattle.file_share.proofs.Knowing.{good_here, before_is, shown_as, shown_taken, shown_applied, shown_given, shown_leased, shown_unleased, shown_noted, shown_barred, shown_unbarred, size_mine, seen_whole, good_made}
use Rattle.file_share.proofs.Sounding.{ok_taken, ok_given, ok_leased, ok_unleased, ok_noted, ok_barred, ok_in_turn, part_here, part_else, firsts_same, sound_after, in_same, in_taken, in_given}

get_drop : (n : ℕ) (h : List Entry) (k : ℕ) → slice_get (drop n h) k ≡ slice_get h (n + k)
get_drop zero h k = let e : k ≡ zero + k = omega arith in ap (slice_get h) e
get_drop (suc n) [] k = refl
get_drop (suc n) (x ∷ xs) k = let e : suc (n + k) ≡ suc n + k = omega arith in get_drop n xs k ∙ ap (slice_get (x ∷ xs)) e

get_it : (l : List Entry) (k : ℕ) (d : Entry) → k < length l → slice_get l k ≡ Some (get_or l k d)
get_it [] k d lt = absurd (omega arith)
get_it (x ∷ xs) zero d lt = refl
get_it (x ∷ xs) (suc k) d lt = get_it xs k d (omega arith)

-- no entry behind what a guest has seen is its own
pub none_behind : (g n : ℕ) (h : List Entry) → Within g n h → All (λ (e : Entry). e.guest ≢ g) (drop n h)
none_behind g n h own k d lt is = let at = sym (get_drop n h k) ∙ get_it (drop n h) k d lt in let l = own (n + k) (get_or (drop n h) k d) at is in absurd (omega arith)

pub deed_of : (s t : Chair) (mark : Mark) (f : ℕ) (d : Deed) (P : Core → Type 0) → t.table_id ≡ s.table_id → DoesOn f d P s.me.0 t.me.0 → IsDeed f d (known s mark) (known t mark)
deed_of s t mark f d P table x = record {
  kept = λ i. record { table = table i; view = t.me.0; mark = mark };
  does = record { core = x.core; good = x.good; part = x.part; allowed = x.allowed; is = x.is; tells = tt };
}

-- the last of a list
last_of_end : (xs : List ℕ) (x y : ℕ) → x ≡ y → last_of (xs ++ x ∷ []) ≡ Some y
last_of_end xs x y e = let n : length (xs ++ x ∷ []) - 1 ≡ length xs = (let l = length-append xs (x ∷ []) in omega arith) in ap (slice_get (xs ++ x ∷ [])) n ∙ (end_get xs x ∙ ap (λ z. Some z) e)

-- one more entry, of a number that somebody has
never_more : (numbers : Marks) (h : List Entry) (e : Entry) → Never numbers h → get_elem? numbers e.guest ≢ some unused → Never numbers (h ++ e ∷ [])
never_more numbers h e never given n is k x at by = ⊎_elim (λ b. never n is k x b by) (λ b. absurd (given (ap (λ (i : ℕ). get_elem? numbers i) (ap (λ (y : Entry). y.guest) b.1 ∙ by) ∙ is))) (at_end h e x k at)

-- ---- the turn was taken

module _ (s t : Chair) (f : ℕ) (b : Past) (d : DoesOn f take_turn (λ c. b ≡ past_of (file c.files f)) s.me.0 t.me.0) (hand : Option Past) (file' guest : ℕ) (bar : Option ℕ) (last : List (Option ℕ)) (ok : Sound s hand file' guest bar last)
    (near : f < length s.me.0.mine.files) (table : t.table_id ≡ s.table_id) (free : NoTurn s.me.0) (held : t.me.1 ≡ (f, None) ∷ []) (never : Never s.me.0.numbers b.history) (account : IfAllIn s.me.0 f b) where
  abbrev TP : Core → Type 0
  TP c = b ≡ past_of (file c.files f)

  abbrev c : FileState
  c = file d.core.files f

  small : s.me.0.guest < guests
  small = subst (λ (n : ℕ). n < guests) ok.guest_is ok.small

  good : GoodFile guests c
  good = good_here f take_turn TP s.me.0 t.me.0 d

  abbrev m : Shown
  m = part s.me.0 f

  abbrev more : List Entry
  more = drop (row c s.me.0.guest).seen c.history

  is : m ≡ shown_of s.me.0.guest c
  is = before_is f take_turn TP s.me.0 t.me.0 d

  shown : IsShown f (taken_part more m) s.me.0 t.me.0
  shown = shown_as f take_turn TP s.me.0 t.me.0 d (taken_part more m) (shown_taken c s.me.0.guest small good d.allowed.allowed.may ∙ ap (taken_part more) (sym is))

  all : m.seen ++ more ≡ c.history
  all = ap (λ (x : Shown). x.seen ++ more) is ∙ seen_whole c s.me.0.guest small good

  others : All (λ (e : Entry). e.guest ≢ s.me.0.guest) more
  others = none_behind s.me.0.guest (row c s.me.0.guest).seen c.history (good.rows_ok s.me.0.guest small).own

  first : first_at s.me.0 f ≡ c.first
  first = first_is s.me.0 d.core d.part f

  bare : m.applied ≡ None
  bare = (ok.parts_ok f near).bare (free f)

  part_ok : IsSoundPart (first_at s.me.0 f) (taken_part more m)
  part_ok = ok_taken c s.me.0.guest (first_at s.me.0 f) m more small good d.allowed.allowed.may is first all bare (ok.parts_ok f near)

  history : b.history ≡ m.seen ++ more
  history = ap (λ (p : Past). p.history) d.tells ∙ sym all

  begins : b.first ≡ first_at s.me.0 f
  begins = ap (λ (p : Past). p.first) d.tells ∙ sym first

  before : whole_of m ≡ m.seen
  before = ap (with_entry m.seen) bare

  here : part t.me.0 f ≡ taken_part more m
  here = part_here s t f take_turn TP d (taken_part more m) shown near table

  pub sound_taken : Sound t (Some b) f guest bar last
  sound_taken = sound_after s t f take_turn TP d (taken_part more m) shown near table hand (Some b) file' f guest bar bar last last ok ok.long
      (in_taken s t f take_turn TP d (taken_part more m) shown near table b refl free held begins history)
      (ok.bar_is f) (λ i ne. refl)
      (ok.last_is f near ∙ (ap (λ (h : List Entry). last_of (places_of guest h)) before ∙ ap last_of (sym (places_others guest 0 m.seen more (subst (λ (n : ℕ). All (λ (e : Entry). e.guest ≢ n) more) (sym ok.guest_is) others)))))
      (λ i ne. refl) part_ok (subst (Never s.me.0.numbers) history never)

  pub entered_is : Entered f s.me.0 t.me.0
  entered_is = record {
    more = more;
    others = others;
    shown = shown;
    noted = subst (λ (x : Past). IfSome m.noted (λ z. z ≤ size_of x.first x.history)) (λ i. record { first = sym (firsts_same s t f take_turn TP d (taken_part more m) shown near table f) i; history = sym (ap (λ (x : Shown). x.seen) here) i }) (part_ok.noted refl);
    account = λ a. let x = account a in subst (λ (p : Past). (p.history ≡ m.seen) × Accounted s.me.0.numbers f p) (λ i. record { first = (begins ∙ sym (firsts_same s t f take_turn TP d (taken_part more m) shown near table f)) i; history = (history ∙ sym (ap (λ (x : Shown). x.seen) here)) i }) x;
  }

-- ---- an entry was applied

pub same_file : (s : Chair) (p : Past) (file' f : ℕ) → Holds s file' p → (part s.me.0 f).turn ≡ true → f ≡ file'
same_file s p file' f i on = dite (ℕ_discrete f file') (λ z. z) (λ ne. absurd (true≢false (sym on ∙ i.alone f ne)))

pub held_at : (s : Chair) (p : Past) (file' f : ℕ) → Holds s file' p → (part s.me.0 f).turn ≡ true → Holds s f p
held_at s p file' f i on = subst (λ (n : ℕ). Holds s n p) (sym (same_file s p file' f i on)) i

pub applied_is_shown : (s t : Chair) (f : ℕ) (e : Entry) (d : DoesOn f (set_size e) Always s.me.0 t.me.0) → s.me.0.guest < guests → IsShown f (applied_part e (part s.me.0 f)) s.me.0 t.me.0
applied_is_shown s t f e d small = shown_as f (set_size e) Always s.me.0 t.me.0 d (applied_part e (part s.me.0 f))
    (shown_applied (file d.core.files f) s.me.0.guest small (good_here f (set_size e) Always s.me.0 t.me.0 d) e d.allowed.allowed.may.turn ∙ ap (applied_part e) (sym (before_is f (set_size e) Always s.me.0 t.me.0 d)))

module _ (s t : Chair) (f : ℕ) (e : Entry) (d : DoesOn f (set_size e) Always s.me.0 t.me.0) (p : Past) (file' guest : ℕ) (bar : Option ℕ) (last last' : List (Option ℕ)) (ok : Sound s (Some p) file' guest bar last)
    (near : f < length s.me.0.mine.files) (table : t.table_id ≡ s.table_id) (on : (part s.me.0 f).turn ≡ true) (bare : (part s.me.0 f).applied ≡ None) (own : e.guest ≡ guest) (held : t.me.1 ≡ s.me.1)
    (last_long : length last' ≡ 64) (last_now : get_or last' f None ≡ Some (length (part s.me.0 f).seen)) (last_else : (i : ℕ) → i ≢ f → get_or last' i None ≡ get_or last i None) where
  abbrev ac : FileState
  ac = file d.core.files f

  a_small : s.me.0.guest < guests
  a_small = subst (λ (n : ℕ). n < guests) ok.guest_is ok.small

  abbrev am : Shown
  am = part s.me.0 f

  a_good : GoodFile guests ac
  a_good = good_here f (set_size e) Always s.me.0 t.me.0 d

  pub applied_shown : IsShown f (applied_part e am) s.me.0 t.me.0
  applied_shown = shown_as f (set_size e) Always s.me.0 t.me.0 d (applied_part e am) (shown_applied ac s.me.0.guest a_small a_good e d.allowed.allowed.may.turn ∙ ap (applied_part e) (sym (before_is f (set_size e) Always s.me.0 t.me.0 d)))

  a_seen : am.seen ≡ ac.history
  a_seen = seen_is s.me.0 d.core d.part d.good.files_good a_small f d.allowed.allowed.known on

  a_good' : GoodFile guests (made ac s.me.0.guest (set_size e))
  a_good' = good_made f (set_size e) Always s.me.0 t.me.0 d a_small

  a_first : first_at s.me.0 f ≡ ac.first
  a_first = first_is s.me.0 d.core d.part f

  a_is : applied_part e am ≡ shown_of s.me.0.guest (made ac s.me.0.guest (set_size e))
  a_is = sym (shown_applied ac s.me.0.guest a_small a_good e d.allowed.allowed.may.turn ∙ ap (applied_part e) (sym (before_is f (set_size e) Always s.me.0 t.me.0 d)))

  a_ok : IsSoundPart (first_at s.me.0 f) (applied_part e am)
  a_ok = ok_in_turn (made ac s.me.0.guest (set_size e)) s.me.0.guest (first_at s.me.0 f) (applied_part e am) a_small a_good' a_is a_first
      (a_good'.size_is ∙ (λ i. size_of (sym a_first i) (sym a_seen i ++ e ∷ []))) on (ok.parts_ok f near).notes

  -- the contents in hand have grown by the entry
  pub sound_applied : Sound t (Some (grown p e)) file' guest bar last'
  sound_applied = let h = held_at s p file' f ok.in_hand on in let same = same_file s p file' f ok.in_hand on in
      let was : p.history ≡ am.seen = h.history ∙ ap (with_entry am.seen) bare in
      sound_after s t f (set_size e) Always d (applied_part e am) applied_shown near table (Some p) (Some (grown p e)) file' file' guest bar bar last last' ok last_long
      (subst (λ (n : ℕ). Holds t n (grown p e)) same record {
        turn = ap (λ (x : Shown). x.turn) (part_here s t f (set_size e) Always d (applied_part e am) applied_shown near table) ∙ on;
        alone = λ i ne. ap (λ (x : Shown). x.turn) (part_else s t f (set_size e) Always d (applied_part e am) applied_shown near table i ne) ∙ h.alone i ne;
        taken = held ∙ h.taken;
        first = h.first ∙ sym (firsts_same s t f (set_size e) Always d (applied_part e am) applied_shown near table f);
        history = ap (λ (x : List Entry). x ++ e ∷ []) was ∙ sym (ap whole_of (part_here s t f (set_size e) Always d (applied_part e am) applied_shown near table));
      })
      (ok.bar_is f) (λ i ne. refl)
      (last_now ∙ sym (ap last_of (places_own guest 0 am.seen e own) ∙ last_of_end (places_of guest am.seen) (0 + length am.seen) (length am.seen) (omega arith)))
      last_else a_ok (never_more s.me.0.numbers am.seen e (subst (Never s.me.0.numbers) (ap (with_entry am.seen) bare) (ok.never f)) (λ is. ok.own_given (ap (λ n. get_elem? s.me.0.numbers n) (sym (own ∙ ok.guest_is)) ∙ is)))

-- ---- the turn was given back

module _ (s t : Chair) (f : ℕ) (d : DoesOn f give_turn Always s.me.0 t.me.0) (p : Past) (file' guest : ℕ) (bar : Option ℕ) (last : List (Option ℕ)) (ok : Sound s (Some p) file' guest bar last)
    (near : f < length s.me.0.mine.files) (table : t.table_id ≡ s.table_id) (on : (part s.me.0 f).turn ≡ true) (held : t.me.1 ≡ []) where
  g_small : s.me.0.guest < guests
  g_small = subst (λ (n : ℕ). n < guests) ok.guest_is ok.small

  pub given_shown : IsShown f (given_part (part s.me.0 f)) s.me.0 t.me.0
  given_shown = shown_as f give_turn Always s.me.0 t.me.0 d (given_part (part s.me.0 f))
      (shown_given (file d.core.files f) s.me.0.guest g_small (good_here f give_turn Always s.me.0 t.me.0 d) d.allowed.allowed.may ∙ ap given_part (sym (before_is f give_turn Always s.me.0 t.me.0 d)))

  pub sound_given : Sound t None file' guest bar last
  sound_given = sound_after s t f give_turn Always d (given_part (part s.me.0 f)) given_shown near table (Some p) None file' file' guest bar bar last last ok ok.long
      (in_given s t f give_turn Always d (given_part (part s.me.0 f)) given_shown near table p (held_at s p file' f ok.in_hand on) refl held file')
      (ok.bar_is f) (λ i ne. refl) (ok.last_is f near) (λ i ne. refl) (ok_given (first_at s.me.0 f) (part s.me.0 f) (ok.parts_ok f near)) (ok.never f)

-- ---- deeds that leave the turn and the history

module _ (s t : Chair) (f : ℕ) (hand : Option Past) (file' guest : ℕ) (bar : Option ℕ) (last : List (Option ℕ)) (ok : Sound s hand file' guest bar last) (near : f < length s.me.0.mine.files) (table : t.table_id ≡ s.table_id) (held : t.me.1 ≡ s.me.1) where
  s_small : s.me.0.guest < guests
  s_small = subst (λ (n : ℕ). n < guests) ok.guest_is ok.small

  -- the size was noted
  module _ (z : ℕ) (d : DoesOn f note_size (λ c. z ≡ (file c.files f).size) s.me.0 t.me.0) where
    abbrev NP : Core → Type 0
    NP c = z ≡ (file c.files f).size

    pub noted_shown : IsShown f (noted_part z (part s.me.0 f)) s.me.0 t.me.0
    noted_shown = shown_as f note_size NP s.me.0 t.me.0 d (noted_part z (part s.me.0 f))
        (shown_noted (file d.core.files f) s.me.0.guest s_small (good_here f note_size NP s.me.0 t.me.0 d)
        ∙ ((λ i. noted_part (sym d.tells i) (sym (before_is f note_size NP s.me.0 t.me.0 d) i))))

    pub noted_current : IsCurrent s.me.0 f z
    noted_current on = let c = file d.core.files f in let is = before_is f note_size NP s.me.0 t.me.0 d in
        d.tells ∙ (size_mine c s.me.0.guest s_small (good_here f note_size NP s.me.0 t.me.0 d) (turn_is s.me.0 d.core d.part f on) ∙ (λ i. size_of (sym (first_is s.me.0 d.core d.part f) i) (whole_of (sym is i))))

    pub sound_noted : Sound t hand file' guest bar last
    sound_noted = sound_after s t f note_size NP d (noted_part z (part s.me.0 f)) noted_shown near table hand hand file' file' guest bar bar last last ok ok.long
        (in_same s t f note_size NP d (noted_part z (part s.me.0 f)) noted_shown near table hand hand file' file' guest bar bar last last ok refl refl held hand ok.in_hand)
        (ok.bar_is f) (λ i ne. refl) (ok.last_is f near) (λ i ne. refl) (ok_noted (first_at s.me.0 f) (part s.me.0 f) (ok.parts_ok f near) z noted_current) (ok.never f)

  module _ (d : DoesOn f lease Always s.me.0 t.me.0) where
    pub leased_shown : IsShown f (leased_part (part s.me.0 f)) s.me.0 t.me.0
    leased_shown = shown_as f lease Always s.me.0 t.me.0 d (leased_part (part s.me.0 f))
        (shown_leased (file d.core.files f) s.me.0.guest s_small (good_here f lease Always s.me.0 t.me.0 d) ∙ ap leased_part (sym (before_is f lease Always s.me.0 t.me.0 d)))

    pub sound_leased : Sound t hand file' guest bar last
    sound_leased = sound_after s t f lease Always d (leased_part (part s.me.0 f)) leased_shown near table hand hand file' file' guest bar bar last last ok ok.long
        (in_same s t f lease Always d (leased_part (part s.me.0 f)) leased_shown near table hand hand file' file' guest bar bar last last ok refl refl held hand ok.in_hand)
        (ok.bar_is f) (λ i ne. refl) (ok.last_is f near) (λ i ne. refl) (ok_leased (first_at s.me.0 f) (part s.me.0 f) (ok.parts_ok f near)) (ok.never f)

  module _ (d : DoesOn f unlease Always s.me.0 t.me.0) where
    pub unleased_shown : IsShown f (unleased_part (part s.me.0 f)) s.me.0 t.me.0
    unleased_shown = shown_as f unlease Always s.me.0 t.me.0 d (unleased_part (part s.me.0 f))
        (shown_unleased (file d.core.files f) s.me.0.guest s_small (good_here f unlease Always s.me.0 t.me.0 d) ∙ ap unleased_part (sym (before_is f unlease Always s.me.0 t.me.0 d)))

    pub sound_unleased : Sound t hand file' guest bar last
    sound_unleased = sound_after s t f unlease Always d (unleased_part (part s.me.0 f)) unleased_shown near table hand hand file' file' guest bar bar last last ok ok.long
        (in_same s t f unlease Always d (unleased_part (part s.me.0 f)) unleased_shown near table hand hand file' file' guest bar bar last last ok refl refl held hand ok.in_hand)
        (ok.bar_is f) (λ i ne. refl) (ok.last_is f near) (λ i ne. refl) (ok_unleased (first_at s.me.0 f) (part s.me.0 f) (ok.parts_ok f near)) (ok.never f)

  module _ (d : DoesOn f set_bar Always s.me.0 t.me.0) (free : NoBar s.me.0) where
    pub barred_shown : IsShown f (barred_part true (part s.me.0 f)) s.me.0 t.me.0
    barred_shown = shown_as f set_bar Always s.me.0 t.me.0 d (barred_part true (part s.me.0 f))
        (shown_barred (file d.core.files f) s.me.0.guest s_small (good_here f set_bar Always s.me.0 t.me.0 d) ∙ ap (barred_part true) (sym (before_is f set_bar Always s.me.0 t.me.0 d)))

    pub sound_barred : Sound t hand file' guest (Some f) last
    unfolding is_file
    sound_barred = sound_after s t f set_bar Always d (barred_part true (part s.me.0 f)) barred_shown near table hand hand file' file' guest bar (Some f) last last ok ok.long
        (in_same s t f set_bar Always d (barred_part true (part s.me.0 f)) barred_shown near table hand hand file' file' guest bar (Some f) last last ok refl refl held hand ok.in_hand)
        (sym (eq-eqb f f refl)) (λ i ne. ne_eqb f i (λ e. ne (sym e)) ∙ (sym (free i) ∙ ok.bar_is i)) (ok.last_is f near) (λ i ne. refl) (ok_barred (first_at s.me.0 f) (part s.me.0 f) (ok.parts_ok f near) true) (ok.never f)

  module _ (d : DoesOn f clear_bar Always s.me.0 t.me.0) (had : (part s.me.0 f).bar ≡ true) where
    pub unbarred_shown : IsShown f (barred_part false (part s.me.0 f)) s.me.0 t.me.0
    unbarred_shown = shown_as f clear_bar Always s.me.0 t.me.0 d (barred_part false (part s.me.0 f))
        (shown_unbarred (file d.core.files f) s.me.0.guest s_small (good_here f clear_bar Always s.me.0 t.me.0 d) ∙ ap (barred_part false) (sym (before_is f clear_bar Always s.me.0 t.me.0 d)))

    pub sound_unbarred : Sound t hand file' guest None last
    unfolding is_file
    sound_unbarred = sound_after s t f clear_bar Always d (barred_part false (part s.me.0 f)) unbarred_shown near table hand hand file' file' guest bar None last last ok ok.long
        (in_same s t f clear_bar Always d (barred_part false (part s.me.0 f)) unbarred_shown near table hand hand file' file' guest bar None last last ok refl refl held hand ok.in_hand)
        refl (λ i ne. sym (one_bar f clear_bar Always s.me.0 t.me.0 d had i ne) ∙ ok.bar_is i) (ok.last_is f near) (λ i ne. refl) (ok_barred (first_at s.me.0 f) (part s.me.0 f) (ok.parts_ok f near) false) (ok.never f)

-- what was only noted leaves a pass sound
pub sound_refused : (s t : Chair) (f count : ℕ) (hand : Option Past) (file' guest : ℕ) (bar : Option ℕ) (last : List (Option ℕ)) → Sound s hand file' guest bar last → t.table_id ≡ s.table_id → t.me ≡ (refused s.me.0 f count, s.me.1) → Sound t hand file' guest bar last
sound_refused s t f count hand file' guest bar last ok table is = record {
  live = ap (λ m. m.0.live) is ∙ ok.live;
  guest_is = ok.guest_is ∙ sym (ap (λ m. m.0.guest) is);
  small = ok.small;
  in_hand = go hand ok.in_hand;
  wide = ap (λ m. length m.0.mine.files) is ∙ (ok.wide ∙ ap (λ z. z.slots) (sym table));
  few = subst (λ (z : TableId). z.slots ≤ 64) (sym table) ok.few;
  bar_is = λ i. ap (λ m. (part m.0 i).bar) is ∙ ok.bar_is i;
  long = ok.long;
  last_is = λ i l. ok.last_is i (subst (λ (n : ℕ). i < n) (ap (λ m. length m.0.mine.files) is) l) ∙ ap (λ (h : List Entry). last_of (places_of guest h)) (sym (ap (λ m. whole_seen m.0 i) is));
  parts_ok = λ i l. subst (λ m. IsSoundPart (first_at m.0 i) (part m.0 i)) (sym is) (ok.parts_ok i (subst (λ (n : ℕ). i < n) (ap (λ m. length m.0.mine.files) is) l));
  never = λ i. subst (λ m. Never m.0.numbers (whole_seen m.0 i)) (sym is) (ok.never i);
  own_given = λ e. ok.own_given (sym (ap (λ m. get_elem? m.0.numbers m.0.guest) is) ∙ e);
}
  where
    go : (o : Option Past) → InHand s file' o → InHand t file' o
    go None h = ((λ i. ap (λ m. (part m.0 i).turn) is ∙ h.0 i), ap (λ m. m.1) is ∙ h.1)
    go (Some p) h = record {
      turn = ap (λ m. (part m.0 file').turn) is ∙ h.turn;
      alone = λ i ne. ap (λ m. (part m.0 i).turn) is ∙ h.alone i ne;
      taken = ap (λ m. m.1) is ∙ h.taken;
      first = h.first ∙ sym (ap (λ m. first_at m.0 file') is);
      history = h.history ∙ sym (ap (λ m. whole_seen m.0 file') is);
    }

-- the file is one of the pass's
pub near_of : (s : Chair) (mark : Mark) (k : Known) (t : TableId) (f : ℕ) → length s.me.0.mine.files ≡ s.table_id.slots → known s mark ≡ k → k.table ≡ t → f < t.slots → f < length s.me.0.mine.files
near_of s mark k t f wide is table l = let e : length s.me.0.mine.files ≡ t.slots = wide ∙ ap (λ z. z.slots) (ap (λ (x : Known). x.table) is ∙ table) in omega arith

-- a lease, and then its note
pub leases_then : (s t : Chair) (mark : Mark) (f z : ℕ) (q : Known) → f < length s.me.0.mine.files → t.table_id ≡ s.table_id → DoesOn f lease Always s.me.0 t.me.0 → IsShown f (leased_part (part s.me.0 f)) s.me.0 t.me.0 → Looked (known t mark) f z q → IsLeased (known s mark) f z q
leases_then s t mark f z q near table d shown x =
    let here : part t.me.0 f ≡ leased_part (part s.me.0 f) = ap (λ (m : Mine). in_list m.files f) shown ∙ get_or-set_same s.me.0.mine.files f (leased_part (part s.me.0 f)) unseen near in
    let m : Shown = leased_part (part s.me.0 f) in record {
      between = known t mark;
      deed = deed_of s t mark f lease Always table d;
      look = x.deed;
      shown = x.shown ∙ ((λ i. record (shown i) { files = set (shown i).files f (noted_part z (here i)) }) ∙ (λ i. record s.me.0.mine { files = set_twice s.me.0.mine.files f m (noted_part z m) i }));
      current = λ on. x.current (ap (λ (y : Shown). y.turn) here ∙ on) ∙ (λ i. size_of (first_in (shown i).firsts f) (whole_of (here i)));
    }
  where
    set_twice : (l : List Shown) (i : ℕ) (a b : Shown) → set (set l i a) i b ≡ set l i b
    set_twice [] i a b = refl
    set_twice (y ∷ ys) zero a b = refl
    set_twice (y ∷ ys) (suc i) a b = ap (λ l. y ∷ l) (set_twice ys i a b)

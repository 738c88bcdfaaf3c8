-- A guest's holds follow its lines: it has what they grant and don't give up.
use Rattle.std.proofs.Common.{◌≡◌, ◌≢◌, ◌∙◌, ap, sym, subst, refl, ℕ, zero, suc, ◌+◌, ◌<◌, ◌&&◌, Bool, true, false, true≢false, List, [], ◌∷◌, ◌++◌, length, take, zip, get_or, set, slice_get, Option, Some, None, arith, length-append, if◌then◌else◌}
use Rattle.std.specs.Prelude.{IfSome}
use Rattle.std.proofs.lemmas.Bool.{eq-eqb, ne_eqb}
use Rattle.std.proofs.lemmas.List.{get_or-set_same, get_or-set_other}
use Rattle.std.proofs.lemmas.List.Folds.{list_any_none}
use Rattle.std.proofs.lemmas.Option.{slice_get-get_or}
use mathlib.Core.Logic.{dite}
use native.Mathlib.Decide.{ℕ_discrete}
use Rattle.page_map.specs.declared.pages.Mode.{Mode}
use Rattle.page_map.specs.declared.pages.Mode.TheVariants as modes
use Rattle.range_tree.specs.Ranges.{range_count}
use Rattle.plain_text.specs.Options.{◌>>=◌}
use Rattle.dax_script.specs.declared.asks.Held.{Held as Wanted}
use Rattle.dax_script.specs.declared.scripts.Call.{Call}
use Rattle.dax_script.specs.declared.scripts.Call.TheVariants as calls
use Rattle.dax_script.specs.Asks.{is_hold, held_of, hold_in, held_by, hold_places, place_of_hold}
use Rattle.transcript_text.specs.declared.transcripts.Line.{Line}
use Rattle.transcript_text.specs.declared.transcripts.Line.TheVariants as lines
use Rattle.transcript_text.specs.declared.transcripts.Numbered.{Numbered}
use Rattle.dax_audit.specs.declared.verdicts.Grant.{Grant}
use Rattle.dax_audit.specs.Guests.{grant_of, is_release, is_released, releases, is_given_up, had_grant}
use Rattle.guest_dax.specs.Stands.{Stand}
use Rattle.guest_io.specs.declared.calls.Held.{Held}
use Rattle.guest_io.specs.declared.guest.Granted.{Granted}
use Rattle.guest_io.specs.declared.guest.Holds.{Holds}
use Rattle.guest_io.specs.Holds.{HasHolds, max_holds, granted_at, granted_one, released_one}
use Rattle.guest_run.specs.Runs.{Asked, Had, IsAskedBefore}
use Rattle.guest_run.specs.Working.{IsForWriting, IsCall, AreCalls, CanMake, Asks, IsHeldNow, IsReleased, after_refusal, Tells}
use Rattle.guest_run.proofs.Places.{none_is, some_is, in_take, of_zip, take_more}
use Rattle.guest_run.proofs.Counting.{asked_more, number_of, hold_at, had_kept, had_released, had_new}

-- what a granted hold was asked for, and what its line grants
abbrev pub wanted_of : Granted → Wanted
wanted_of g = record { file = g.file; chunk = g.chunk; mode = g.mode }

abbrev pub grant_for : Granted → Grant
grant_for g = record { end = g.end; through = g.pinned.through }

-- the guest has the hold by its lines: one asked for so, and granted so
pub record IsGrantOf (cs : List Call) (ls : List Numbered) (hold : ℕ) (g : Granted) : Type 0 where
  pub by : held_by cs hold ≡ Some (wanted_of g)
  pub had : Had cs ls (length ls) hold (grant_for g)

-- The guest's holds are those of its first calls, by their lines.
pub record IsFollowed (cs : List Call) (ls : List Numbered) (h : Holds) : Type 0 where
  pub asked : h.asked ≡ length (hold_places 0 (take (length ls) cs))
  pub each : (hold : ℕ) (g : Granted) → granted_at h hold ≡ Some g → IsGrantOf cs ls hold g
  pub none : (hold : ℕ) → granted_at h hold ≡ None → had_grant cs ls hold (length ls) ≡ None

follows : (cs : List Call) (ls : List Numbered) (h : Holds) (m : ℕ) → m ≡ length ls → h.asked ≡ length (hold_places 0 (take m cs))
    → ((hold : ℕ) (g : Granted) → granted_at h hold ≡ Some g → (held_by cs hold ≡ Some (wanted_of g)) × Had cs ls m hold (grant_for g))
    → ((hold : ℕ) → granted_at h hold ≡ None → had_grant cs ls hold m ≡ None) → IsFollowed cs ls h
follows cs ls h m e asked each none = record {
  asked = asked ∙ ap (λ (x : ℕ). length (hold_places 0 (take x cs))) e;
  each = λ hold g at. record { by = (each hold g at).0; had = subst (λ (x : ℕ). Had cs ls x hold (grant_for g)) e (each hold g at).1 };
  none = λ hold at. subst (λ (x : ℕ). had_grant cs ls hold x ≡ None) e (none hold at);
}

-- ---- before the first call

nothing : {A B : Type 0} (o : Option A) (f : A → Option B) → ((x : A) → f x ≡ None) → (o >>= f) ≡ None
nothing None f none = refl
nothing (Some x) f none = none x

-- a guest that has asked for no hold follows no lines
pub followed_none : (cs : List Call) (h : Holds) → h.asked ≡ 0 → ((hold : ℕ) → granted_at h hold ≡ None) → IsFollowed cs [] h
unfolding hold_places
followed_none cs h asked none = record {
  asked = asked;
  each = λ hold g at. absurd (none_is g (sym (none hold) ∙ at));
  none = λ hold at. nothing (place_of_hold cs hold) (λ x. None) (λ x. refl);
}

-- ---- the next call

some_with : (o : Option Granted) (P : Granted → Type 0) → ((g : Granted) → o ≡ Some g → P g) → IfSome o P
some_with None P each = tt
some_with (Some g) P each = each g refl

-- a granted hold that was asked for with writing has it
pub granted_for_writing : (cs : List Call) (ls : List Numbered) (h : Holds) (hold : ℕ) (g : Granted) → IsFollowed cs ls h → IsForWriting cs hold → granted_at h hold ≡ Some g → g.mode ≡ modes.W
granted_for_writing cs ls h hold g f w at = ap (λ (x : Wanted). x.mode) (some_is (wanted_of g) w.held (sym (f.each hold g at).by ∙ w.by)) ∙ w.mode

for_writing : (cs : List Call) (ls : List Numbered) (h : Holds) (hold : ℕ) → IsFollowed cs ls h → IsForWriting cs hold → IfSome (granted_at h hold) (λ g. g.mode ≡ modes.W)
for_writing cs ls h hold f w = some_with (granted_at h hold) (λ g. g.mode ≡ modes.W) (λ g at. granted_for_writing cs ls h hold g f w at)

can_make_of : (files ranges : ℕ) (s : Stand) (h : Holds) (cs : List Call) (ls : List Numbered) (n : ℕ) (c : Call) → n ≡ length ls → range_count s.map ≡ ranges → IsFollowed cs ls h
    → IsCall files ranges cs n c → CanMake s h files c
unfolding IsCall CanMake
can_make_of files ranges s h cs ls n (calls.Read file off len) number count f is = is
can_make_of files ranges s h cs ls n (calls.Write file off bytes) number count f is = is
can_make_of files ranges s h cs ls n (calls.Fill file off len byte) number count f is = is
can_make_of files ranges s h cs ls n (calls.Size file) number count f is = is
can_make_of files ranges s h cs ls n (calls.Truncate file size) number count f is = is
can_make_of files ranges s h cs ls n (calls.Hold file chunk mode) number count f is =
    let some = is.2 in
    let few = is.3 in
    let asked = f.asked in
    let same : length (hold_places 0 (take n cs)) ≡ length (hold_places 0 (take (length ls) cs)) = ap (λ (x : ℕ). length (hold_places 0 (take x cs))) number in
    (is.0, is.1, omega (arith, some, count), omega (arith, few, asked, same))
can_make_of files ranges s h cs ls n (calls.Load hold off len) number count f is = (is.1, is.2)
can_make_of files ranges s h cs ls n (calls.Store hold off bytes) number count f is = (for_writing cs ls h hold f is.1, is.2, is.3)
can_make_of files ranges s h cs ls n (calls.Release hold) number count f is = tt

-- a guest whose holds follow its lines can make its next call
pub can_make : (files ranges : ℕ) (s : Stand) (h : Holds) (cs : List Call) (ls : List Numbered) (n : ℕ) (c : Call) → AreCalls files ranges cs → IsFollowed cs ls h → slice_get cs n ≡ Some c → n ≡ length ls
    → range_count s.map ≡ ranges → CanMake s h files c
can_make files ranges s h cs ls n c are f made number count = can_make_of files ranges s h cs ls n c number count f (are n c made)

-- ---- what isn't given up

not_release : (files ranges : ℕ) (cs : List Call) (n hold : ℕ) (c : Call) → (IsAskedBefore cs n hold → ⊥) → IsCall files ranges cs n c → is_release hold c ≡ false
unfolding IsCall is_release
not_release files ranges cs n hold (calls.Read file off len) not is = refl
not_release files ranges cs n hold (calls.Write file off bytes) not is = refl
not_release files ranges cs n hold (calls.Fill file off len byte) not is = refl
not_release files ranges cs n hold (calls.Size file) not is = refl
not_release files ranges cs n hold (calls.Truncate file size) not is = refl
not_release files ranges cs n hold (calls.Hold file chunk mode) not is = refl
not_release files ranges cs n hold (calls.Load k off len) not is = refl
not_release files ranges cs n hold (calls.Store k off bytes) not is = refl
not_release files ranges cs n hold (calls.Release k) not is = ne_eqb k hold (λ e. not (subst (IsAskedBefore cs n) e is))

first_no : (a b : Bool) → a ≡ false → (a && b) ≡ false
first_no a b e = ap (λ (x : Bool). x && b) e

-- a hold isn't given up before it is asked for
not_given_up : (files ranges : ℕ) (cs : List Call) (ls : List Numbered) (n hold : ℕ) → AreCalls files ranges cs → place_of_hold cs hold ≡ Some n → is_given_up cs ls hold n ≡ false
not_given_up files ranges cs ls n hold are place = list_any_none (releases hold) (take n (zip cs ls)) (λ k d lt.
    let z = get_or (take n (zip cs ls)) k d in
    let at = in_take n (zip cs ls) k z (slice_get-get_or (take n (zip cs ls)) k d lt) in
    let here = of_zip cs ls k z at.1 in
    let before = at.0 in
    let not : IsAskedBefore cs k hold → ⊥ = λ a. (let e : n ≡ a.at = some_is n a.at (sym place ∙ a.place) in let b = a.before in omega (arith, e, b, before)) in
    first_no (is_release hold z.0) (is_released z.1.line) (not_release files ranges cs k hold z.0 not (are k z.0 here.0)))

-- ---- one more line

second_no : (a b : Bool) → b ≡ false → (a && b) ≡ false
second_no true b e = e
second_no false b e = refl

-- a call that asks something of its file is no hold
asks_no_hold : (h : Holds) (c : Call) (to : Asked) → Asks h c to → is_hold c ≡ false
unfolding Asks is_hold
asks_no_hold h (calls.Read file off len) to is = refl
asks_no_hold h (calls.Write file off bytes) to is = refl
asks_no_hold h (calls.Fill file off len byte) to is = refl
asks_no_hold h (calls.Size file) to is = refl
asks_no_hold h (calls.Truncate file size) to is = refl
asks_no_hold h (calls.Hold file chunk mode) to is = absurd is
asks_no_hold h (calls.Load hold off len) to is = refl
asks_no_hold h (calls.Store hold off bytes) to is = refl
asks_no_hold h (calls.Release hold) to is = refl

-- nor is one that uses a hold
uses_no_hold : (c : Call) (hold : ℕ) → hold_in c ≡ Some hold → is_hold c ≡ false
unfolding hold_in is_hold
uses_no_hold (calls.Read file off len) hold is = refl
uses_no_hold (calls.Write file off bytes) hold is = refl
uses_no_hold (calls.Fill file off len byte) hold is = refl
uses_no_hold (calls.Size file) hold is = refl
uses_no_hold (calls.Truncate file size) hold is = refl
uses_no_hold (calls.Hold file chunk mode) hold is = absurd (none_is hold is)
uses_no_hold (calls.Load k off len) hold is = refl
uses_no_hold (calls.Store k off bytes) hold is = refl
uses_no_hold (calls.Release k) hold is = refl

-- a hold counts where it is refused
refusal_asked : (c : Call) (h : Holds) → (after_refusal c h).asked ≡ h.asked + (if is_hold c then 1 else 0)
unfolding after_refusal is_hold
refusal_asked (calls.Read file off len) h = omega arith
refusal_asked (calls.Write file off bytes) h = omega arith
refusal_asked (calls.Fill file off len byte) h = omega arith
refusal_asked (calls.Size file) h = omega arith
refusal_asked (calls.Truncate file size) h = omega arith
refusal_asked (calls.Hold file chunk mode) h = refl
refusal_asked (calls.Load hold off len) h = omega arith
refusal_asked (calls.Store hold off bytes) h = omega arith
refusal_asked (calls.Release hold) h = omega arith

refusal_slots : (c : Call) (h : Holds) → (after_refusal c h).slots ≡ h.slots
unfolding after_refusal
refusal_slots (calls.Read file off len) h = refl
refusal_slots (calls.Write file off bytes) h = refl
refusal_slots (calls.Fill file off len byte) h = refl
refusal_slots (calls.Size file) h = refl
refusal_slots (calls.Truncate file size) h = refl
refusal_slots (calls.Hold file chunk mode) h = refl
refusal_slots (calls.Load hold off len) h = refl
refusal_slots (calls.Store hold off bytes) h = refl
refusal_slots (calls.Release hold) h = refl

uncounted : (n : ℕ) (b : Bool) → b ≡ false → n ≡ n + (if b then 1 else 0)
uncounted n true e = absurd (true≢false e)
uncounted n false e = omega arith

-- a slot that isn't set, and the one that is
slot_else : (h : Holds) (at hold : ℕ) (o : Option Granted) → hold ≢ at → get_or (set h.slots at o) hold None ≡ granted_at h hold
slot_else h at hold o apart = get_or-set_other h.slots at hold o None apart

slot_set : (h : Holds) (at : ℕ) (o : Option Granted) → at < length h.slots → get_or (set h.slots at o) at None ≡ o
slot_set h at o lt = get_or-set_same h.slots at o None lt

-- a hold that is had has its slot
slot_within : (xs : List (Option Granted)) (hold : ℕ) (g : Granted) → get_or xs hold None ≡ Some g → hold < length xs
slot_within [] hold g e = absurd (none_is g e)
slot_within (x ∷ xs) zero g e = omega arith
slot_within (x ∷ xs) (suc hold) g e = let k = slot_within xs hold g e in omega (arith, k)

module _ (cs : List Call) (ls : List Numbered) (h : Holds) (c : Call) (l : Numbered) (made : slice_get cs (length ls) ≡ Some c) (f : IsFollowed cs ls h) where
  asked_then : (asked : ℕ) → asked ≡ h.asked + (if is_hold c then 1 else 0) → asked ≡ length (hold_places 0 (take (length ls + 1) cs))
  asked_then asked e =
      let before = f.asked in
      let more = asked_more 0 (take (length ls) cs) c in
      let taken : length (hold_places 0 (take (length ls + 1) cs)) ≡ length (hold_places 0 (take (length ls) cs ++ c ∷ [])) = ap (λ (xs : List Call). length (hold_places 0 xs)) (take_more cs (length ls) c made) in
      omega (arith, e, before, more, taken)

  one_longer : length ls + 1 ≡ length (ls ++ l ∷ [])
  one_longer = sym (length-append ls (l ∷ []))

  -- a line that neither grants nor gives up
  kept : (k : Holds) → grant_of l.line ≡ None → is_released l.line ≡ false → k.slots ≡ h.slots → k.asked ≡ h.asked + (if is_hold c then 1 else 0) → IsFollowed cs (ls ++ l ∷ []) k
  kept k grants gives slots asked =
      let same : (hold : ℕ) → granted_at k hold ≡ granted_at h hold = λ hold. ap (λ (xs : List (Option Granted)). get_or xs hold None) slots in
      let had : (hold : ℕ) → had_grant cs (ls ++ l ∷ []) hold (length ls + 1) ≡ had_grant cs ls hold (length ls) = λ hold. had_kept cs ls c l made hold (λ at. grants) (second_no (is_release hold c) (is_released l.line) gives) in
      follows cs (ls ++ l ∷ []) k (length ls + 1) one_longer (asked_then k.asked asked)
      (λ hold g at. let e = f.each hold g (sym (same hold) ∙ at) in (e.by, had hold ∙ e.had))
      (λ hold at. had hold ∙ f.none hold (sym (same hold) ∙ at))

  -- one that gives a hold up
  gave_up : (hold : ℕ) (g : Granted) → granted_at h hold ≡ Some g → is_release hold c ≡ true → ((k : ℕ) → k ≢ hold → is_release k c ≡ false) → grant_of l.line ≡ None → is_released l.line ≡ true → is_hold c ≡ false → IsFollowed cs (ls ++ l ∷ []) (released_one h hold)
  gave_up hold g has this others grants gives unheld =
      let here : granted_at (released_one h hold) hold ≡ None = slot_set h hold None (slot_within h.slots hold g has) in
      let gone : had_grant cs (ls ++ l ∷ []) hold (length ls + 1) ≡ None = had_released cs ls c l made hold (λ i. this i && gives i) in
      let same : (k : ℕ) → k ≢ hold → had_grant cs (ls ++ l ∷ []) k (length ls + 1) ≡ had_grant cs ls k (length ls) = λ k apart. had_kept cs ls c l made k (λ at. grants) (first_no (is_release k c) (is_released l.line) (others k apart)) in
      let asked : h.asked ≡ h.asked + (if is_hold c then 1 else 0) = uncounted h.asked (is_hold c) unheld in
      follows cs (ls ++ l ∷ []) (released_one h hold) (length ls + 1) one_longer (asked_then h.asked asked)
      (λ k x at. dite (ℕ_discrete k hold)
      (λ e. absurd (none_is x (sym here ∙ (ap (granted_at (released_one h hold)) (sym e) ∙ at))))
      (λ apart. let e = f.each k x (sym (slot_else h hold k None apart) ∙ at) in (e.by, same k apart ∙ e.had)))
      (λ k at. dite (ℕ_discrete k hold)
      (λ e. subst (λ (m : ℕ). had_grant cs (ls ++ l ∷ []) m (length ls + 1) ≡ None) (sym e) gone)
      (λ apart. same k apart ∙ f.none k (sym (slot_else h hold k None apart) ∙ at)))

  -- one that grants a hold
  granted_more : (g : Granted) → h.asked < length h.slots → place_of_hold cs h.asked ≡ Some (length ls) → held_by cs h.asked ≡ Some (wanted_of g) → is_given_up cs ls h.asked (length ls) ≡ false
      → ((hold : ℕ) → place_of_hold cs hold ≡ Some (length ls) → hold ≡ h.asked) → ((hold : ℕ) → is_release hold c ≡ false) → grant_of l.line ≡ Some (grant_for g) → is_hold c ≡ true → IsFollowed cs (ls ++ l ∷ []) (granted_one h g)
  granted_more g room place by kept_so far no_release grants is =
      let here : granted_at (granted_one h g) h.asked ≡ Some g = slot_set h h.asked (Some g) room in
      let keeps : (hold : ℕ) → releases hold (c, l) ≡ false = λ hold. first_no (is_release hold c) (is_released l.line) (no_release hold) in
      let newest : had_grant cs (ls ++ l ∷ []) h.asked (length ls + 1) ≡ Some (grant_for g) = had_new cs ls c l made h.asked (grant_for g) place kept_so (keeps h.asked) grants in
      let same : (hold : ℕ) → hold ≢ h.asked → had_grant cs (ls ++ l ∷ []) hold (length ls + 1) ≡ had_grant cs ls hold (length ls) = λ hold apart. had_kept cs ls c l made hold (λ at. absurd (apart (far hold at))) (keeps hold) in
      let asked : h.asked + 1 ≡ h.asked + (if is_hold c then 1 else 0) = sym (ap (λ (b : Bool). h.asked + (if b then 1 else 0)) is) in
      follows cs (ls ++ l ∷ []) (granted_one h g) (length ls + 1) one_longer (asked_then (h.asked + 1) asked)
      (λ hold x at. dite (ℕ_discrete hold h.asked)
      (λ e. let y : g ≡ x = some_is g x (sym here ∙ (ap (granted_at (granted_one h g)) (sym e) ∙ at)) in
      ((λ i. held_by cs (e i)) ∙ (by ∙ ap (λ (z : Granted). Some (wanted_of z)) y), (λ i. had_grant cs (ls ++ l ∷ []) (e i) (length ls + 1)) ∙ (newest ∙ ap (λ (z : Granted). Some (grant_for z)) y)))
      (λ apart. let e = f.each hold x (sym (slot_else h h.asked hold (Some g) apart) ∙ at) in (e.by, same hold apart ∙ e.had)))
      (λ hold at. dite (ℕ_discrete hold h.asked)
      (λ e. absurd (none_is g (sym at ∙ (ap (granted_at (granted_one h g)) e ∙ here))))
      (λ apart. same hold apart ∙ f.none hold (sym (slot_else h h.asked hold (Some g) apart) ∙ at)))

-- ---- the calls of holds

releases_it : (c : Call) (hold : ℕ) → c ≡ calls.Release hold → is_release hold c ≡ true
unfolding is_release
releases_it c hold e = ap (is_release hold) e ∙ eq-eqb hold hold refl

releases_else : (c : Call) (hold k : ℕ) → c ≡ calls.Release hold → k ≢ hold → is_release k c ≡ false
unfolding is_release
releases_else c hold k e apart = ap (is_release k) e ∙ ne_eqb hold k (λ x. apart (sym x))

release_no_hold : (c : Call) (hold : ℕ) → c ≡ calls.Release hold → is_hold c ≡ false
unfolding is_hold
release_no_hold c hold e = ap is_hold e

truncate_no_hold : (c : Call) (file size : ℕ) → c ≡ calls.Truncate file size → is_hold c ≡ false
unfolding is_hold
truncate_no_hold c file size e = ap is_hold e

hold_no_release : (c : Call) (file chunk : ℕ) (mode : Mode) → c ≡ calls.Hold file chunk mode → (k : ℕ) → is_release k c ≡ false
unfolding is_release
hold_no_release c file chunk mode e k = ap (is_release k) e

hold_is : (c : Call) (file chunk : ℕ) (mode : Mode) → c ≡ calls.Hold file chunk mode → is_hold c ≡ true
unfolding is_hold
hold_is c file chunk mode e = ap is_hold e

pub hold_wants : (c : Call) (file chunk : ℕ) (mode : Mode) → c ≡ calls.Hold file chunk mode → held_of c ≡ Some (record { file = file; chunk = chunk; mode = mode })
unfolding held_of
hold_wants c file chunk mode e = ap held_of e

hold_room : (files ranges : ℕ) (cs : List Call) (n file chunk : ℕ) (mode : Mode) (c : Call) → c ≡ calls.Hold file chunk mode → IsCall files ranges cs n c → length (hold_places 0 (take n cs)) < max_holds
unfolding IsCall
hold_room files ranges cs n file chunk mode c e is = (subst (IsCall files ranges cs n) e is).3

-- ---- one more call

module _ (files ranges : ℕ) (s t : Stand) (h k : Holds) (cs : List Call) (ls : List Numbered) (c : Call) (are : AreCalls files ranges cs) (has : HasHolds s h) (f : IsFollowed cs ls h) (made : slice_get cs (length ls) ≡ Some c) where
  abbrev its_line : Line → Numbered
  its_line l = record { call = length ls; line = l }

  -- the holds as they were, after a call that is no hold
  as_before : (l : Line) → grant_of l ≡ None → is_released l ≡ false → is_hold c ≡ false → k ≡ h → IsFollowed cs (ls ++ its_line l ∷ []) k
  as_before l grants gives none same =
      kept cs ls h c (its_line l) made f k grants gives (ap (λ (x : Holds). x.slots) same)
      (ap (λ (x : Holds). x.asked) same ∙ uncounted h.asked (is_hold c) none)

  held_now : (held : Held) → grant_of (lines.Held held.end held.through) ≡ Some (record { end = held.end; through = held.through }) → IsHeldNow s h c held t k → IsFollowed cs (ls ++ its_line (lines.Held held.end held.through) ∷ []) k
  held_now held grants x =
      let a = x.granted in
      let g = a.granted in
      let n = length ls in
      let few = hold_room files ranges cs n x.file x.chunk x.mode c x.asks (are n c made) in
      let asked = f.asked in
      let slots = has.slots in
      let is : is_hold c ≡ true = hold_is c x.file x.chunk x.mode x.asks in
      let place : place_of_hold cs h.asked ≡ Some n = ap (λ (m : ℕ). place_of_hold cs m) asked ∙ number_of 0 n n cs c (omega arith) made is in
      let wants : held_of c ≡ Some (wanted_of g) = hold_wants c x.file x.chunk x.mode x.asks ∙ (λ i. Some (record { file = sym a.file i; chunk = sym a.chunk i; mode = sym a.mode i })) in
      let by : held_by cs h.asked ≡ Some (wanted_of g) = ap (λ (o : Option ℕ). o >>= λ at. slice_get cs at >>= held_of) place ∙ (ap (λ (o : Option Call). o >>= held_of) made ∙ wants) in
      let far : (hold : ℕ) → place_of_hold cs hold ≡ Some n → hold ≡ h.asked = λ hold at. (let y = hold_at 0 hold n cs at in let z = y.place in let w : y.at ≡ n = omega (arith, z) in y.number ∙ (ap (λ (m : ℕ). length (hold_places 0 (take m cs))) w ∙ sym asked)) in
      subst (IsFollowed cs (ls ++ its_line (lines.Held held.end held.through) ∷ [])) (sym a.holds)
      (granted_more cs ls h c (its_line (lines.Held held.end held.through)) made f g (omega (arith, few, asked, slots)) place by (not_given_up files ranges cs ls n h.asked are place) far (hold_no_release c x.file x.chunk x.mode x.asks)
      (grants ∙ (λ i. Some (record { end = sym a.end i; through = sym a.through i }))) is)

  released_now : grant_of lines.Released ≡ None → is_released lines.Released ≡ true → IsReleased s h c t k → IsFollowed cs (ls ++ its_line lines.Released ∷ []) k
  released_now grants gives x = subst (IsFollowed cs (ls ++ its_line lines.Released ∷ [])) (sym x.holds)
      (gave_up cs ls h c (its_line lines.Released) made f x.hold x.granted x.had (releases_it c x.hold x.asks) (λ m apart. releases_else c x.hold m x.asks apart) grants gives (release_no_hold c x.hold x.asks))

  told_followed : (l : Line) → Tells s h (length ls) c l t k → IsFollowed cs (ls ++ its_line l ∷ []) k
  unfolding Tells grant_of is_released
  told_followed (lines.Done place answer) (x, same) = as_before (lines.Done place answer) refl refl (asks_no_hold h c x.to x.asks) same
  told_followed (lines.Held end through) x = held_now (record { end = end; through = through }) refl x
  told_followed lines.Released x = released_now refl refl x
  told_followed (lines.Busy letters) x = kept cs ls h c (its_line (lines.Busy letters)) made f k refl refl (ap (λ (y : Holds). y.slots) x.holds ∙ refusal_slots c h) (ap (λ (y : Holds). y.asked) x.holds ∙ refusal_asked c h)
  told_followed (lines.Leased count) x = as_before (lines.Leased count) refl refl (truncate_no_hold c x.file x.size x.asks) x.holds
  told_followed lines.NoHold x = as_before lines.NoHold refl refl (uses_no_hold c x.hold x.uses) x.holds
  told_followed (lines.Past end) x = as_before (lines.Past end) refl refl (uses_no_hold c x.hold x.uses) x.holds

-- the holds behind the next call follow its line too
pub step_followed : (files ranges : ℕ) (s t : Stand) (h k : Holds) (cs : List Call) (ls : List Numbered) (n : ℕ) (c : Call) (l : Line) → AreCalls files ranges cs → HasHolds s h → IsFollowed cs ls h → n ≡ length ls → slice_get cs n ≡ Some c
    → Tells s h n c l t k → IsFollowed cs (ls ++ record { call = n; line = l } ∷ []) k
step_followed files ranges s t h k cs ls n c l are has f number = subst (λ (m : ℕ). slice_get cs m ≡ Some c → Tells s h m c l t k → IsFollowed cs (ls ++ record { call = m; line = l } ∷ []) k) (sym number)
    (λ made x. told_followed files ranges s t h k cs ls c are has f made l x)

-- One call more of a guest that is alone: what its lines refuse, its own holds have.
use Rattle.std.proofs.Common.{◌≡◌, ◌≢◌, ⊎_elim, ◌∙◌, ap, sym, subst, refl, ℕ, zero, suc, ◌+◌, ◌<◌, ◌==◌, ◌&&◌, Bool, true, false, true≢false, List, [], ◌∷◌, ◌++◌, length, take, get_or, slice_get, Option, Some, None, arith, if◌then◌else◌}
use Rattle.std.specs.Prelude.{is_some}
use Rattle.plain_file.specs.Turns.{leases_on}
use Rattle.page_map.specs.declared.pages.Mode.{Mode}
use Rattle.page_map.specs.declared.ranges.LogEntry.{LogEntry}
use Rattle.page_map.specs.declared.ranges.LogEntry.TheVariants as entries
use Rattle.page_map.specs.Board.{log_at}
use Rattle.range_tree.specs.Ranges.{range_count}
use Rattle.dax_script.specs.declared.scripts.Call.{Call}
use Rattle.dax_script.specs.declared.scripts.Call.TheVariants as calls
use Rattle.dax_script.specs.Asks.{held_by, hold_in}
use Rattle.dax_script.specs.declared.asks.Held.{Held as Wanted}
use Rattle.transcript_text.specs.declared.transcripts.Line.{Line}
use Rattle.transcript_text.specs.declared.transcripts.Line.TheVariants as lines
use Rattle.transcript_text.specs.declared.transcripts.Numbered.{Numbered}
use Rattle.dax_audit.specs.declared.verdicts.Grant.{Grant}
use Rattle.dax_audit.specs.Guests.{had_grant}
use Rattle.dax_audit.specs.Rules.{is_taking, is_truncating}
use Rattle.guest_dax.specs.Stands.{Stand}
use Rattle.guest_dax.specs.Pinning.{PlacesIn}
use Rattle.guest_io.specs.declared.guest.Granted.{Granted}
use Rattle.guest_io.specs.declared.guest.Holds.{Holds}
use Rattle.guest_io.specs.Holds.{HasHolds, LeavesRest, max_holds, granted_at, leases_of}
use Rattle.guest_run.specs.Runs.{Asked, Had, LogGoesOn}
use Rattle.guest_run.specs.Working.{TakesAlone, LeasesAlone, Asks, is_held_on, is_had_on, had_from, holds_on, IsBarredBy, IsHeldRange, IsHeldUp, AreBarred, AreHeldUp, IsStuck, Tells}
use Rattle.guest_run.proofs.Places.{none_is, some_is, within, at_end, front, take_front}
use Rattle.guest_run.proofs.Following.{grant_for, wanted_of, IsFollowed}

-- a guest stays alone
pub takes_after : (s t : Stand) → LeavesRest s t → TakesAlone s → TakesAlone t
takes_after s t k a = record { others = k.map.others ∙ a.others; count = λ one. a.count (sym k.map.count ∙ one) }

pub leases_after : (s t : Stand) → LeavesRest s t → LeasesAlone s → LeasesAlone t
leases_after s t k a = k.files.others ∙ a

-- no lines are fair
pub barred_none : (cs : List Call) → AreBarred cs []
barred_none cs = λ n file size l at at'. absurd (none_is l at')

pub held_up_none : (ranges : ℕ) (logs : ℕ → List LogEntry) (cs : List Call) → AreHeldUp ranges logs cs []
held_up_none ranges logs cs = λ n c l letters at at' busy. absurd (none_is l at')

-- ---- how many holds a guest has on a file

take_all : {A : Type 0} (xs : List A) → take (length xs) xs ≡ xs
take_all [] = refl
take_all (x ∷ xs) = ap (λ (ys : List _). x ∷ ys) (take_all xs)

had_on_same : (cs : List Call) (ls ms : List Numbered) (file n hold : ℕ) → take n ls ≡ take n ms → is_had_on cs ls file n hold ≡ is_had_on cs ms file n hold
had_on_same cs ls ms file n hold e = ap (λ (ks : List Numbered). is_some (had_grant cs ks hold n) && is_held_on file (held_by cs hold)) e

-- the lines before a call tell how many there are before it
had_same : (cs : List Call) (ls ms : List Numbered) (file n hold k : ℕ) → take n ls ≡ take n ms → had_from cs ls file n hold k ≡ had_from cs ms file n hold k
unfolding had_from
had_same cs ls ms file n hold zero e = refl
had_same cs ls ms file n hold (suc k) e = λ i. (if had_on_same cs ls ms file n hold e i then 1 else 0) + had_same cs ls ms file n (hold + 1) k e i

uncounted : (b : Bool) (m : ℕ) → b ≡ false → m ≡ (if b then 1 else 0) + m
uncounted true m e = absurd (true≢false e)
uncounted false m e = omega arith

-- holds are counted as they are had
leases_had : (cs : List Call) (ls : List Numbered) (file n a : ℕ) (xs : List (Option Granted))
    → ((i j : ℕ) (g : Granted) → j ≡ a + i → get_or xs i None ≡ Some g → is_had_on cs ls file n j ≡ (g.file == file)) → ((i j : ℕ) → j ≡ a + i → get_or xs i None ≡ None → is_had_on cs ls file n j ≡ false)
    → leases_of file xs ≡ had_from cs ls file n a (length xs)
unfolding leases_of had_from
leases_had cs ls file n a [] some none = refl
leases_had cs ls file n a (None ∷ xs) some none =
    let later = leases_had cs ls file n (a + 1) xs (λ i j g e at. some (suc i) j g (omega (arith, e)) at) (λ i j e at. none (suc i) j (omega (arith, e)) at) in
    later ∙ uncounted (is_had_on cs ls file n a) (had_from cs ls file n (a + 1) (length xs)) (none 0 a (omega arith) refl)
leases_had cs ls file n a (Some g ∷ xs) some none =
    let later = leases_had cs ls file n (a + 1) xs (λ i j x e at. some (suc i) j x (omega (arith, e)) at) (λ i j e at. none (suc i) j (omega (arith, e)) at) in
    let here : is_had_on cs ls file n a ≡ (g.file == file) = some 0 a g (omega arith) refl in
    (λ i. (if sym here i then 1 else 0) + later i)

-- the leases of a guest on a file are as many as the holds that its lines tell
holds_are : (s : Stand) (h : Holds) (cs : List Call) (ls ms : List Numbered) (file : ℕ) → HasHolds s h → IsFollowed cs ls h → take (length ls) ms ≡ ls → leases_on s.files file ≡ holds_on cs ms file (length ls)
holds_are s h cs ls ms file has f e =
    let n = length ls in
    has.leases file
    ∙ (leases_had cs ms file n 0 h.slots
    (λ i j g z at. let y : granted_at h j ≡ Some g = ap (granted_at h) (let w : j ≡ i = omega (arith, z) in w) ∙ at in let x = f.each j g y in
    (λ r. is_some (had_grant cs (e r) j n) && is_held_on file (held_by cs j)) ∙ (λ r. is_some (x.had r) && is_held_on file (x.by r)))
    (λ i j z at. let y : granted_at h j ≡ None = ap (granted_at h) (let w : j ≡ i = omega (arith, z) in w) ∙ at in
    (λ r. is_some (had_grant cs (e r) j n) && is_held_on file (held_by cs j)) ∙ (λ r. is_some (f.none j y r) && is_held_on file (held_by cs j)))
    ∙ ap (λ (k : ℕ). had_from cs ms file n 0 k) has.slots)

-- ---- ranges of holds

-- an entry stays where it is
places_on : (log log' : List LogEntry) (entry chunk range : ℕ) → LogGoesOn log log' → PlacesIn log entry chunk range → PlacesIn log' entry chunk range
places_on log log' entry chunk range on (mode, at) = (mode, ap (λ (xs : List LogEntry). slice_get xs entry) on.1 ∙ front log on.0 entry (entries.Place chunk range mode) at)

held_range_on : (logs logs' : ℕ → List LogEntry) (cs : List Call) (ls ms : List Numbered) (n range : ℕ) → ((f : ℕ) → LogGoesOn (logs f) (logs' f)) → take n ms ≡ take n ls → IsHeldRange logs cs ls n range → IsHeldRange logs' cs ms n range
held_range_on logs logs' cs ls ms n range on e r = record {
  hold = r.hold;
  held = r.held;
  grant = r.grant;
  by = r.by;
  had = subst (λ (ks : List Numbered). Had cs ks n r.hold r.grant) (sym e) r.had;
  entry = places_on (logs r.held.file) (logs' r.held.file) r.grant.through.entry r.held.chunk range (on r.held.file) r.entry;
}

held_up_on : (ranges : ℕ) (logs logs' : ℕ → List LogEntry) (cs : List Call) (ls ms : List Numbered) (n : ℕ) (c : Call) (letters : List ℕ) → ((f : ℕ) → LogGoesOn (logs f) (logs' f)) → take n ms ≡ take n ls → IsHeldUp ranges logs cs ls n c letters → IsHeldUp ranges logs' cs ms n c letters
held_up_on ranges logs logs' cs ls ms n c letters on e u = record {
  pinned = u.pinned;
  missing = u.missing;
  two = u.two;
  each = λ range lt apart. held_range_on logs logs' cs ls ms n range on e (u.each range lt apart);
  file = u.file;
  chunk = u.chunk;
  needs = u.needs;
  unheld = λ hold held grant by had. u.unheld hold held grant by (subst (λ (ks : List Numbered). Had cs ks n hold grant) e had);
}

-- the range of a hold
held_range : (s t : Stand) (h : Holds) (cs : List Call) (ls ms : List Numbered) (hold range : ℕ) (g : Granted) → LeavesRest s t → HasHolds s h → IsFollowed cs ls h → take (length ls) ms ≡ ls → granted_at h hold ≡ Some g → g.pinned.range ≡ range → IsHeldRange (log_at t.map) cs ms (length ls) range
held_range s t h cs ls ms hold range g rest has f e at is = record {
  hold = hold;
  held = wanted_of g;
  grant = grant_for g;
  by = (f.each hold g at).by;
  had = subst (λ (ks : List Numbered). Had cs ks (length ls) hold (grant_for g)) (sym e) (f.each hold g at).had;
  entry = subst (PlacesIn (log_at t.map g.file) g.pinned.through.entry g.chunk) is (places_on (log_at s.map g.file) (log_at t.map g.file) g.pinned.through.entry g.chunk g.pinned.range (rest.map.logs g.file) (has.each hold g at).entry);
}

-- a hold that the guest has is granted, so that what no granted hold is on none is on
not_had : (h : Holds) (cs : List Call) (ls : List Numbered) (file chunk hold : ℕ) (held : Wanted) (grant : Grant) → IsFollowed cs ls h → ((n : ℕ) (g : Granted) → granted_at h n ≡ Some g → g.file ≡ file → g.chunk ≢ chunk) → held_by cs hold ≡ Some held → Had cs ls (length ls) hold grant → held.file ≡ file → held.chunk ≢ chunk
not_had h cs ls file chunk hold held grant f none by had on is = by_slot (granted_at h hold) refl
  where
    by_slot : (o : Option Granted) → granted_at h hold ≡ o → ⊥
    by_slot None e = none_is grant (sym (f.none hold e) ∙ had)
    by_slot (Some g) e =
        let same : wanted_of g ≡ held = some_is (wanted_of g) held (sym (f.each hold g e).by ∙ by) in
        none hold g e (ap (λ (w : Wanted). w.file) same ∙ on) (ap (λ (w : Wanted). w.chunk) same ∙ is)

-- ---- one more call

truncation : (c : Call) (file size : ℕ) → c ≡ calls.Truncate file size → (is_truncating c ≡ true) × (is_taking c ≡ false) × (hold_in c ≡ None)
unfolding is_truncating is_taking hold_in
truncation c file size e = (ap is_truncating e, ap is_taking e, ap hold_in e)

truncation_on : (h : Holds) (c : Call) (file size : ℕ) (to : Asked) → c ≡ calls.Truncate file size → Asks h c to → to.file ≡ file
unfolding Asks
truncation_on h c file size to e asks = ap (λ (x : Asked). x.file) (subst (λ (d : Call). Asks h d to) e asks)

no_hold_call : (file size f chunk : ℕ) (mode : Mode) → calls.Truncate file size ≡ calls.Hold f chunk mode → ⊥
no_hold_call file size f chunk mode e = cc

no_release_call : (file size hold : ℕ) → calls.Truncate file size ≡ calls.Release hold → ⊥
no_release_call file size hold e = cc

same_file : (file size f z : ℕ) → calls.Truncate file size ≡ calls.Truncate f z → f ≡ file
same_file file size f z e = cc

all_but_last : (ls : List Numbered) (l : Numbered) → take (length ls) (ls ++ l ∷ []) ≡ ls
all_but_last ls l = take_front ls (l ∷ []) (length ls) (omega arith) ∙ take_all ls

module _ (s t : Stand) (h k : Holds) (cs : List Call) (ls : List Numbered) (c : Call) (alone : LeasesAlone s) (has : HasHolds s h) (f : IsFollowed cs ls h) (made : slice_get cs (length ls) ≡ Some c) where
  -- a truncation is refused for the leases that there are
  barred_by : (held file size : ℕ) (l : Line) → leases_on s.files file ≡ held → c ≡ calls.Truncate file size → Tells s h (length ls) c l t k → IsBarredBy held l
  unfolding Tells IsBarredBy
  barred_by held file size (lines.Done place answer) count is x = sym count ∙ (ap (leases_on s.files) (sym (truncation_on h c file size x.0.to is x.0.asks)) ∙ x.0.unbarred (truncation c file size is).0)
  barred_by held file size (lines.Held end through) count is x = no_hold_call file size x.file x.chunk x.mode (sym is ∙ x.asks)
  barred_by held file size lines.Released count is x = no_release_call file size x.hold (sym is ∙ x.asks)
  barred_by held file size (lines.Busy letters) count is x = true≢false (sym x.takes ∙ (truncation c file size is).1)
  barred_by held file size (lines.Leased number) count is x =
      let e : number ≡ held = x.own alone ∙ (ap (leases_on s.files) (same_file file size x.file x.size (sym is ∙ x.asks)) ∙ count) in
      (subst (λ (m : ℕ). 0 < m) e x.some, e)
  barred_by held file size lines.NoHold count is x = none_is x.hold (sym (truncation c file size is).2 ∙ x.uses)
  barred_by held file size (lines.Past end) count is x = none_is x.hold (sym (truncation c file size is).2 ∙ x.uses)

  barred_more : (l : Line) → AreBarred cs ls → Tells s h (length ls) c l t k → AreBarred cs (ls ++ record { call = length ls; line = l } ∷ [])
  barred_more l barred x n file size m at at' =
      let its : Numbered = record { call = length ls; line = l } in
      let ms = ls ++ its ∷ [] in
      ⊎_elim
      (λ (old : slice_get ls n ≡ Some m).
      let lt = within ls n m old in
      subst (λ (y : ℕ). IsBarredBy y m.line) (had_same cs ls ms file n 0 max_holds (sym (take_front ls (its ∷ []) n (omega (arith, lt))))) (barred n file size m at old))
      (λ (new : (n ≡ length ls) × (its ≡ m)).
      let is : c ≡ calls.Truncate file size = some_is c (calls.Truncate file size) (sym made ∙ (ap (λ (y : ℕ). slice_get cs y) (sym new.0) ∙ at)) in
      subst (λ (y : ℕ × Numbered). IsBarredBy (holds_on cs ms file y.0) y.1.line) (λ i. (sym new.0 i, new.1 i)) (barred_by (holds_on cs ms file (length ls)) file size l (holds_are s h cs ls ms file has f (all_but_last ls its)) is x))
      (at_end ls its m n at')

module _ (s t : Stand) (h k : Holds) (cs : List Call) (ls : List Numbered) (c : Call) (alone : TakesAlone s) (rest : LeavesRest s t) (has : HasHolds s h) (f : IsFollowed cs ls h) (made : slice_get cs (length ls) ≡ Some c) where
  held_up_by : (ms : List Numbered) (l : Line) (letters : List ℕ) → take (length ls) ms ≡ ls → l ≡ lines.Busy letters → Tells s h (length ls) c l t k → IsHeldUp (range_count s.map) (log_at t.map) cs ms (length ls) c letters
  unfolding Tells
  held_up_by ms l letters e is x =
      let stuck : IsStuck s h c letters t k = subst (λ (y : Line). Tells s h (length ls) c y t k) is x in
      let full = stuck.full alone in
      record { pinned = full.pinned; missing = full.missing; two = full.two; each = λ range lt apart. let y = full.each range lt apart in held_range s t h cs ls ms y.0 range y.1 rest has f e y.2 y.3; file = full.file; chunk = full.chunk; needs = full.needs; unheld = λ hold held grant by had. not_had h cs ls full.file full.chunk hold held grant f full.unheld by (subst (λ (ks : List Numbered). Had cs ks (length ls) hold grant) e had) }

  held_up_more : (l : Line) → AreHeldUp (range_count s.map) (log_at s.map) cs ls → Tells s h (length ls) c l t k → AreHeldUp (range_count s.map) (log_at t.map) cs (ls ++ record { call = length ls; line = l } ∷ [])
  held_up_more l held_up x n d m letters at at' busy =
      let its : Numbered = record { call = length ls; line = l } in
      let ms = ls ++ its ∷ [] in
      ⊎_elim
      (λ (old : slice_get ls n ≡ Some m).
      let lt = within ls n m old in
      held_up_on (range_count s.map) (log_at s.map) (log_at t.map) cs ls ms n d letters rest.map.logs (take_front ls (its ∷ []) n (omega (arith, lt))) (held_up n d m letters at old busy))
      (λ (new : (n ≡ length ls) × (its ≡ m)).
      let is : c ≡ d = some_is c d (sym made ∙ (ap (λ (y : ℕ). slice_get cs y) (sym new.0) ∙ at)) in
      subst (λ (y : ℕ × Call). IsHeldUp (range_count s.map) (log_at t.map) cs ms y.0 y.1 letters) (λ i. (sym new.0 i, is i)) (held_up_by ms l letters (all_but_last ls its) (ap (λ (y : Numbered). y.line) new.1 ∙ busy) x))
      (at_end ls its m n at')

-- the lines stay fair by that of the next call
pub step_barred : (s t : Stand) (h k : Holds) (cs : List Call) (ls : List Numbered) (n : ℕ) (c : Call) (l : Line) → LeasesAlone s → HasHolds s h → IsFollowed cs ls h → n ≡ length ls → slice_get cs n ≡ Some c
    → Tells s h n c l t k → AreBarred cs ls → AreBarred cs (ls ++ record { call = n; line = l } ∷ [])
step_barred s t h k cs ls n c l alone has f number =
    subst (λ (m : ℕ). slice_get cs m ≡ Some c → Tells s h m c l t k → AreBarred cs ls → AreBarred cs (ls ++ record { call = m; line = l } ∷ [])) (sym number)
    (λ made x barred. barred_more s t h k cs ls c alone has f made l barred x)

pub step_held_up : (ranges : ℕ) (s t : Stand) (h k : Holds) (cs : List Call) (ls : List Numbered) (n : ℕ) (c : Call) (l : Line) → TakesAlone s → range_count s.map ≡ ranges → LeavesRest s t → HasHolds s h → IsFollowed cs ls h → n ≡ length ls → slice_get cs n ≡ Some c
    → Tells s h n c l t k → AreHeldUp ranges (log_at s.map) cs ls → AreHeldUp ranges (log_at t.map) cs (ls ++ record { call = n; line = l } ∷ [])
step_held_up ranges s t h k cs ls n c l alone count rest has f number =
    subst (λ (z : ℕ × ℕ). slice_get cs z.0 ≡ Some c → Tells s h z.0 c l t k → AreHeldUp z.1 (log_at s.map) cs ls → AreHeldUp z.1 (log_at t.map) cs (ls ++ record { call = z.0; line = l } ∷ [])) (λ i. (sym number i, count i))
    (λ made x held_up. held_up_more s t h k cs ls c alone rest has f made l held_up x)

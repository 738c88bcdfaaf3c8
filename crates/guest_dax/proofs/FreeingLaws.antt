-- A search for a mapped range to free.
use Rattle.std.proofs.Common.{◌≡◌, ◌∙◌, ap, sym, refl, subst, ℕ, ◌+◌, ◌<◌, ◌≤◌, Bool, true, false, List, length, get_or, Option, None, Result, Ok, Err, inl, inr, arith}
use Rattle.std.proofs.lemmas.Bool.{cases_eq, cases_lt}
use Rattle.page_map.specs.declared.ranges.RangeWord.{RangeWord}
use Rattle.page_map.specs.declared.ranges.RangeWord.TheVariants as words
use Rattle.page_map.specs.Board.{MapView, Hands, Noted}
use Rattle.range_tree.specs.Ranges.{range_count, pins_on, look_at, is_noted_blocked, Looks, Becomes, with_moves}
use Rattle.guest_dax.specs.declared.attempts.Attempt.TheVariants as attempts
use Rattle.guest_dax.specs.declared.refusals.DaxRefusal.{DaxRefusal}
use Rattle.guest_dax.specs.Stands.{Stand, KeepsMap}
use Rattle.guest_dax.specs.Looks.{Blocks, IsBlocked}
use Rattle.guest_dax.specs.Reclaims.{Searches, Attempted, OthersLooks, Walks, Unmaps}
use Rattle.guest_dax.specs.Freeing.{Passes, IsPassed, Tried, IsFreed, FreesAt, FreesIn, FreesOne}
use Rattle.guest_dax.proofs.Keeping.{KeepsMap-same}
use Rattle.guest_dax.proofs.Searching.{Searches-look, look_at-looked, hands-look, blocks-same}
use Rattle.guest_dax.proofs.Removing.{EndsRemoved-after, EndsRemoved-kept}
use Rattle.guest_dax.proofs.Rounds.{OthersLooks-step, Caused-after, others-next, pins-same}

passes-blocked : (v : MapView) (own : ℕ) (word : RangeWord) → Blocks v own word → Passes v own word
passes-blocked v own words.Free b = tt
passes-blocked v own (words.Moving guest) b = b
passes-blocked v own (words.Mapped file chunk mode pins) b = b

IsPassed-blocked : (v now : MapView) (range : ℕ) → IsBlocked v now range → IsPassed v now range
IsPassed-blocked v now range b = record { noted = b.noted; at = b.at; own = b.own; passes = passes-blocked v b.noted.own b.noted.word b.blocks }

passes-same : (u v : MapView) (own : ℕ) (word : RangeWord) → KeepsMap u v → Passes v own word → Passes u own word
passes-same u v own words.Free k b = tt
passes-same u v own (words.Moving guest) k b = blocks-same u v own (words.Moving guest) k b
passes-same u v own (words.Mapped file chunk mode pins) k b = blocks-same u v own (words.Mapped file chunk mode pins) k b

pub IsPassed-same : (u v w x : MapView) (range : ℕ) → KeepsMap u v → pins_on v range ≡ pins_on u range → look_at x range ≡ look_at w range → IsPassed v w range → IsPassed u x range
IsPassed-same u v w x range k e l b = record { noted = b.noted; at = l ∙ b.at; own = b.own ∙ e; passes = passes-same u v b.noted.own b.noted.word k b.passes }

pub Tried-free : (v : MapView) (range : ℕ) (w : MapView) → range < length v.ranges.looks → Looks v range words.Free w → Tried v range None w
Tried-free v range w within l = (
  Searches-look v range words.Free w l,
  hands-look v range words.Free w l,
  record {
    noted = record { word = words.Free; own = pins_on v range };
    at = ap (λ (m : MapView). look_at m range) l.noted ∙ look_at-looked v range words.Free within;
    own = refl;
    passes = tt;
  },
)

-- ---- at one range

-- what was done before at this range
pub record Before (s t : Stand) (range : ℕ) : Type 0 where
  pub walks : Walks s t
  pub hands : t.map.hands ≡ s.map.hands
  pub others : OthersLooks s.map range (range + 1) t.map

passed-before : (s t : Stand) (range : ℕ) (w : MapView) → Before s t range → IsPassed t.map w range → IsPassed s.map w range
passed-before s t range w b p = IsPassed-same s.map t.map w w range b.walks.keeps.map (pins-same s.map.hands t.map.hands range (sym b.hands)) refl p

pub at-free : (s t u : Stand) (range : ℕ) → Before s t range → Tried t.map range None u.map → FreesAt s range (Ok false) u
at-free s t u range b (searches, hands, passed) = (hands ∙ b.hands, OthersLooks-step s.map t.map range u.map b.others searches, passed-before s t range u.map b passed)

pub at-blocked : (s t u : Stand) (range : ℕ) → Before s t range → Attempted t.map range attempts.Blocked u.map → FreesAt s range (Ok false) u
at-blocked s t u range b (searches, (hands, blocked)) = (hands ∙ b.hands, OthersLooks-step s.map t.map range u.map b.others searches, passed-before s t range u.map b (IsPassed-blocked t.map u.map range blocked))

moves-none : (h : Hands) → h.moves ≡ None → record h { moves = None } ≡ h
moves-none h e = ap (λ (m : Option ℕ). record h { moves = m }) (sym e)

both-none : (h : Hands) → h.tree ≡ None → h.moves ≡ None → record h { tree = None; moves = None } ≡ h
both-none h e f = ap (λ (t : Option ℕ). record h { tree = t; moves = None }) (sym e) ∙ moves-none h f

looks-moved : (v w : MapView) → Becomes v (with_moves v None) w → w.ranges.looks ≡ v.ranges.looks
looks-moved v w h = ap (λ (m : MapView). m.ranges.looks) h.rest

-- it was taken free, and settled free
pub took-hands : (s t : Stand) (range : ℕ) (v w : MapView) → Before s t range → s.map.hands.moves ≡ None → Attempted t.map range attempts.Took v → Becomes v (with_moves v None) w → w.hands ≡ s.map.hands
took-hands s t range v w b free (searches, (hands, unpinned, seen)) h =
    ap (λ (m : MapView). m.hands) h.rest ∙ ap (λ (k : Hands). record k { moves = None }) hands ∙ ap (λ (k : Hands). record k { moves = None }) b.hands ∙ moves-none s.map.hands free

pub took-others : (s t : Stand) (range : ℕ) (v w : MapView) → Before s t range → Searches t.map range v → Becomes v (with_moves v None) w → OthersLooks s.map range (range + 1) w
took-others s t range v w b searches h = λ r out. ap (λ (l : List (Option Noted)). get_or l r None) (looks-moved v w h) ∙ OthersLooks-step s.map t.map range v b.others searches r out

pub again-hands : (s t : Stand) (range : ℕ) (v : MapView) → Before s t range → Attempted t.map range attempts.Again v → v.hands ≡ s.map.hands
again-hands s t range v b (searches, (hands, noted)) = hands ∙ b.hands

pub again-others : (s t : Stand) (range : ℕ) (v : MapView) → Before s t range → Searches t.map range v → OthersLooks s.map range (range + 1) v
again-others s t range v b searches = OthersLooks-step s.map t.map range v b.others searches

-- it was taken from a tree, and unmapped
pub at-removed : (s t u x y : Stand) (range file : ℕ) → Before s t range → s.map.hands.tree ≡ None → s.map.hands.moves ≡ None → Attempted t.map range (attempts.Removed file) u.map → Unmaps u (Ok tt) x → x.map.ranges.logs ≡ u.map.ranges.logs → Becomes x.map (with_moves x.map None) y.map → FreesAt s range (Ok true) y
at-removed s t u x y range file b none free (searches, (hands, known, unpinned, seen, removed)) (left, looks) logs h = (
  ap (λ (m : MapView). m.hands) h.rest ∙ ap (λ (k : Hands). record k { moves = None }) left ∙ ap (λ (k : Hands). record k { tree = None; moves = None }) hands ∙ ap (λ (k : Hands). record k { tree = None; moves = None }) b.hands ∙ both-none s.map.hands none free,
  ap (λ (l : List (Option Noted)). is_noted_blocked (get_or l range None)) (looks-moved x.map y.map h ∙ looks) ∙ seen,
  record {
    file = file;
    known = subst (λ (n : ℕ). file < n) b.walks.keeps.map.files known;
    range = range;
    removed = EndsRemoved-kept s.map u.map y.map file range (ap (λ (m : MapView). m.ranges.logs) h.rest ∙ logs) (EndsRemoved-after s.map t.map u.map file range (b.walks.keeps.map.logs file) removed);
  },
)

pub at-refused : (s t u x : Stand) (range file : ℕ) (e : DaxRefusal) → Before s t range → s.map.hands.tree ≡ None → s.map.hands.moves ≡ None → Walks s u → Attempted t.map range (attempts.Removed file) u.map → Unmaps u (Err e) x → FreesAt s range (Err e) x
at-refused s t u x range file e b none free walks (searches, (hands, known, unpinned, seen, removed)) (left, looks, caused) = (
  left ∙ ap (λ (k : Hands). record k { tree = None; moves = None }) hands ∙ ap (λ (k : Hands). record k { tree = None; moves = None }) b.hands ∙ both-none s.map.hands none free,
  ap (λ (l : List (Option Noted)). is_noted_blocked (get_or l range None)) looks ∙ seen,
  Caused-after s u x e walks caused,
)

-- ---- over an interval

passed-next : (u v : MapView) (from range : ℕ) (w : MapView) → KeepsMap u v → v.hands ≡ u.hands → OthersLooks v range (range + 1) w → ((r : ℕ) → from ≤ r → r < range → IsPassed u v r) → IsPassed v w range → (r : ℕ) → from ≤ r → r < range + 1 → IsPassed u w r
passed-next u v from range w k e others before here r low high = elim (cases_eq r range) [
  | inl same ↦ rw same (IsPassed-same u v w w range k (pins-same u.hands v.hands range (sym e)) refl here)
  | inr else ↦ IsPassed-same u u v w r (KeepsMap-same u) refl (others r (inl (omega arith))) (before r low (omega arith))
]

pub free-on : (s t u : Stand) (from range : ℕ) → from ≤ range → KeepsMap s.map t.map → t.map.hands ≡ s.map.hands → OthersLooks s.map from range t.map → ((r : ℕ) → from ≤ r → r < range → IsPassed s.map t.map r) → FreesAt t range (Ok false) u →
    (u.map.hands ≡ s.map.hands) × OthersLooks s.map from (range + 1) u.map × ((r : ℕ) → from ≤ r → r < range + 1 → IsPassed s.map u.map r)
free-on s t u from range low k e others before (h, o, b) =
    (h ∙ e, others-next s.map t.map from range u.map low others o, passed-next s.map t.map from range u.map k e o before b)

pub freed-after : (u v w : MapView) → KeepsMap u v → IsFreed v w → IsFreed u w
freed-after u v w k f = record { file = f.file; known = subst (λ (n : ℕ). f.file < n) k.files f.known; range = f.range; removed = EndsRemoved-after u v w f.file f.range (k.logs f.file) f.removed }

pub IsFreed-kept : (u v w : MapView) → w.ranges.logs ≡ v.ranges.logs → IsFreed u v → IsFreed u w
IsFreed-kept u v w logs f = record { file = f.file; known = f.known; range = f.range; removed = EndsRemoved-kept u v w f.file f.range logs f.removed }

-- a range of the interval was freed, or the request for it refused
pub free-done : (s t u : Stand) (from range to : ℕ) → range < range_count s.map → Walks s t → t.map.hands ≡ s.map.hands → Walks t u → FreesAt t range (Ok true) u → FreesIn s from to (Ok true) u
free-done s t u from range to within w e k (h, seen, freed) = (h ∙ e, (range, subst (λ (n : ℕ). range < n) (sym (k.keeps.map.count ∙ w.keeps.map.count)) within, seen), freed-after s.map t.map u.map w.keeps.map freed)

pub free-refused : (s t u : Stand) (from range to : ℕ) (e : DaxRefusal) → range < range_count s.map → Walks s t → t.map.hands ≡ s.map.hands → Walks t u → FreesAt t range (Err e) u → FreesIn s from to (Err e) u
free-refused s t u from range to e within w same k (h, seen, caused) = (h ∙ same, (range, subst (λ (n : ℕ). range < n) (sym (k.keeps.map.count ∙ w.keeps.map.count)) within, seen), Caused-after s t u e w caused)

-- both parts of a round
pub free-part : (s t u : Stand) (start : ℕ) (result : Result Bool DaxRefusal) → Walks s t → FreesIn s start (range_count s.map) (Ok false) t → FreesIn t 0 start result u → FreesOne s result u
free-part s t u start (Ok true) w (h, o, b) (h', some, freed) = (h' ∙ h, some, freed-after s.map t.map u.map w.keeps.map freed)
free-part s t u start (Ok false) w (h, o, b) (h', o', b') = (
  h' ∙ h,
  λ r within. elim (cases_lt r start) [
    | inl below ↦ IsPassed-same s.map t.map u.map u.map r w.keeps.map (pins-same s.map.hands t.map.hands r (sym h)) refl (b' r (omega arith) below)
    | inr above ↦ IsPassed-same s.map s.map t.map u.map r (KeepsMap-same s.map) refl (o' r (inr above)) (b r above within)
  ],
)
free-part s t u start (Err e) w (h, o, b) (h', some, caused) = (h' ∙ h, some, Caused-after s t u e w caused)

-- Going over the ranges.
use Rattle.std.proofs.Common.{◌≡◌, ◌≢◌, ◌∙◌, ap, sym, refl, subst, ℕ, ◌+◌, ◌<◌, ◌≤◌, Bool, true, false, get_or, Option, Some, inl, inr, arith}
use Rattle.std.specs.Prelude.{IsSome, ◌⊎◌, Result, Ok, Err}
use Rattle.std.proofs.lemmas.Bool.{cases_eq, cases_lt}
use Rattle.page_map.specs.Board.{MapView, Hands, Noted}
use Rattle.range_tree.specs.Ranges.{range_count, look_at}
use Rattle.guest_dax.specs.declared.attempts.Attempt.{Attempt}
use Rattle.guest_dax.specs.declared.attempts.Attempt.TheVariants as attempts
use Rattle.guest_dax.specs.Stands.{Stand, KeepsMap, Keeps}
use Rattle.guest_dax.specs.Looks.{IsBlocked, AllBlocked, looks_from}
use Rattle.guest_dax.specs.Reclaims.{Searches, Attempted, RoundKeeps, TookOne, FirstRound, is_removed, OthersLooks, Walks, ComesAt, Goes, Caused}
use Rattle.guest_dax.specs.declared.refusals.DaxRefusal.{DaxRefusal}
use Rattle.guest_dax.specs.declared.refusals.DaxRefusal.TheVariants as refusals
use Rattle.guest_dax.specs.Reclaims.{SecondRound, IsBusy, Acquires}
use Rattle.guest_dax.proofs.Keeping.{KeepsMap-same, KeepsMap-both}
use Rattle.guest_dax.proofs.Searching.{IsBlocked-same}

pub RoundKeeps-same : (v : MapView) → RoundKeeps v v
RoundKeeps-same v = record { keeps = KeepsMap-same v; looks = refl; sweeps = refl; rounds = refl }

RoundKeeps-step : (u v : MapView) (range : ℕ) (w : MapView) → RoundKeeps u v → Searches v range w → RoundKeeps u w
RoundKeeps-step u v range w a b = record { keeps = KeepsMap-both u v w a.keeps b.keeps; looks = b.looks ∙ a.looks; sweeps = b.sweeps ∙ a.sweeps; rounds = b.rounds ∙ a.rounds }

pub pins-same : (h k : Hands) (range : ℕ) → h ≡ k → get_or k.pins range 0 ≡ get_or h.pins range 0
pins-same h k range e = ap (λ (x : Hands). get_or x.pins range 0) (sym e)

pub first-took : (u v : MapView) (range : ℕ) (w : MapView) → RoundKeeps u v → v.hands ≡ u.hands → range < range_count u → Attempted v range attempts.Took w → FirstRound u true w
first-took u v range w k e within (s, (h, free, seen)) =
    let keeps = RoundKeeps-step u v range w k s in
    (keeps, (range, within, h ∙ ap (λ (x : Hands). record x { moves = Some range }) e, pins-same v.hands u.hands range e ∙ free, (range, subst (λ n. range < n) (sym keeps.keeps.count) within, seen)))

some-look : (v w : MapView) (range : ℕ) → ((r : ℕ) → r < range → IsSome (look_at v r)) → ((r : ℕ) → r ≢ range → look_at w r ≡ look_at v r) → IsSome (look_at w range) → (r : ℕ) → r < range + 1 → IsSome (look_at w r)
some-look v w range before other here r within = elim (cases_eq r range) [
  | inl same ↦ rw same here
  | inr else ↦ rw (other r else) (before r (omega arith))
]

is-some : (o : Option Noted) (x : Noted) → o ≡ Some x → IsSome o
is-some o x e = subst (λ o. IsSome o) (sym e) refl

-- a round goes on
pub first-on : (u v : MapView) (range : ℕ) (attempt : Attempt) (w : MapView) → RoundKeeps u v → v.hands ≡ u.hands → ((r : ℕ) → r < range → IsSome (look_at v r)) →
    attempt ≢ attempts.Took → is_removed attempt ≡ false → Attempted v range attempt w → RoundKeeps u w × (w.hands ≡ u.hands) × ((r : ℕ) → r < range + 1 → IsSome (look_at w r))
unfolding is_removed
first-on u v range attempts.Took w k e before not left a = absurd (not refl)
first-on u v range (attempts.Removed file) w k e before not left a = cc
first-on u v range attempts.Blocked w k e before not left (s, (h, b)) = (RoundKeeps-step u v range w k s, h ∙ e, some-look v w range before s.other (is-some (look_at w range) b.noted b.at))
first-on u v range attempts.Again w k e before not left (s, (h, b)) = (RoundKeeps-step u v range w k s, h ∙ e, some-look v w range before s.other b)

not-at : (r range : ℕ) → (r < range) ⊎ (range + 1 ≤ r) → r ≢ range
not-at r range h e = elim h [ inl a ↦ absurd (omega arith) | inr b ↦ absurd (omega arith) ]

pub OthersLooks-step : (u v : MapView) (range : ℕ) (w : MapView) → OthersLooks u range (range + 1) v → Searches v range w → OthersLooks u range (range + 1) w
OthersLooks-step u v range w h s = λ r out. s.other r (not-at r range out) ∙ h r out

-- ---- going over an interval

pub IsBlocked-on : (u v : MapView) (range : ℕ) (w : MapView) (r : ℕ) → r ≢ range → Searches v range w → IsBlocked u v r → IsBlocked u w r
IsBlocked-on u v range w r else s b = IsBlocked-same u u v w r (KeepsMap-same u) refl (s.other r else) b

-- one range more is blocked, whose search left the looks of the others
blocked-next : (u v : MapView) (from range : ℕ) (w : MapView) → KeepsMap u v → v.hands ≡ u.hands → OthersLooks v range (range + 1) w → ((r : ℕ) → from ≤ r → r < range → IsBlocked u v r) → IsBlocked v w range → (r : ℕ) → from ≤ r → r < range + 1 → IsBlocked u w r
blocked-next u v from range w k e others before here r low high = elim (cases_eq r range) [
  | inl same ↦ rw same (IsBlocked-same u v w w range k (pins-same u.hands v.hands range (sym e)) refl here)
  | inr else ↦ IsBlocked-same u u v w r (KeepsMap-same u) refl (others r (inl (omega arith))) (before r low (omega arith))
]

pub others-next : (u v : MapView) (from range : ℕ) (w : MapView) → from ≤ range → OthersLooks u from range v → OthersLooks v range (range + 1) w → OthersLooks u from (range + 1) w
others-next u v from range w low h k r out = elim out [
  | inl below ↦ k r (inl (omega arith)) ∙ h r (inl below)
  | inr above ↦ k r (inr above) ∙ h r (inr (omega arith))
]

pub walk-on : (s t u : Stand) (from range : ℕ) → from ≤ range → KeepsMap s.map t.map → t.map.hands ≡ s.map.hands → OthersLooks s.map from range t.map → ((r : ℕ) → from ≤ r → r < range → IsBlocked s.map t.map r) → ComesAt t range (Ok false) u →
    (u.map.hands ≡ s.map.hands) × OthersLooks s.map from (range + 1) u.map × ((r : ℕ) → from ≤ r → r < range + 1 → IsBlocked s.map u.map r)
walk-on s t u from range low k e others before (h, o, b) =
    (h ∙ e, others-next s.map t.map from range u.map low others o, blocked-next s.map t.map from range u.map k e o before b)

-- both parts of the second round
pub both-parts : (s t u : Stand) (start : ℕ) → KeepsMap s.map t.map → Goes s start (range_count s.map) (Ok false) t → Goes t 0 start (Ok false) u → (u.map.hands ≡ s.map.hands) × ((r : ℕ) → r < range_count s.map → IsBlocked s.map u.map r)
both-parts s t u start k (h, o, b) (h', o', b') = (
  h' ∙ h,
  λ r within. elim (cases_lt r start) [
    | inl below ↦ IsBlocked-same s.map t.map u.map u.map r k (pins-same s.map.hands t.map.hands r (sym h)) refl (b' r (omega arith) below)
    | inr above ↦ IsBlocked-same s.map s.map t.map u.map r (KeepsMap-same s.map) refl (o' r (inr above)) (b r above within)
  ],
)

pub TookOne-after : (u v w : MapView) → KeepsMap u v → v.hands ≡ u.hands → TookOne v w → TookOne u w
TookOne-after u v w k e (range, within, h, free, some) = (range, subst (λ n. range < n) k.count within, h ∙ ap (λ (x : Hands). record x { moves = Some range }) e, pins-same v.hands u.hands range e ∙ free, some)

-- a refusal later has its cause from the beginning on
pub Caused-after : (s t u : Stand) (e : DaxRefusal) → Walks s t → Caused t e u → Caused s e u
Caused-after s t u (refusals.Busy looked) w c = c
Caused-after s t u (refusals.Errno number) w c = sym w.keeps.wire.honest ∙ c
Caused-after s t u (refusals.BadReply bytes) w c = sym w.keeps.wire.honest ∙ c
Caused-after s t u refusals.WireFault w (c, rose) = let later = w.keeps.wire.later in (sym w.keeps.wire.honest ∙ c, omega arith)
Caused-after s t u refusals.Memory w c = c

pub second-part : (s t u : Stand) (start : ℕ) (result : Result Bool DaxRefusal) → Walks s t → Goes s start (range_count s.map) (Ok false) t → Goes t 0 start result u → SecondRound s result u
second-part s t u start (Ok true) w (h, o, b) k = TookOne-after s.map t.map u.map w.keeps.map h k
second-part s t u start (Ok false) w a k = both-parts s t u start w.keeps.map a k
second-part s t u start (Err e) w (h, o, b) (h', some, caused) = (h' ∙ h, some, Caused-after s t u e w caused)

pub FirstRound-keeps : (u : MapView) (took : Bool) (v : MapView) → FirstRound u took v → KeepsMap u v
FirstRound-keeps u true v h = h.0.keeps
FirstRound-keeps u false v h = h.0.keeps

-- both rounds took nothing
pub busy-acquires : (s : Stand) (v : MapView) (u : Stand) (e : DaxRefusal) (w : MapView) → FirstRound s.map false v → Walks (record s { map = v }) u → SecondRound (record s { map = v }) (Ok false) u → IsBusy u.map e w → Acquires s (Err e) (record u { map = w })
busy-acquires s v u (refusals.Busy looked) w (k, h, some) walks (h', blocked) (same, looks) = (
  ap (λ (m : MapView). m.hands) same ∙ h' ∙ h,
  subst (λ (m : MapView). AllBlocked s.map m) (sym same) (λ r within. IsBlocked-same s.map v u.map u.map r k.keeps (pins-same s.map.hands v.hands r (sym h)) refl (blocked r (subst (λ n. r < n) (sym k.keeps.count) within))),
  looks ∙ ap (λ (m : MapView). looks_from 0 m.ranges.looks) (sym same),
  ap (λ (m : MapView). m.ranges.rounds) same ∙ walks.rounds ∙ k.rounds,
)
busy-acquires s v u refusals.Memory w (k, h, some) walks (h', blocked) (hands, looks) = (hands ∙ h' ∙ h, looks)
busy-acquires s v u (refusals.Errno n) w a walks b c = absurd c
busy-acquires s v u (refusals.BadReply bytes) w a walks b c = absurd c
busy-acquires s v u refusals.WireFault w a walks b c = absurd c

pub Caused-keeps : (s t u : Stand) (e : DaxRefusal) → Keeps s t → Caused t e u → Caused s e u
Caused-keeps s t u (refusals.Busy looked) k c = c
Caused-keeps s t u (refusals.Errno number) k c = sym k.wire.honest ∙ c
Caused-keeps s t u (refusals.BadReply bytes) k c = sym k.wire.honest ∙ c
Caused-keeps s t u refusals.WireFault k (c, rose) = let later = k.wire.later in (sym k.wire.honest ∙ c, omega arith)
Caused-keeps s t u refusals.Memory k c = c

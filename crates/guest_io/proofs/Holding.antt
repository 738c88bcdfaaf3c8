-- The pins of a call: what they make known, and what is left when they are given back.
use Rattle.std.proofs.Common.{◌≡◌, ◌∙◌, ap, sym, refl, subst, ℕ, zero, suc, ◌<◌, List, [], ◌∷◌, length, get_or, replicate, Option, None, Some, arith}
use Rattle.std.specs.Prelude.{IfSome}
use Rattle.page_map.specs.declared.pages.Mode.{Mode}
use Rattle.page_map.specs.declared.ranges.LogEntry.{LogEntry}
use Rattle.page_map.specs.declared.ranges.Target.{Target}
use Rattle.page_map.specs.Board.{MapView, Hands, RangesView, log_at}
use Rattle.range_tree.specs.Ranges.{range_count, pinned_in, no_target, targeted, IsAtLeast}
use Rattle.guest_wire.specs.Keeps.{Begins}
use Rattle.guest_dax.specs.Stands.{KeepsMap}
use Rattle.guest_dax.specs.Looks.{NoLooks}
use Rattle.guest_dax.specs.Pinning.{IsPin, with_one}
use Rattle.guest_dax.specs.declared.pins.Pinned.{Pinned}
use Rattle.guest_io.specs.Chunks.{more_on, less_on, with_all, without_all, CanGiveBack, IsHeldFor, AreHeld, IsButTargets, IsGiven, IsGivenBack}

-- ---- numbers of pins

pub back : (xs : List ℕ) (i : ℕ) → less_on (more_on xs i) i ≡ xs
back [] i = refl
back (x ∷ xs) zero = ap (λ n. n ∷ xs) (omega arith)
back (x ∷ xs) (suc i) = ap (λ l. x ∷ l) (back xs i)

pub given-all : (h : Hands) (first : Pinned) (second : Option Pinned) → h.moves ≡ None → without_all (with_all h first second) first second ≡ h
given-all h first None none = ap (λ (l : List ℕ). record h { moves = None; pins = l }) (back h.pins first.range) ∙ ap (λ (m : Option ℕ). record h { moves = m }) (sym none)
given-all h first (Some q) none =
    ap (λ (l : List ℕ). record h { moves = None; pins = less_on l first.range }) (back (more_on h.pins first.range) q.range)
    ∙ ap (λ (l : List ℕ). record h { moves = None; pins = l }) (back h.pins first.range)
    ∙ ap (λ (m : Option ℕ). record h { moves = m }) (sym none)

-- ---- pinned ranges

pub held-pin : (v : MapView) (file chunk : ℕ) (mode : Mode) (p : Pinned) → IsPin v file chunk mode p → IsHeldFor v file p
held-pin v file chunk mode p pin = record { range = pin.range; had = pin.had; pinned = pin.pinned.same_file }

held-after : (t u : MapView) (file : ℕ) (p : Pinned) → KeepsMap t u → IsHeldFor t file p → IsHeldFor u file p
held-after t u file p k h = record {
  range = subst (λ n. p.range < n) (sym k.count) h.range;
  had = let a = k.pins p.range in let b = h.had in omega arith;
  pinned = (k.pinned p.range h.had).same_file ∙ h.pinned;
}

pub held-two : (t u : MapView) (file chunk : ℕ) (mode : Mode) (p q : Pinned) → KeepsMap t u → IsHeldFor t file p → u.hands ≡ with_one t q.range None → IsPin u file chunk mode q → AreHeld u file p (Some q)
held-two t u file chunk mode p q k h e pin = (
  held-after t u file p k h,
  held-pin u file chunk mode q pin,
  (pin.had, subst (λ (l : List ℕ). 0 < get_or l p.range 0) (sym (ap (λ (x : Hands). less_on x.pins q.range) e ∙ back t.hands.pins q.range)) h.had),
)

pub can-give : (v : MapView) (file : ℕ) (first : Pinned) (second : Option Pinned) → AreHeld v file first second → CanGiveBack v.hands.pins first second
can-give v file first None h = h.had
can-give v file first (Some q) (a, b, can) = can

pub first-held : (v : MapView) (file : ℕ) (first : Pinned) (second : Option Pinned) → AreHeld v file first second → IsHeldFor v file first
first-held v file first None h = h
first-held v file first (Some q) (a, b, can) = a

pub second-held : (v : MapView) (file : ℕ) (first : Pinned) (second : Option Pinned) → AreHeld v file first second → IfSome second (λ p. p.range < range_count v)
second-held v file first None h = tt
second-held v file first (Some q) (a, b, can) = b.range

-- ---- given back

pub but-targeted : (v : MapView) (range : ℕ) (t : Option Target) (w : MapView) → w ≡ targeted v range t → IsButTargets v w
but-targeted v range t w e = subst (λ (m : MapView). IsButTargets v m) (sym e) refl

pub given-by : (a b c d : MapView) (first : Pinned) (second : Option Pinned) (t : Option Target) → b ≡ targeted a first.range t → IsButTargets b c → IsGiven c first second d → IsGivenBack a first second d
given-by a b c d first second t e bc cd =
    let ab = but-targeted a first.range t b e in
    let ac : IsButTargets a c = bc ∙ ap (λ (m : MapView). record m { ranges = record m.ranges { targets = c.ranges.targets; targeted = c.ranges.targeted } }) ab in
    cd ∙ ap (λ (m : MapView). record m { hands = without_all m.hands first second }) ac
    ∙ ap (λ (r : RangesView). record a { hands = without_all a.hands first second; ranges = record a.ranges { targets = r.targets; targeted = r.targeted } }) (sym (ap (λ (m : MapView). m.ranges) cd))

-- the board, but for what is in hand and the targets
abbrev pub IsButHands : MapView → MapView → Type 0
IsButHands old new = new ≡ record old { hands = new.hands; ranges = record old.ranges { targets = new.ranges.targets; targeted = new.ranges.targeted } }

pub but-given : (v : MapView) (first : Pinned) (second : Option Pinned) (w : MapView) → IsGivenBack v first second w → IsButHands v w
but-given v first second w e = e ∙ ap (λ (h : Hands). record v { hands = h; ranges = record v.ranges { targets = w.ranges.targets; targeted = w.ranges.targeted } }) (sym (ap (λ (m : MapView). m.hands) e))

pub KeepsMap-but : (s t u : MapView) → KeepsMap s t → IsButHands t u → u.hands ≡ s.hands → KeepsMap s u
KeepsMap-but s t u k e hands = record {
  plain = ap (λ (m : MapView). m.plain) e ∙ k.plain;
  over = ap (λ (m : MapView). m.over) e ∙ k.over;
  guest = ap (λ (m : MapView). m.ranges.guest) e ∙ k.guest;
  may_take = ap (λ (m : MapView). m.ranges.may_take) e ∙ k.may_take;
  others = ap (λ (m : MapView). m.ranges.others) e ∙ k.others;
  pages = ap (λ (m : MapView). length m.table) e ∙ k.pages;
  count = ap (λ (h : Hands). length h.pins) hands;
  files = ap (λ (m : MapView). length m.ranges.logs) e ∙ k.files;
  logs = λ file. subst (λ (ls : List (List LogEntry)). Begins (log_at s file) (get_or ls file [])) (sym (ap (λ (m : MapView). m.ranges.logs) e)) (k.logs file);
  pins = λ range. let a : get_or u.hands.pins range 0 ≡ get_or s.hands.pins range 0 = ap (λ (h : Hands). get_or h.pins range 0) hands in omega (arith, a);
  pinned = λ range had. subst (λ (ts : List Target). IsAtLeast (pinned_in s range) (get_or ts range no_target)) (sym (ap (λ (m : MapView). m.ranges.pinned) e)) (k.pinned range had);
}

-- no look is noted, of as many ranges as before
pub NoLooks-but : (s t u : MapView) → range_count t ≡ range_count s → NoLooks t → u.ranges.looks ≡ t.ranges.looks → u.hands ≡ s.hands → NoLooks u
NoLooks-but s t u count none looks hands = looks ∙ none ∙ ap (λ n. replicate n None) (count ∙ ap (λ (h : Hands). length h.pins) (sym hands))

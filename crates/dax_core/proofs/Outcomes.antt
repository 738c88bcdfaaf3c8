-- In a good core an event of a guest has one outcome.
use Rattle.std.proofs.Common.{◌≡◌, ℕ, List, Some, sym, ap, ◌∙◌, subst, inl, inr}
use Rattle.page_map.specs.declared.ranges.Placed.{Placed}
use Rattle.files_core.specs.Files as files
use Rattle.files_core.specs.Files.{FileState, FileDeed, file}
use Rattle.files_core.specs.Good.{GoodFiles}
use Rattle.window_core.specs.Window as window
use Rattle.window_core.specs.Window.{Window, state, target, target_of, placed, IsTake, IsPin, IsUpgrade}
use Rattle.window_core.specs.Good.{GoodWindow}
use Rattle.window_core.proofs.Placing.{some_same}
use Rattle.window_core.proofs.Keeps.{free_mapped, same_mapped}
use Rattle.dax_core.specs.declared.events.Event.{Event}
use Rattle.dax_core.specs.declared.events.Event.TheVariants as events
use Rattle.dax_core.specs.Core.{on_window, on_files, after}
use Rattle.dax_core.specs.Events.{IsWindowDeed, IsFileDeed}
use Rattle.dax_core.specs.Laws.{OneOutcome}

module _ (guests : ℕ) (h : Window) (g : ℕ) (good : GoodWindow guests h) where
  -- two places of one range are one
  one_place : (f c f' c' : ℕ) (p p' : Placed) → placed h f c ≡ Some p → placed h f' c' ≡ Some p' → p.range ≡ p'.range → (f ≡ f') × (c ≡ c') × (p ≡ p')
  one_place f c f' c' p p' here there same = let z = same_mapped f c f' c' p.mode p'.mode (sym (good.placed_mapped f c p here) ∙ (ap (λ (n : ℕ). state h n) same ∙ good.placed_mapped f' c' p' there)) in
      (z.0, z.1, some_same p p' (sym here ∙ ((λ i. placed h (z.0 i) (z.1 i)) ∙ there)))

  take_once : (r : ℕ) (d d' : window.Deed) → IsTake r d → IsTake r d' → window.Allowed h g d → window.Allowed h g d' → d ≡ d'
  take_once r d d' (inl is) (inl is') a a' = is ∙ sym is'
  take_once r d d' (inl is) (inr x) a a' = let p = subst (λ (y : window.Deed). window.Allowed h g y) is a in let q = subst (λ (y : window.Deed). window.Allowed h g y) x.3 a' in absurd (free_mapped x.0 x.1 x.2 (sym p.1 ∙ q.0))
  take_once r d d' (inr x) (inl is) a a' = let p = subst (λ (y : window.Deed). window.Allowed h g y) is a' in let q = subst (λ (y : window.Deed). window.Allowed h g y) x.3 a in absurd (free_mapped x.0 x.1 x.2 (sym p.1 ∙ q.0))
  take_once r d d' (inr x) (inr y) a a' = let p = subst (λ (z : window.Deed). window.Allowed h g z) x.3 a in let q = subst (λ (z : window.Deed). window.Allowed h g z) y.3 a' in
      let z = same_mapped x.0 x.1 y.0 y.1 x.2 y.2 (sym p.0 ∙ q.0) in x.3 ∙ ((λ i. window.take_mapped r (z.0 i) (z.1 i) (z.2 i)) ∙ sym y.3)

  pub window_once : (e : Event) (d d' : window.Deed) → IsWindowDeed e d → IsWindowDeed e d' → window.Allowed h g d → window.Allowed h g d' → d ≡ d'
  window_once (events.Enter f) d d' is is' a a' = is ∙ sym is'
  window_once events.Leave d d' is is' a a' = let p = subst (λ (z : window.Deed). window.Allowed h g z) is.1 a in let q = subst (λ (z : window.Deed). window.Allowed h g z) is'.1 a' in is.1 ∙ (ap window.leave (good.one_tree is.0 is'.0 g p q) ∙ sym is'.1)
  window_once (events.Look r) d d' is is' a a' = is ∙ sym is'
  window_once (events.Take r) d d' is is' a a' = take_once r d d' is is' a a'
  window_once (events.SetMap r t) d d' is is' a a' = is ∙ sym is'
  window_once (events.SettleMapped c m) d d' is is' a a' = let p = subst (λ (z : window.Deed). window.Allowed h g z) is.2 a in let q = subst (λ (z : window.Deed). window.Allowed h g z) is'.2 a' in
      let r = good.one_moved is.0 is'.0 g p.0 q.0 in let f = good.one_tree is.1 is'.1 g p.2 q.2 in is.2 ∙ ((λ i. window.settle_mapped (r i) (f i) c m) ∙ sym is'.2)
  window_once events.SettleFree d d' is is' a a' = let p = subst (λ (z : window.Deed). window.Allowed h g z) is.1 a in let q = subst (λ (z : window.Deed). window.Allowed h g z) is'.1 a' in is.1 ∙ (ap window.settle_free (good.one_moved is.0 is'.0 g p q) ∙ sym is'.1)
  window_once (events.Pin r) d d' is is' a a' = let p = subst (λ (z : window.Deed). window.Allowed h g z) is.4 a in let q = subst (λ (z : window.Deed). window.Allowed h g z) is'.4 a' in
      let z = one_place is.0 is.1 is'.0 is'.1 is.2 is'.2 p.1 q.1 (is.3 ∙ sym is'.3) in is.4 ∙ ((λ i. window.pin (z.0 i) (z.1 i) (z.2 i)) ∙ sym is'.4)
  window_once (events.Unpin r) d d' is is' a a' = is ∙ sym is'
  window_once (events.Upgrade r) d d' is is' a a' = let p = subst (λ (z : window.Deed). window.Allowed h g z) is.4 a in let q = subst (λ (z : window.Deed). window.Allowed h g z) is'.4 a' in
      let z = one_place is.0 is.1 is'.0 is'.1 is.2 is'.2 p.1 q.1 (is.3 ∙ sym is'.3) in is.4 ∙ ((λ i. window.upgrade (z.0 i) (z.1 i) (z.2 i)) ∙ sym is'.4)
  window_once (events.TakeTurn f) d d' is is' a a' = absurd is
  window_once (events.SetSize x) d d' is is' a a' = absurd is
  window_once events.GiveTurn d d' is is' a a' = absurd is
  window_once (events.Lease f) d d' is is' a a' = absurd is
  window_once (events.NoteSize f) d d' is is' a a' = absurd is
  window_once (events.Unlease f) d d' is is' a a' = absurd is
  window_once (events.Bar f) d d' is is' a a' = absurd is
  window_once (events.Unbar f) d d' is is' a a' = absurd is

module _ (guests : ℕ) (cs : List FileState) (g : ℕ) (good : GoodFiles guests cs) where
  pub files_once : (e : Event) (d d' : FileDeed) → IsFileDeed e d → IsFileDeed e d' → files.Allowed cs g d → files.Allowed cs g d' → d ≡ d'
  files_once (events.TakeTurn f) d d' is is' a a' = is ∙ sym is'
  files_once (events.SetSize x) d d' is is' a a' = let p = (subst (λ (z : FileDeed). files.Allowed cs g z) is.1 a).may in let q = (subst (λ (z : FileDeed). files.Allowed cs g z) is'.1 a').may in
      is.1 ∙ (ap (λ (n : ℕ). files.on n (files.set_size x)) (good.one_turn is.0 is'.0 g p.turn q.turn) ∙ sym is'.1)
  files_once events.GiveTurn d d' is is' a a' = let p = (subst (λ (z : FileDeed). files.Allowed cs g z) is.1 a).may in let q = (subst (λ (z : FileDeed). files.Allowed cs g z) is'.1 a').may in
      is.1 ∙ (ap (λ (n : ℕ). files.on n files.give_turn) (good.one_turn is.0 is'.0 g p q) ∙ sym is'.1)
  files_once (events.Lease f) d d' is is' a a' = is ∙ sym is'
  files_once (events.NoteSize f) d d' is is' a a' = is ∙ sym is'
  files_once (events.Unlease f) d d' is is' a a' = is ∙ sym is'
  files_once (events.Bar f) d d' is is' a a' = is ∙ sym is'
  files_once (events.Unbar f) d d' is is' a a' = is ∙ sym is'
  files_once (events.Enter f) d d' is is' a a' = absurd is
  files_once events.Leave d d' is is' a a' = absurd is
  files_once (events.Look r) d d' is is' a a' = absurd is
  files_once (events.Take r) d d' is is' a a' = absurd is
  files_once (events.SetMap r t) d d' is is' a a' = absurd is
  files_once (events.SettleMapped c m) d d' is is' a a' = absurd is
  files_once events.SettleFree d d' is is' a a' = absurd is
  files_once (events.Pin r) d d' is is' a a' = absurd is
  files_once (events.Unpin r) d d' is is' a a' = absurd is
  files_once (events.Upgrade r) d d' is is' a a' = absurd is

-- an event is of one half
one_half : (e : Event) (d : window.Deed) (d' : FileDeed) → IsWindowDeed e d → IsFileDeed e d' → ⊥
one_half (events.TakeTurn f) d d' is is' = is
one_half (events.SetSize x) d d' is is' = is
one_half events.GiveTurn d d' is is' = is
one_half (events.Lease f) d d' is is' = is
one_half (events.NoteSize f) d d' is is' = is
one_half (events.Unlease f) d d' is is' = is
one_half (events.Bar f) d d' is is' = is
one_half (events.Unbar f) d d' is is' = is
one_half (events.Enter f) d d' is is' = is'
one_half events.Leave d d' is is' = is'
one_half (events.Look r) d d' is is' = is'
one_half (events.Take r) d d' is is' = is'
one_half (events.SetMap r t) d d' is is' = is'
one_half (events.SettleMapped c m) d d' is is' = is'
one_half events.SettleFree d d' is is' = is'
one_half (events.Pin r) d d' is is' = is'
one_half (events.Unpin r) d d' is is' = is'
one_half (events.Upgrade r) d d' is is' = is'

pub one_outcome : OneOutcome
one_outcome c g e (on_window d) (on_window d') good is is' a a' = ap (λ (x : window.Deed). after c g (on_window x)) (window_once c.guests c.window g good.window_good e d d' is is' a.1 a'.1)
one_outcome c g e (on_files d) (on_files d') good is is' a a' = ap (λ (x : FileDeed). after c g (on_files x)) (files_once c.guests c.files g good.files_good e d d' is is' a.1 a'.1)
one_outcome c g e (on_window d) (on_files d') good is is' a a' = absurd (one_half e d d' is is')
one_outcome c g e (on_files d) (on_window d') good is is' a a' = absurd (one_half e d' d is' is)

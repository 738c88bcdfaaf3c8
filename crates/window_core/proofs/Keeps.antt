-- What a change of one part of the window leaves good.
use Rattle.std.proofs.Common.{◌≡◌, ◌≢◌, ◌⊎◌, ℕ, ◌+◌, ◌<◌, ◌≤◌, List, [], ◌∷◌, ◌++◌, length, set, get_or, slice_get, true, false, Option, Some, None, refl, sym, ap, ◌∙◌, subst, ⊎_elim, inl, inr, arith, length-append, length-set, get_or-set_same, get_or-set_other}
use mathlib.Core.Logic.{dite}
use native.Mathlib.Decide.{ℕ_discrete}
use Rattle.page_map.specs.declared.pages.Mode.{Mode}
use Rattle.page_map.specs.declared.ranges.LogEntry.{LogEntry}
use Rattle.page_map.specs.declared.ranges.Placed.{Placed}
use Rattle.page_map.specs.declared.ranges.Target.{Target}
use Rattle.page_map.specs.Logs.{live, sound, removes, placed_at}
use Rattle.range_tree.specs.Trees.{place_entry}
use Rattle.window_core.specs.declared.states.RangeState.{RangeState}
use Rattle.window_core.specs.declared.states.RangeState.TheVariants as ranges
use Rattle.window_core.specs.declared.states.Pin.{Pin}
use Rattle.window_core.specs.Window.{Side, Window, no_side, state, target, side, pins, seen_by, placed, IsTarget, HasTree, target_of, grown, with_state, with_side, with_pins, with_entry}
use Rattle.window_core.specs.Good.{AtMost, MapsTo, PinOk, SideOk, GoodWindow}
use Rattle.window_core.proofs.Places.{within, at_put, at_longer}
use Rattle.window_core.proofs.Living.{lasts_live, live_lasts, lasts_stays, lasts_on}
use Rattle.window_core.proofs.Placing.{some_same, none_some}

-- ---- states

pub free_mapped : (f c : ℕ) (m : Mode) → ranges.Free ≡ ranges.Mapped f c m → ⊥
free_mapped f c m e = cc

pub free_moving : (g : ℕ) → ranges.Free ≡ ranges.Moving g → ⊥
free_moving g e = cc

pub moving_mapped : (f c g : ℕ) (m : Mode) → ranges.Moving g ≡ ranges.Mapped f c m → ⊥
moving_mapped f c g m e = cc

pub same_mover : (a b : ℕ) → ranges.Moving a ≡ ranges.Moving b → a ≡ b
same_mover a b e = cc

pub same_mapped : (f c f' c' : ℕ) (m m' : Mode) → ranges.Mapped f c m ≡ ranges.Mapped f' c' m' → (f ≡ f') × (c ≡ c') × (m ≡ m')
same_mapped f c f' c' m m' e = (cc, cc, cc)

pub mapped_inside : (h : Window) (r f c : ℕ) (m : Mode) → state h r ≡ ranges.Mapped f c m → r < length h.states
mapped_inside h r f c m is = within h.states r ranges.Free (λ e. free_mapped f c m (sym e ∙ is))

pub moving_inside : (h : Window) (r g : ℕ) → state h r ≡ ranges.Moving g → r < length h.states
moving_inside h r g is = within h.states r ranges.Free (λ e. free_moving g (sym e ∙ is))

pub side_inside : (h : Window) (f g : ℕ) → HasTree h g f → f < length h.sides
side_inside h f g is = within h.sides f no_side (λ e. none_some g (sym (ap (λ (s : Side). s.holder) e) ∙ is))

-- ---- parts that a change leaves alone

pub target_same : (h h' : Window) (o : Option Target) → length h'.sides ≡ length h.sides → IsTarget h o → IsTarget h' o
target_same h h' None e t = tt
target_same h h' (Some t) e ok = let a = ok.0 in (omega arith, ok.1)

-- a pin over a change that keeps its range and its log, and after which the guest has seen no less
pub pin_by : (h h' : Window) (g : ℕ) (p : Pin) → state h' p.range ≡ state h p.range → (side h' p.file).log ≡ (side h p.file).log → seen_by (side h p.file) g ≤ seen_by (side h' p.file) g → PinOk h g p → PinOk h' g p
pin_by h h' g p same log seen ok = let u = ok.upto_seen in record {
  mode = ok.mode;
  state_is = same ∙ ok.state_is;
  enough = ok.enough;
  upto_seen = omega arith;
  first = ok.first;
  place = ap (λ (l : List LogEntry). slice_get l p.through.entry) log ∙ ok.place;
  lives = subst (λ (l : List LogEntry). (m : ℕ) → p.through.upto ≤ m → m ≤ length l → live l p.through.entry m ≡ true) (sym log) ok.lives;
}

pub sides_put : (guests n : ℕ) (ss : List Side) (f : ℕ) (s' : Side) → f < length ss → SideOk guests n s' → ((i : ℕ) → i < length ss → SideOk guests n (get_or ss i no_side)) → (i : ℕ) → i < length (set ss f s') → SideOk guests n (get_or (set ss f s') i no_side)
sides_put guests n ss f s' near ok all i l = ⊎_elim (λ h. subst (λ (s : Side). SideOk guests n s) (sym h.1) ok) (λ h. subst (λ (s : Side). SideOk guests n s) (sym h.1) (all i (let z = length-set ss f s' in omega arith))) (at_put ss f i s' no_side near)

-- the state of range r becomes x
module _ (guests : ℕ) (h : Window) (r : ℕ) (x : RangeState) (near : r < length h.states) where
  pub one_moved_put : ((g r' : ℕ) → x ≡ ranges.Moving g → r' ≢ r → state h r' ≢ ranges.Moving g) → ((r r' g : ℕ) → state h r ≡ ranges.Moving g → state h r' ≡ ranges.Moving g → r ≡ r')
      → (a b g : ℕ) → get_or (set h.states r x) a ranges.Free ≡ ranges.Moving g → get_or (set h.states r x) b ranges.Free ≡ ranges.Moving g → a ≡ b
  one_moved_put alone one a b g p q = ⊎_elim
      (λ s. ⊎_elim (λ t. s.0 ∙ sym t.0) (λ t. absurd (alone g b (sym s.1 ∙ p) t.0 (sym t.1 ∙ q))) (at_put h.states r b x ranges.Free near))
      (λ s. ⊎_elim (λ t. absurd (alone g a (sym t.1 ∙ q) s.0 (sym s.1 ∙ p))) (λ t. one a b g (sym s.1 ∙ p) (sym t.1 ∙ q)) (at_put h.states r b x ranges.Free near)) (at_put h.states r a x ranges.Free near)

  pub movers_put : ((g : ℕ) → x ≡ ranges.Moving g → g < guests) → ((r g : ℕ) → state h r ≡ ranges.Moving g → g < guests) → (a g : ℕ) → get_or (set h.states r x) a ranges.Free ≡ ranges.Moving g → g < guests
  movers_put new old a g p = ⊎_elim (λ s. new g (sym s.1 ∙ p)) (λ s. old a g (sym s.1 ∙ p)) (at_put h.states r a x ranges.Free near)

  pub there_put : ((f c : ℕ) (m : Mode) → x ≡ ranges.Mapped f c m → MapsTo h r f c m) → ((r f c : ℕ) (m : Mode) → state h r ≡ ranges.Mapped f c m → MapsTo h r f c m) → (a f c : ℕ) (m : Mode) → get_or (set h.states r x) a ranges.Free ≡ ranges.Mapped f c m → MapsTo h a f c m
  there_put new old a f c m p = ⊎_elim (λ s. subst (λ (n : ℕ). MapsTo h n f c m) (sym s.0) (new f c m (sym s.1 ∙ p))) (λ s. old a f c m (sym s.1 ∙ p)) (at_put h.states r a x ranges.Free near)

module _ (guests : ℕ) (h : Window) (g : ℕ) (l : g < guests) (good : GoodWindow guests h) where
  -- The guest adds an entry to the log of a file whose tree it has: range r becomes x, and the tree has o for chunk c.
  module _ (f r c : ℕ) (x : RangeState) (o : Option Placed) (e : LogEntry) (had : HasTree h g f) (near : r < length h.states)
      (sound_now : sound (length h.states) ((side h f).log ++ e ∷ []) ≡ true)
      (here : placed_at ((side h f).log ++ e ∷ []) c ≡ o)
      (elsewhere : (c' : ℕ) → c' ≢ c → placed_at ((side h f).log ++ e ∷ []) c' ≡ placed h f c')
      (only : (p : Placed) → placed h f c ≡ Some p → p.range ≡ r)
      (was : (f' c' : ℕ) (m : Mode) → state h r ≡ ranges.Mapped f' c' m → (f' ≡ f) × (c' ≡ c))
      (fits : (p : Placed) → o ≡ Some p → (p.range ≡ r) × (x ≡ ranges.Mapped f c p.mode))
      (news : (f' c' : ℕ) (m : Mode) → x ≡ ranges.Mapped f' c' m → (f' ≡ f) × (c' ≡ c) × ((p : Placed) × (o ≡ Some p) × (p.range ≡ r) × (p.mode ≡ m)) × MapsTo h r f' c' m)
      (moves : (g' r' : ℕ) → x ≡ ranges.Moving g' → r' ≢ r → state h r' ≢ ranges.Moving g')
      (mover : (g' : ℕ) → x ≡ ranges.Moving g' → g' < guests)
      (pinned : (g' k : ℕ) (p : Pin) → slice_get (pins h g') k ≡ Some p → (removes p.range e ≡ false) × ((p.range ≢ r) ⊎ ((m : Mode) × (x ≡ ranges.Mapped p.file p.chunk m) × AtMost p.mode m))) where
    abbrev s' : Side
    s' = grown g e (side h f)

    abbrev h' : Window
    h' = with_entry g f r x e h

    inside : f < length h.sides
    inside = side_inside h f g had

    more : length ((side h f).log ++ e ∷ []) ≡ length (side h f).log + 1
    more = length-append (side h f).log (e ∷ [])

    -- a file other than f is as it was, and f is as it is now
    side_now : (i : ℕ) → ((i ≡ f) × (side h' i ≡ s')) ⊎ ((i ≢ f) × (side h' i ≡ side h i))
    side_now i = at_put h.sides f i s' no_side inside

    placed_now : (i j : ℕ) → ((i ≡ f) × (j ≡ c) × (placed h' i j ≡ o)) ⊎ ((((i ≡ f) × (j ≡ c)) → ⊥) × (placed h' i j ≡ placed h i j))
    placed_now i j = ⊎_elim
        (λ a. dite (ℕ_discrete j c)
        (λ b. inl (a.0, b, ap (λ (s : Side). placed_at s.log j) a.1 ∙ (ap (λ (n : ℕ). placed_at ((side h f).log ++ e ∷ []) n) b ∙ here)))
        (λ b. inr ((λ z. b z.1), ap (λ (s : Side). placed_at s.log j) a.1 ∙ (elsewhere j b ∙ ap (λ (n : ℕ). placed h n j) (sym a.0)))))
        (λ a. inr ((λ z. a.0 z.0), ap (λ (s : Side). placed_at s.log j) a.1)) (side_now i)

    holder_now : (i : ℕ) → (side h' i).holder ≡ (side h i).holder
    holder_now i = ⊎_elim (λ a. ap (λ (s : Side). s.holder) a.1 ∙ ap (λ (n : ℕ). (side h n).holder) (sym a.0)) (λ a. ap (λ (s : Side). s.holder) a.1) (side_now i)

    state_now : (a : ℕ) → ((a ≡ r) × (state h' a ≡ x)) ⊎ ((a ≢ r) × (state h' a ≡ state h a))
    state_now a = at_put h.states r a x ranges.Free near

    old : SideOk guests (length h.states) (side h f)
    old = good.sides_ok f inside

    seen_now : (g' : ℕ) → ((g' ≡ g) × (seen_by s' g' ≡ length (side h f).log + 1)) ⊎ ((g' ≢ g) × (seen_by s' g' ≡ seen_by (side h f) g'))
    seen_now g' = at_put (side h f).seen g g' (length (side h f).log + 1) 0 (let n = old.seen_all in omega arith)

    seen_more : (g' : ℕ) → seen_by (side h f) g' ≤ seen_by s' g'
    seen_more g' = let a = old.seen_within g' in ⊎_elim (λ z. let y = z.1 in omega arith) (λ z. let y = z.1 in omega arith) (seen_now g')

    side_ok : SideOk guests (length h.states) s'
    side_ok = let n = more in record {
      log_sound = sound_now;
      seen_all = length-set (side h f).seen g (length (side h f).log + 1) ∙ old.seen_all;
      holder_small = old.holder_small;
      seen_within = λ g'. let a = old.seen_within g' in ⊎_elim (λ z. let y = z.1 in omega arith) (λ z. let y = z.1 in omega arith) (seen_now g');
      seen_whole = λ g' t. ⊎_elim (λ z. z.1 ∙ sym n) (λ z. absurd (z.0 (some_same g' g (sym t ∙ had)))) (seen_now g');
    }

    mapped_placed_now : (a f' c' : ℕ) (m : Mode) → state h' a ≡ ranges.Mapped f' c' m → (p : Placed) × (placed h' f' c' ≡ Some p) × (p.range ≡ a) × (p.mode ≡ m)
    mapped_placed_now a f' c' m p = ⊎_elim
        (λ s. let n = news f' c' m (sym s.1 ∙ p) in let q = n.2.0 in (q, (λ i. placed h' (n.0 i) (n.1 i)) ∙ (ap (λ (s : Side). placed_at s.log c) (get_or-set_same h.sides f s' no_side inside) ∙ (here ∙ n.2.1)), n.2.2 ∙ sym s.0, n.2.3))
        (λ s. let q = good.mapped_placed a f' c' m (sym s.1 ∙ p) in (q.0, ⊎_elim (λ t. absurd (s.0 (sym q.2 ∙ only q.0 (sym (λ i. placed h (t.0 i) (t.1 i)) ∙ q.1)))) (λ t. t.1 ∙ q.1) (placed_now f' c'), q.2, q.3))
        (state_now a)

    placed_mapped_now : (f' c' : ℕ) (p : Placed) → placed h' f' c' ≡ Some p → state h' p.range ≡ ranges.Mapped f' c' p.mode
    placed_mapped_now f' c' p a = ⊎_elim
        (λ t. let q = fits p (sym t.2 ∙ a) in subst (λ (z : ℕ × ℕ). state h' p.range ≡ ranges.Mapped z.0 z.1 p.mode) (λ i. (sym t.0 i, sym t.1 i)) (ap (λ (n : ℕ). state h' n) q.0 ∙ (get_or-set_same h.states r x ranges.Free near ∙ q.1)))
        (λ t. let q = good.placed_mapped f' c' p (sym t.1 ∙ a) in ⊎_elim (λ s. absurd (t.0 (was f' c' p.mode (ap (λ (n : ℕ). state h n) (sym s.0) ∙ q)))) (λ s. s.1 ∙ q) (state_now p.range)) (placed_now f' c')

    -- a pin's place is live in the longer log
    lives_now : (g' : ℕ) (p : Pin) → p.file ≡ f → removes p.range e ≡ false → PinOk h g' p → (m : ℕ) → p.through.upto ≤ m → m ≤ length ((side h p.file).log ++ e ∷ []) → live ((side h p.file).log ++ e ∷ []) p.through.entry m ≡ true
    lives_now g' p in_file stays ok m lo hi = let log = (side h p.file).log in let n = length-append log (e ∷ []) in let u = ok.upto_seen in let k = p.through.entry in
        let small : seen_by (side h p.file) g' ≤ length log = subst (λ (i : ℕ). seen_by (side h i) g' ≤ length (side h i).log) (sym in_file) (old.seen_within g') in
        dite (ℕ_discrete m (length log + 1))
        (λ end. subst (λ (y : ℕ). live (log ++ e ∷ []) k y ≡ true) (n ∙ sym end) (lasts_live (log ++ e ∷ []) k (length (log ++ e ∷ [])) p.chunk p.range ok.first (lasts_on log e k p.chunk p.range ok.first stays (live_lasts log k (length log) p.chunk p.range ok.first ok.place (ok.lives (length log) (omega arith) (omega arith))))))
        (λ ne. lasts_live (log ++ e ∷ []) k m p.chunk p.range ok.first (lasts_stays log e k m p.chunk p.range ok.first (live_lasts log k m p.chunk p.range ok.first ok.place (ok.lives m lo (omega arith)))))

    pins_ok_now : (g' k : ℕ) (p : Pin) → slice_get (pins h g') k ≡ Some p → PinOk h' g' p
    pins_ok_now g' k p at = let ok = good.pins_ok g' k p at in let may = pinned g' k p at in let u = ok.upto_seen in
        let st : (m : Mode) × (state h' p.range ≡ ranges.Mapped p.file p.chunk m) × AtMost p.mode m = ⊎_elim
        (λ a. ⊎_elim (λ b. absurd (b a.0)) (λ b. (b.0, a.1 ∙ b.1, b.2)) may.1)
        (λ a. (ok.mode, a.1 ∙ ok.state_is, ok.enough)) (state_now p.range) in
        ⊎_elim
        (λ a. let log : (side h' p.file).log ≡ (side h p.file).log ++ e ∷ [] = ap (λ (s : Side). s.log) a.1 ∙ ap (λ (n : ℕ). (side h n).log ++ e ∷ []) (sym a.0) in
        let grew : seen_by (side h p.file) g' ≤ seen_by (side h' p.file) g' = subst (λ (z : Side × ℕ). seen_by (side h z.1) g' ≤ seen_by z.0 g') (λ i. (sym a.1 i, sym a.0 i)) (seen_more g') in record {
          mode = st.0;
          state_is = st.1;
          enough = st.2;
          upto_seen = omega arith;
          first = ok.first;
          place = ap (λ (l : List LogEntry). slice_get l p.through.entry) log ∙ at_longer (side h p.file).log (e ∷ []) p.through.entry (place_entry p.chunk p.range ok.first) ok.place;
          lives = subst (λ (l : List LogEntry). (m : ℕ) → p.through.upto ≤ m → m ≤ length l → live l p.through.entry m ≡ true) (sym log) (lives_now g' p a.0 may.0 ok);
        })
        (λ a. record {
          mode = st.0;
          state_is = st.1;
          enough = st.2;
          upto_seen = subst (λ (s : Side). p.through.upto ≤ seen_by s g') (sym a.1) u;
          first = ok.first;
          place = ap (λ (s : Side). slice_get s.log p.through.entry) a.1 ∙ ok.place;
          lives = subst (λ (s : Side). (m : ℕ) → p.through.upto ≤ m → m ≤ length s.log → live s.log p.through.entry m ≡ true) (sym a.1) ok.lives;
        })
        (side_now p.file)

    pub grow_keeps : GoodWindow guests h'
    grow_keeps = let sized = length-set h.states r x in let many = length-set h.sides f s' in record {
      ranges_few = (let z = good.ranges_few in omega arith);
      targets_all = good.targets_all ∙ sym sized;
      pins_all = good.pins_all;
      sides_ok = subst (λ (n : ℕ). (i : ℕ) → i < length (set h.sides f s') → SideOk guests n (side h' i)) (sym sized) (sides_put guests (length h.states) h.sides f s' inside side_ok good.sides_ok);
      mapped_placed = mapped_placed_now;
      placed_mapped = placed_mapped_now;
      mapped_there = there_put guests h r x near (λ f' c' m p. (news f' c' m p).3) good.mapped_there;
      targets_known = λ a. target_same h h' (target h a) many (good.targets_known a);
      pins_ok = pins_ok_now;
      pins_few = good.pins_few;
      movers_small = movers_put guests h r x near mover good.movers_small;
      one_moved = one_moved_put guests h r x near moves good.one_moved;
      one_tree = λ i j g' a b. good.one_tree i j g' (sym (holder_now i) ∙ a) (sym (holder_now j) ∙ b);
    }

  -- a range that isn't mapped becomes x, which isn't either
  pub range_keeps : (r : ℕ) (x : RangeState) → r < length h.states → ((f c : ℕ) (m : Mode) → state h r ≢ ranges.Mapped f c m) → ((f c : ℕ) (m : Mode) → x ≢ ranges.Mapped f c m)
      → ((g' r' : ℕ) → x ≡ ranges.Moving g' → r' ≢ r → state h r' ≢ ranges.Moving g') → ((g' : ℕ) → x ≡ ranges.Moving g' → g' < guests) → GoodWindow guests (with_state r x h)
  range_keeps r x near was now moves mover = let h' : Window = with_state r x h in let sized = length-set h.states r x in record {
    ranges_few = (let z = good.ranges_few in omega arith);
    targets_all = good.targets_all ∙ sym sized;
    pins_all = good.pins_all;
    sides_ok = subst (λ (n : ℕ). (i : ℕ) → i < length h.sides → SideOk guests n (side h i)) (sym sized) good.sides_ok;
    mapped_placed = λ a f c m p. ⊎_elim (λ s. absurd (now f c m (sym s.1 ∙ p))) (λ s. good.mapped_placed a f c m (sym s.1 ∙ p)) (at_put h.states r a x ranges.Free near);
    placed_mapped = λ f c p a. let q = good.placed_mapped f c p a in ⊎_elim (λ s. absurd (was f c p.mode (ap (λ (n : ℕ). state h n) (sym s.0) ∙ q))) (λ s. s.1 ∙ q) (at_put h.states r p.range x ranges.Free near);
    mapped_there = there_put guests h r x near (λ f c m p. absurd (now f c m p)) good.mapped_there;
    targets_known = λ a. target_same h h' (target h a) refl (good.targets_known a);
    pins_ok = λ g' k p at. let ok = good.pins_ok g' k p at in pin_by h h' g' p (get_or-set_other h.states r p.range x ranges.Free (λ e. was p.file p.chunk ok.mode (ap (λ (n : ℕ). state h n) (sym e) ∙ ok.state_is))) refl (omega arith) ok;
    pins_few = good.pins_few;
    movers_small = movers_put guests h r x near mover good.movers_small;
    one_moved = one_moved_put guests h r x near moves good.one_moved;
    one_tree = good.one_tree;
  }

  -- a file's tree changes hands
  pub side_keeps : (f : ℕ) (a : Option ℕ) (ns : List ℕ) → f < length h.sides → SideOk guests (length h.states) (record (side h f) { holder = a; seen = ns }) → ((i : ℕ) → seen_by (side h f) i ≤ get_or ns i 0)
      → ((i g' : ℕ) → a ≡ Some g' → HasTree h g' i → i ≡ f) → GoodWindow guests (with_side f (record (side h f) { holder = a; seen = ns }) h)
  side_keeps f a ns near ok more one = let s' : Side = record (side h f) { holder = a; seen = ns } in let h' : Window = with_side f s' h in let many = length-set h.sides f s' in
      let now : (i : ℕ) → ((i ≡ f) × (side h' i ≡ s')) ⊎ ((i ≢ f) × (side h' i ≡ side h i)) = λ i. at_put h.sides f i s' no_side near in
      let log : (i : ℕ) → (side h' i).log ≡ (side h i).log = λ i. ⊎_elim (λ z. ap (λ (s : Side). s.log) z.1 ∙ ap (λ (n : ℕ). (side h n).log) (sym z.0)) (λ z. ap (λ (s : Side). s.log) z.1) (now i) in
      let up : (i g' : ℕ) → seen_by (side h i) g' ≤ seen_by (side h' i) g' = λ i g'. ⊎_elim (λ z. subst (λ (y : Side × ℕ). seen_by (side h y.1) g' ≤ seen_by y.0 g') (λ k. (sym z.1 k, sym z.0 k)) (more g')) (λ z. let e = ap (λ (s : Side). seen_by s g') z.1 in omega arith) (now i) in record {
        ranges_few = good.ranges_few;
        targets_all = good.targets_all;
        pins_all = good.pins_all;
        sides_ok = sides_put guests (length h.states) h.sides f s' near ok good.sides_ok;
        mapped_placed = λ r i c m p. let q = good.mapped_placed r i c m p in (q.0, ap (λ (t : List LogEntry). placed_at t c) (log i) ∙ q.1, q.2, q.3);
        placed_mapped = λ i c p e. good.placed_mapped i c p (sym (ap (λ (t : List LogEntry). placed_at t c) (log i)) ∙ e);
        mapped_there = good.mapped_there;
        targets_known = λ r. target_same h h' (target h r) many (good.targets_known r);
        pins_ok = λ g' k p at. pin_by h h' g' p refl (log p.file) (up p.file g') (good.pins_ok g' k p at);
        pins_few = good.pins_few;
        movers_small = good.movers_small;
        one_moved = good.one_moved;
        one_tree = λ i j g' p q. ⊎_elim
            (λ y. ⊎_elim (λ z. y.0 ∙ sym z.0) (λ z. y.0 ∙ sym (one j g' (sym (ap (λ (s : Side). s.holder) y.1) ∙ p) (sym (ap (λ (s : Side). s.holder) z.1) ∙ q))) (now j))
            (λ y. ⊎_elim (λ z. one i g' (sym (ap (λ (s : Side). s.holder) z.1) ∙ q) (sym (ap (λ (s : Side). s.holder) y.1) ∙ p) ∙ sym z.0) (λ z. good.one_tree i j g' (sym (ap (λ (s : Side). s.holder) y.1) ∙ p) (sym (ap (λ (s : Side). s.holder) z.1) ∙ q)) (now j)) (now i);
      }

  -- the guest's pins are others
  pub pins_keep : (ps : List Pin) → ((k : ℕ) (p : Pin) → slice_get ps k ≡ Some p → PinOk h g p) → length ps ≤ 64 → GoodWindow guests (with_pins g ps h)
  pins_keep ps ok few = let h' : Window = with_pins g ps h in let near : g < length h.pins = (let n = good.pins_all in omega arith) in
      let row : (i : ℕ) → ((i ≡ g) × (pins h' i ≡ ps)) ⊎ ((i ≢ g) × (pins h' i ≡ pins h i)) = λ i. at_put h.pins g i ps [] near in record {
        ranges_few = good.ranges_few;
        targets_all = good.targets_all;
        pins_all = length-set h.pins g ps ∙ good.pins_all;
        sides_ok = good.sides_ok;
        mapped_placed = good.mapped_placed;
        placed_mapped = good.placed_mapped;
        mapped_there = good.mapped_there;
        targets_known = λ r. target_same h h' (target h r) refl (good.targets_known r);
        pins_ok = λ g' k p at. ⊎_elim
            (λ z. subst (λ (n : ℕ). PinOk h' n p) (sym z.0) (pin_by h h' g p refl refl (omega arith) (ok k p (sym (ap (λ (qs : List Pin). slice_get qs k) z.1) ∙ at))))
            (λ z. pin_by h h' g' p refl refl (omega arith) (good.pins_ok g' k p (sym (ap (λ (qs : List Pin). slice_get qs k) z.1) ∙ at))) (row g');
        pins_few = λ g'. ⊎_elim (λ z. let e = ap (λ (qs : List Pin). length qs) z.1 in omega arith) (λ z. let e = ap (λ (qs : List Pin). length qs) z.1 in let b = good.pins_few g' in omega arith) (row g');
        movers_small = good.movers_small;
        one_moved = good.one_moved;
        one_tree = good.one_tree;
      }

  -- the map of a range is another
  pub target_keeps : (r : ℕ) (t : Option Target) → r < length h.states → IsTarget h t → ((f c : ℕ) (m : Mode) → state h r ≡ ranges.Mapped f c m → (w : Mode) × (t ≡ Some (target_of f c w)) × AtMost m w)
      → GoodWindow guests record h { targets = set h.targets r t }
  target_keeps r t near ok fits = let h' : Window = record h { targets = set h.targets r t } in let inside : r < length h.targets = (let n = good.targets_all in omega arith) in record {
    ranges_few = good.ranges_few;
    targets_all = length-set h.targets r t ∙ good.targets_all;
    pins_all = good.pins_all;
    sides_ok = good.sides_ok;
    mapped_placed = good.mapped_placed;
    placed_mapped = good.placed_mapped;
    mapped_there = λ a f c m p. ⊎_elim (λ z. let q = fits f c m (ap (λ (n : ℕ). state h n) (sym z.0) ∙ p) in (q.0, z.1 ∙ q.1, q.2)) (λ z. let q = good.mapped_there a f c m p in (q.0, z.1 ∙ q.1, q.2)) (at_put h.targets r a t None inside);
    targets_known = λ a. ⊎_elim (λ z. subst (λ (o : Option Target). IsTarget h' o) (sym z.1) (target_same h h' t refl ok)) (λ z. subst (λ (o : Option Target). IsTarget h' o) (sym z.1) (target_same h h' (target h a) refl (good.targets_known a))) (at_put h.targets r a t None inside);
    pins_ok = λ g' k p at. pin_by h h' g' p refl refl (omega arith) (good.pins_ok g' k p at);
    pins_few = good.pins_few;
    movers_small = good.movers_small;
    one_moved = good.one_moved;
    one_tree = good.one_tree;
  }

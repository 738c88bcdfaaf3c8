-- Passes that come and go.
use Rattle.std.proofs.Common.{◌≡◌, ℕ, zero, suc, ◌+◌, ◌*◌, ◌<◌, ◌≤◌, List, [], ◌∷◌, replicate, length, false, true≢false, Option, Some, None, refl, sym, ap, ◌∙◌, subst, arith}
use lib.ListN.{length-map}
use Rattle.std.proofs.lemmas.List.{length-replicate}
use Rattle.atomic_table.specs.Seated.{TableId}
use Rattle.seats.specs.Views.{guests, root, parent, child, joined}
use Rattle.page_map.specs.declared.ranges.LogEntry.{LogEntry}
use Rattle.page_map.specs.declared.ranges.RangeWord.{RangeWord}
use Rattle.window_core.specs.declared.states.Pin.{Pin}
use Rattle.window_core.specs.declared.states.RangeState.TheVariants as states
use Rattle.window_core.specs.Window.{Window, no_side, new_side, new_window, pins_on}
use Rattle.window_core.specs.Shown.{Branch}
use Rattle.range_share.specs.Table.{Mine, Noted, Knows, no_branch, branch_in, not_moving, nothing_of, only_seen, stays_put, blank, opener, mine, just_seen, merged, merged_branches, IsIdle, Begun}
use Rattle.range_share.specs.Steps.{Chair, IsShowing, branch_of, moves_at, ranges_of, files_of}
use Rattle.range_share.specs.Known.{known, Sound, InHand, TookIn, no_looks, word_in}
use Rattle.range_share.proofs.Parts.{get_map}
use Rattle.range_share.proofs.Opening.{starts}
use Rattle.range_share.proofs.Sounding.{PinsNoted, pins_same}
use Rattle.range_share.proofs.Calling.{no_look}

no_pins : (r : ℕ) (ps : List Pin) → ps ≡ [] → pins_on r ps ≡ 0
no_pins r ps e = ap (pins_on r) e

none_noted : (v : Knows) → v.mine.shown.pins ≡ [] → PinsNoted v
none_noted v e r some_on = absurd (let z = no_pins r v.mine.shown.pins e in omega arith)

-- ---- the first pass

pub first_showing : (ranges files movers : ℕ) → ranges ≤ 256 → files ≤ 64 → IsShowing (opener ranges files movers)
first_showing ranges files movers few many = let r = starts ranges files movers (replicate (8 * files + 8 * ranges + 8) 0) (replicate files (Some [])) few many refl refl in record {
  core = r.core;
  good = r.good;
  part = (r.views_fit 0 (opener ranges files movers) refl refl).part;
}

pub sound_first : (t : Chair) (ranges files movers : ℕ) → ranges ≤ 256 → files ≤ 64 → t.me ≡ (opener ranges files movers, []) → t.table_id.words ≡ 8 * files + 8 * ranges + 8 → t.table_id.slots ≡ files → Sound t None 0 root None ranges files no_looks
sound_first t ranges files movers few many is words slots =
    let h : Window = new_window ranges files guests in
    let n : ranges_of t.me.0 ≡ ranges = ap (λ m. ranges_of m.0) is ∙ (length-map h.states not_moving ∙ length-replicate ranges states.Free) in
    let k : files_of t.me.0 ≡ files = ap (λ m. files_of m.0) is ∙ (length-map h.sides nothing_of ∙ length-replicate files (new_side guests)) in record {
      stands = record { same = refl; wide = omega arith; few_files = omega arith; few_ranges = omega arith; files = k ∙ sym slots; live = ap (λ m. m.0.live) is };
      guest_is = sym (ap (λ m. m.0.guest) is);
      small = omega arith;
      in_hand = ((λ f. ap (λ m. (branch_of m.0 f).had) is ∙ ap (λ (b : Branch). b.had) (get_map nothing_of h.sides f no_side)), ap (λ m. m.1) is);
      moves_is = λ r. ap (λ m. moves_at m.0 r) is ∙ get_map not_moving h.states r states.Free;
      moves_near = tt;
      ranges_are = sym n;
      files_are = sym k;
      looks_are = λ r l. no_look r ∙ sym (ap (λ m. word_in r m.0.noted.looks) is);
      showing = subst IsShowing (sym (ap (λ m. m.0) is)) (first_showing ranges files movers few many);
      pins_noted = none_noted t.me.0 (ap (λ m. m.0.mine.shown.pins) is);
    }

-- ---- a pass that was split off

module _ (s t : Chair) (n : ℕ) (hand : Option (List LogEntry)) (file guest : ℕ) (moves : Option ℕ) (ranges files : ℕ) (looks : List (Option RangeWord)) (ok : Sound s hand file guest moves ranges files looks) (table : t.table_id ≡ s.table_id) where
  pub sound_child : (ranges' files' : ℕ) → n < guests → t.me ≡ (child just_seen blank s.me.0 n, []) → IsShowing t.me.0 → t.table_id.words ≡ 8 * files' + 8 * ranges' + 8 → t.table_id.slots ≡ files' → Sound t None 0 n None ranges' files' no_looks
  sound_child ranges' files' small is showing words slots =
      let l : ranges_of t.me.0 ≡ ranges_of s.me.0 = ap (λ m. ranges_of m.0) is ∙ length-map s.me.0.mine.shown.moving stays_put in
      let k : files_of t.me.0 ≡ files_of s.me.0 = ap (λ m. files_of m.0) is ∙ length-map s.me.0.mine.shown.branches only_seen in
      let z = ok.stands in let a = z.wide in let b = z.few_files in let c = z.few_ranges in let e = z.files in
      let w = ap (λ (x : TableId). x.words) table in let u = ap (λ (x : TableId). x.slots) table in record {
        stands = record { same = refl; wide = omega arith; few_files = omega arith; few_ranges = omega arith; files = k ∙ (e ∙ sym u); live = ap (λ m. m.0.live) is };
        guest_is = sym (ap (λ m. m.0.guest) is);
        small = small;
        in_hand = ((λ f. ap (λ m. (branch_of m.0 f).had) is ∙ ap (λ (b : Branch). b.had) (get_map only_seen s.me.0.mine.shown.branches f no_branch)), ap (λ m. m.1) is);
        moves_is = λ r. ap (λ m. moves_at m.0 r) is ∙ get_map stays_put s.me.0.mine.shown.moving r false;
        moves_near = tt;
        ranges_are = omega arith;
        files_are = omega arith;
        looks_are = λ r l. no_look r ∙ sym (ap (λ m. word_in r m.0.noted.looks) is);
        showing = showing;
        pins_noted = none_noted t.me.0 (ap (λ m. m.0.mine.shown.pins) is);
      }

  -- the first pass, once it gave the number out
  pub sound_parent : t.me ≡ (parent s.me.0 n, s.me.1) → Sound t hand file guest moves ranges files looks
  sound_parent is =
      let mine_is : t.me.0.mine ≡ s.me.0.mine = ap (λ m. m.0.mine) is in
      let guest_now : t.me.0.guest ≡ s.me.0.guest = ap (λ m. m.0.guest) is in
      let noted_now : t.me.0.noted ≡ s.me.0.noted = ap (λ m. m.0.noted) is in
      let l : ranges_of t.me.0 ≡ ranges_of s.me.0 = ap (λ (m : Mine). length m.shown.moving) mine_is in
      let k : files_of t.me.0 ≡ files_of s.me.0 = ap (λ (m : Mine). length m.shown.branches) mine_is in
      let z = ok.stands in let a = z.wide in let b = z.few_files in let c = z.few_ranges in let e = z.files in
      let w = ap (λ (x : TableId). x.words) table in let u = ap (λ (x : TableId). x.slots) table in record {
        stands = record { same = refl; wide = omega arith; few_files = omega arith; few_ranges = omega arith; files = k ∙ (e ∙ sym u); live = ap (λ m. m.0.live) is ∙ z.live };
        guest_is = ok.guest_is ∙ sym guest_now;
        small = ok.small;
        in_hand = go hand ok.in_hand;
        moves_is = λ r. ap (λ m. moves_at m.0 r) is ∙ ok.moves_is r;
        moves_near = ok.moves_near;
        ranges_are = ok.ranges_are ∙ sym l;
        files_are = ok.files_are ∙ sym k;
        looks_are = λ r l. ok.looks_are r l ∙ sym (ap (λ (x : Noted). word_in r x.looks) noted_now);
        showing = let h = ok.showing in record { core = h.core; good = h.good; part = mine_is ∙ (h.part ∙ ap (λ (g : ℕ). mine g h.core) (sym guest_now)) };
        pins_noted = pins_same s.me.0 t.me.0 (ap (λ (m : Mine). m.shown.pins) mine_is) (ap (λ (x : Noted). x.pinned) noted_now) ok.pins_noted;
      }
    where
      go : (o : Option (List LogEntry)) → InHand s file o → InHand t file o
      go None h = ((λ f. ap (λ m. (branch_of m.0 f).had) is ∙ h.0 f), ap (λ m. m.1) is ∙ h.1)
      go (Some log) h = record {
        had = ap (λ m. (branch_of m.0 file).had) is ∙ h.had;
        alone = λ i ne. ap (λ m. (branch_of m.0 i).had) is ∙ h.alone i ne;
        taken = ap (λ m. m.1) is ∙ h.taken;
        inside = let l = h.inside in let u = ap (λ (x : TableId). x.slots) table in omega arith;
        log_is = h.log_is ∙ sym (ap (λ m. (branch_of m.0 file).seen) is);
      }

-- ---- the first pass, once it took another in

pub merged_had : (ms ns : List Branch) (f : ℕ) → (branch_in (merged_branches ms ns) f).had ≡ (branch_in ms f).had
merged_had [] ns f = refl
merged_had (m ∷ ms) [] f = refl
merged_had (m ∷ ms) (n ∷ ns) zero = refl
merged_had (m ∷ ms) (n ∷ ns) (suc f) = merged_had ms ns f

merged_long : (ms ns : List Branch) → length (merged_branches ms ns) ≡ length ms
merged_long [] ns = refl
merged_long (m ∷ ms) [] = refl
merged_long (m ∷ ms) (n ∷ ns) = ap suc (merged_long ms ns)

module _ (s t o : Chair) (is : t.me ≡ (joined merged s.me.0 o.me.0, s.me.1)) (table : t.table_id ≡ s.table_id) where
  pub sound_joined : (hand : Option (List LogEntry)) (file guest : ℕ) (moves : Option ℕ) (ranges files : ℕ) (looks : List (Option RangeWord)) → Sound s hand file guest moves ranges files looks → IsIdle s.me.0.mine → IsShowing t.me.0 → Sound t hand file guest moves ranges files looks
  sound_joined hand file guest moves ranges files looks ok idle showing =
      let noted_now : t.me.0.noted ≡ s.me.0.noted = ap (λ m. m.0.noted) is in
      let l : ranges_of t.me.0 ≡ ranges_of s.me.0 = ap (λ m. ranges_of m.0) is in
      let k : files_of t.me.0 ≡ files_of s.me.0 = ap (λ m. files_of m.0) is ∙ merged_long s.me.0.mine.shown.branches o.me.0.mine.shown.branches in
      let z = ok.stands in let a = z.wide in let b = z.few_files in let c = z.few_ranges in let e = z.files in
      let w = ap (λ (x : TableId). x.words) table in let u = ap (λ (x : TableId). x.slots) table in record {
        stands = record { same = refl; wide = omega arith; few_files = omega arith; few_ranges = omega arith; files = k ∙ (e ∙ sym u); live = ap (λ m. m.0.live) is ∙ z.live };
        guest_is = ok.guest_is ∙ sym (ap (λ m. m.0.guest) is);
        small = ok.small;
        in_hand = go hand ok.in_hand;
        moves_is = λ r. ap (λ m. moves_at m.0 r) is ∙ ok.moves_is r;
        moves_near = ok.moves_near;
        ranges_are = ok.ranges_are ∙ sym l;
        files_are = ok.files_are ∙ sym k;
        looks_are = λ r l. ok.looks_are r l ∙ sym (ap (λ (x : Noted). word_in r x.looks) noted_now);
        showing = showing;
        pins_noted = pins_same s.me.0 t.me.0 (ap (λ m. m.0.mine.shown.pins) is) (ap (λ (x : Noted). x.pinned) noted_now) ok.pins_noted;
      }
    where
      go : (h : Option (List LogEntry)) → InHand s file h → InHand t file h
      go None h = ((λ f. ap (λ m. (branch_of m.0 f).had) is ∙ (merged_had s.me.0.mine.shown.branches o.me.0.mine.shown.branches f ∙ h.0 f)), ap (λ m. m.1) is ∙ h.1)
      go (Some log) h = absurd (true≢false (sym h.had ∙ idle.trees file))

  pub took_in : Begun s.me.0.mine t.me.0.mine → Begun o.me.0.mine t.me.0.mine → TookIn (known s) (known o) (known t)
  took_in begun other = record { is = λ i. record { table = table i; view = (is i).0 }; begun = begun; other = other }

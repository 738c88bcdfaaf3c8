-- A guest over boards of its own, as a test has it.
use Rattle.std.proofs.Common.{◌≡◌, ◌∙◌, ap, sym, subst, refl, ℕ, zero, suc, ◌*◌, ◌<◌, true, true≢false, List, [], ◌∷◌, length, map, replicate, slice_index_or, Option, Some, None, arith}
use Rattle.std.specs.Prelude.{sum}
use Rattle.std.proofs.lemmas.List.{length-replicate}
use Rattle.plain_file.specs.declared.operations.First.{First}
use Rattle.plain_file.specs.Plain.{new_board, new_file}
use Rattle.plain_file.specs.Board.{BoardView, no_file}
use Rattle.page_map.specs.declared.pages.Page.{Page}
use Rattle.page_map.specs.Board.{MapView}
use Rattle.page_map.specs.Plain.{range_pages}
use Rattle.range_tree.specs.Plain.{new_ranges}
use Rattle.fuse_device.specs.OpenFiles.{HasOpenFile}
use Rattle.guest_wire.specs.Wires.{WireView, boards}
use Rattle.guest_wire.specs.declared.driver.FileRef.{FileRef}
use Rattle.guest_dax.specs.Stands.{stand, ref_at}
use Rattle.guest_io.specs.declared.guest.Granted.{Granted}
use Rattle.guest_io.specs.Holds.{HasHolds, no_holds, max_holds, count_of, leases_of, pins_of}
use Rattle.dax_script.specs.declared.scripts.FileLine.{FileLine}
use Rattle.guest_run.specs.Working.{IsIdle}
use Rattle.guest_run.proofs.Places.{none_is, map_len}
use Rattle.daxrun.proofs.Playing.{ref_is}
use Rattle.daxrun.specs.Carried.{names_of, AreRanges}
use Rattle.daxrun.specs.Session.{IsOpened, firsts_of}

-- ---- a guest that did nothing

ready_from : (fs : List First) (i : ℕ) → i < length (map new_file fs) → (slice_index_or (map new_file fs) i no_file).ready ≡ true
ready_from [] i lt = absurd (omega arith)
ready_from (x ∷ fs) zero lt = refl
ready_from (x ∷ fs) (suc i) lt = ready_from fs i (omega arith)

many_new : (fs : List FileLine) → length (new_board 0 (firsts_of fs)).files ≡ length fs
many_new fs = map_len new_file (firsts_of fs) ∙ map_len (λ (f : FileLine). f.first) fs

no_sum : (n : ℕ) → sum (replicate n 0) ≡ 0
no_sum zero = refl
no_sum (suc n) = no_sum n

-- a list of equal elements has that one everywhere
same_at : {A : Type 0} (x : A) (k n : ℕ) → slice_index_or (replicate k x) n x ≡ x
same_at x zero n = refl
same_at x (suc k) zero = refl
same_at x (suc k) (suc n) = same_at x k n

abbrev no_page : Option (Option Page)
no_page = Some None

abbrev no_slots : ℕ → List (Option Granted)
no_slots k = replicate k None

none_granted : (k : ℕ) → count_of (no_slots k) ≡ 0
unfolding count_of
none_granted zero = refl
none_granted (suc k) = none_granted k

none_leased : (file k : ℕ) → leases_of file (no_slots k) ≡ 0
unfolding leases_of
none_leased file zero = refl
none_leased file (suc k) = none_leased file k

none_pinned : (range k : ℕ) → pins_of range (no_slots k) ≡ 0
unfolding pins_of
none_pinned range zero = refl
none_pinned range (suc k) = none_pinned range k

-- it has no hold
no_holds_new : (w : WireView) (ranges : ℕ) (fs : List FileLine) → HasHolds (stand w (new_board 0 (firsts_of fs)) (new_ranges ranges (length fs) 0)) no_holds
no_holds_new w ranges fs = record {
  asked = omega arith;
  slots = length-replicate {A = Option Granted} max_holds None;
  behind = λ n low. same_at {A = Option Granted} None max_holds n;
  each = λ n g at. absurd (none_is g (sym (same_at {A = Option Granted} None max_holds n) ∙ at));
  leases = λ file. same_at 0 (length (firsts_of fs)) file ∙ sym (none_leased file max_holds);
  pins = λ range. same_at 0 ranges range ∙ sym (none_pinned range max_holds);
  all_leases = no_sum (length (firsts_of fs)) ∙ sym (none_granted max_holds);
  all_pins = no_sum ranges ∙ sym (none_granted max_holds);
}

-- the guest of an opened session, with ranges of its own
pub idle_new : (ranges : ℕ) (fs : List FileLine) (ats : List FileRef) (w : WireView) (files : BoardView) (window : MapView) (opened : BoardView) (pages : MapView) → AreRanges ranges → length ats ≡ length fs → IsOpened (names_of fs) ats w (boards opened pages) → length pages.table ≡ range_pages * ranges
    → files ≡ new_board 0 (firsts_of fs) → window ≡ new_ranges ranges (length fs) 0 → IsIdle (stand w files window) ats no_holds
idle_new ranges fs ats w files window opened pages some count o wide_pages board ranged =
    let live = o.live in
    let made : length w.state.made ≡ length fs = sym (map_len (λ f. f.name) w.state.made) ∙ ap length o.session.named ∙ map_len Some (names_of fs) ∙ map_len (λ (f : FileLine). f.name) fs in
    let wide : length (new_ranges ranges (length fs) 0).table ≡ w.state.pages = length-replicate (range_pages * ranges) no_page ∙ sym wide_pages ∙ live.servable.pages in
    let many = many_new fs in
    subst (λ (x : BoardView × MapView). IsIdle (stand w x.0 x.1) ats no_holds) (λ i. (sym board i, sym ranged i)) (record {
      home = record {
        stands = record {
          refs_of = count ∙ sym many;
          logs = length-replicate (length fs) [] ∙ sym many;
          may_take = refl;
          turn = refl;
          serving = λ honest. record {
            there = omega (arith, made, many);
            pages = wide;
            started = o.session.started;
            ready = λ whole file lt. ready_from (firsts_of fs) file (omega (arith, made, many, lt));
            nodes = λ file lt. (o.handles.each file (ref_at ats file) (ref_is ats file lt)).0;
            handles = λ file lt.
                let h = o.handles.each file (ref_at ats file) (ref_is ats file lt) in
                subst (λ (n : ℕ). HasOpenFile w.state n (ref_at ats file).fh) h.0 h.1;
          };
        };
        plain = λ honest whole. refl;
      };
      honest = live.honest;
      tree = refl;
      moves = refl;
      looks = ap (λ (n : ℕ). replicate n None) (sym (length-replicate ranges 0));
      may_lease = λ some. refl;
      unbarred = refl;
      holds = no_holds_new w ranges fs;
      sizes = λ shared. absurd (true≢false shared);
    })

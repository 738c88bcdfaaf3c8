-- The requests of the window over a wire with boards: what is asked for succeeds where the wire is honest.
use Rattle.std.proofs.Common.{◌≡◌, ◌∙◌, sym, subst, arith, ℕ, ◌+◌, ◌*◌, ◌<◌, ◌≤◌, true, List, length, Some, Result}
use Rattle.page_map.specs.declared.pages.Mode.{Mode}
use Rattle.page_map.specs.Plain.{range_pages}
use Rattle.page_map.specs.Window.{range_size}
use Rattle.page_map.specs.Board.{wiped, painted, may_set}
use Rattle.range_tree.specs.Ranges.{range_count}
use Rattle.fuse_codec.specs.declared.replies.Reply.TheVariants as replies
use Rattle.fuse_device.specs.State.{World}
use Rattle.fuse_device.specs.OpenFiles.{Succeeds}
use Rattle.guest_wire.specs.Wires.{WireView, Boards, Sent, world_at}
use Rattle.guest_wire.specs.Requests.{message, next_number, remove_request, setup_request}
use Rattle.guest_wire.specs.Answers.{Answers}
use Rattle.guest_wire.specs.declared.driver.FileRef.{FileRef}
use Rattle.guest_wire.specs.declared.wires.WireError.{WireError}
use Rattle.guest_wire.specs.declared.wires.WireRefusal.{WireRefusal}
use Rattle.guest_dax.specs.Stands.{stand, Stands, IsServing, chunk_span, ref_at}
use Rattle.guest_dax.specs.Causes.{SaysDone}
use Rattle.guest_dax.proofs.Window.{remove_of_window, remove_succeeds, setup_of_window, setup_succeeds, may_clear-moved}
use Rattle.guest_dax.proofs.Walking.{Asks}

within-window : (range count pages table : ℕ) → range < count → table ≡ range_pages * count → table ≡ pages → range_pages * (range + 1) ≤ pages
within-window range count pages table low long same = omega (arith, low, long, same)

pub Asks-remove : {S : Type 0} (wire : S → WireView) (gives : S → Boards → Sent → Result (List ℕ) WireError → S → Boards → Type 0) (before : S) (old : Boards) (refs : List FileRef) (unique node range : ℕ) (result : Result (Unit {0}) WireRefusal) (after : S) (new : Boards)
    → Answers wire gives SaysDone before old (message (next_number unique) node (remove_request range)) result after new → Stands (stand (wire before) old.files old.map) refs → range < range_count old.map → length old.map.table ≡ range_pages * range_count old.map → old.map.hands.moves ≡ Some range
    → Asks wire gives before old (message (next_number unique) node (remove_request range)) (wiped old.map (range_size * range) range_size) result after new
Asks-remove wire gives before old refs unique node range result after new answer stands low long moves = record {
  answer = answer;
  of_window = remove_of_window (next_number unique) node range;
  succeeds = λ honest.
      let h : IsServing (stand (wire before) old.files old.map) refs = stands.serving honest in
      remove_succeeds (world_at (wire before) old) node range (record {
        started = h.started;
        within = within-window range (range_count old.map) (wire before).state.pages (length old.map.table) low long h.pages;
        may = may_clear-moved old.map range moves;
      });
}

succeeds-at : (w : World) (node file : ℕ) (chunk range : ℕ) (mode : Mode) (new : World) → node ≡ file + 2 → Succeeds w (file + 2) (setup_request chunk range mode) replies.Done new → Succeeds w node (setup_request chunk range mode) replies.Done new
succeeds-at w node file chunk range mode new e h = subst (λ (n : ℕ). Succeeds w n (setup_request chunk range mode) replies.Done new) (sym e) h

pub Asks-setup : {S : Type 0} (wire : S → WireView) (gives : S → Boards → Sent → Result (List ℕ) WireError → S → Boards → Type 0) (before : S) (old : Boards) (refs : List FileRef) (unique node file chunk range : ℕ) (mode : Mode) (result : Result (Unit {0}) WireRefusal) (after : S) (new : Boards)
    → Answers wire gives SaysDone before old (message (next_number unique) node (setup_request chunk range mode)) result after new → Stands (stand (wire before) old.files old.map) refs → range < range_count old.map → length old.map.table ≡ range_pages * range_count old.map
    → node ≡ (ref_at refs file).node → file < length refs → chunk < 32 → may_set old.map (chunk_span file chunk range mode) ≡ true
    → Asks wire gives before old (message (next_number unique) node (setup_request chunk range mode)) (painted old.map (chunk_span file chunk range mode)) result after new
Asks-setup wire gives before old refs unique node file chunk range mode result after new answer stands low long at within small may = record {
  answer = answer;
  of_window = setup_of_window (next_number unique) node chunk range mode;
  succeeds = λ honest.
      let h : IsServing (stand (wire before) old.files old.map) refs = stands.serving honest in
      succeeds-at (world_at (wire before) old) node file chunk range mode (record (world_at (wire before) old) { map = painted old.map (chunk_span file chunk range mode) }) (at ∙ h.nodes file within) (
      setup_succeeds (world_at (wire before) old) file chunk range mode (record {
        fh = (ref_at refs file).fh;
        handle = h.handles file within;
        small = small;
        within = within-window range (range_count old.map) (wire before).state.pages (length old.map.table) low long h.pages;
        may = may;
      }));
}

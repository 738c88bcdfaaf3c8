-- The two requests of the window, each of which succeeds over boards that allow it.
use Rattle.std.proofs.Common.{◌≡◌, refl, arith, ℕ, ◌+◌, ◌*◌, ◌%◌, ◌<◌, ◌≤◌, ◌==◌, true, false, nat_lt, Some}
use Rattle.std.proofs.lemmas.Bool.{le-ltb}
use Rattle.std.proofs.lemmas.Grind.{common_steps}
use Rattle.plain_file.specs.File.{max_file}
use Rattle.page_map.specs.declared.pages.Mode.{Mode}
use Rattle.page_map.specs.declared.pages.Mode.TheVariants as modes
use Rattle.page_map.specs.Window.{page_size, range_size}
use Rattle.page_map.specs.Plain.{range_pages}
use Rattle.page_map.specs.Board.{MapView, may_set, may_clear, is_moved, is_whole, painted, wiped}
use Rattle.fuse_wire.specs.Layout.{FitsParts}
use Rattle.fuse_codec.specs.Grammar.{kind_of}
use Rattle.fuse_codec.specs.Opcodes.{reply_form}
use Rattle.fuse_codec.specs.Replies.{form_of, reply_parts, is_reply}
use Rattle.fuse_codec.specs.declared.replies.Reply.TheVariants as replies
use Rattle.fuse_device.specs.State.{World}
use Rattle.fuse_device.specs.DataSteps.{is_data, is_on_file}
use Rattle.fuse_device.specs.OpenFiles.{HasOpenFile, Succeeds}
use Rattle.fuse_device.specs.Requests.{answered, setup, remove, is_init, is_forget}
use Rattle.fuse_device.proofs.OpenHandles.{is_file, is_known-open}
use Rattle.guest_wire.specs.Requests.{message, setup_flags, setup_request, remove_request}
use Rattle.guest_dax.specs.Stands.{chunk_span}
use Rattle.guest_dax.proofs.Asking.{IsOfWindow}

pub setup_of_window : (unique node chunk range : ℕ) (mode : Mode) → IsOfWindow (message unique node (setup_request chunk range mode))
unfolding is_data is_on_file
setup_of_window unique node chunk range mode = record { taken_by = refl; off_files = refl }

pub remove_of_window : (unique node range : ℕ) → IsOfWindow (message unique node (remove_request range))
unfolding is_data is_on_file
remove_of_window unique node range = record { taken_by = refl; off_files = refl }

whole_range : (pages range : ℕ) → range_pages * (range + 1) ≤ pages → is_whole pages (range_size * range) range_size ≡ true
unfolding is_whole
whole_range pages range within = grind (arith, common_steps, within)

aligned_chunk : (chunk : ℕ) → (range_size * chunk % page_size == 0) ≡ true
aligned_chunk chunk = grind (arith, common_steps)

-- what a daemon's window and board must allow
pub record CanSetup (w : World) (file chunk range : ℕ) (mode : Mode) : Type 0 where
  pub fh : ℕ
  pub handle : HasOpenFile w.state (file + 2) fh
  pub small : chunk < 32
  pub within : range_pages * (range + 1) ≤ w.state.pages
  pub may : may_set w.map (chunk_span file chunk range mode) ≡ true

pub setup_succeeds : (w : World) (file chunk range : ℕ) (mode : Mode) → CanSetup w file chunk range mode → Succeeds w (file + 2) (setup_request chunk range mode) replies.Done (record w { map = painted w.map (chunk_span file chunk range mode) })
unfolding answered setup setup_flags is_init is_forget kind_of reply_form form_of is_reply reply_parts FitsParts
setup_succeeds w file chunk range modes.R can =
    let known = is_known-open w.state (file + 2) can.fh can.handle in
    let on = is_file w.state (file + 2) can.handle.made in
    let past : nat_lt max_file (range_size * chunk + range_size) ≡ false = le-ltb _ _ (omega (arith, can.small)) in
    record {
      may_ask = rw can.handle.started refl;
      has_reply = refl;
      gives = rw (known, on, past, aligned_chunk chunk, whole_range w.state.pages range can.within, can.may) refl;
      good = refl;
      formed = refl;
      fits = tt;
    }
setup_succeeds w file chunk range modes.W can =
    let known = is_known-open w.state (file + 2) can.fh can.handle in
    let on = is_file w.state (file + 2) can.handle.made in
    let past : nat_lt max_file (range_size * chunk + range_size) ≡ false = le-ltb _ _ (omega (arith, can.small)) in
    record {
      may_ask = rw can.handle.started refl;
      has_reply = refl;
      gives = rw (known, on, past, aligned_chunk chunk, whole_range w.state.pages range can.within, can.may) refl;
      good = refl;
      formed = refl;
      fits = tt;
    }

pub record CanRemove (w : World) (range : ℕ) : Type 0 where
  pub started : w.state.started ≡ true
  pub within : range_pages * (range + 1) ≤ w.state.pages
  pub may : may_clear w.map (range_size * range) range_size ≡ true

pub remove_succeeds : (w : World) (node range : ℕ) → CanRemove w range → Succeeds w node (remove_request range) replies.Done (record w { map = wiped w.map (range_size * range) range_size })
unfolding answered remove is_init is_forget kind_of reply_form form_of is_reply reply_parts FitsParts
remove_succeeds w node range can = record {
  may_ask = rw can.started refl;
  has_reply = refl;
  gives = rw (whole_range w.state.pages range can.within, can.may) refl;
  good = refl;
  formed = refl;
  fits = tt;
}

pub may_clear-moved : (v : MapView) (range : ℕ) → v.hands.moves ≡ Some range → may_clear v (range_size * range) range_size ≡ true
unfolding may_clear is_moved
may_clear-moved v range e = rw e (grind (arith, common_steps))

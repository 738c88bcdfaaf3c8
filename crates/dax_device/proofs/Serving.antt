-- What stays true of the device that serves a stream.
use Rattle.std.proofs.Common.{◌≡◌, ◌<◌, ◌≤◌, arith, ℕ, true, IsTrue, List, [], length, length-set, get_or, set, replicate, Result, Ok, Err, OnOk, OnErr, inl, inr}
use Rattle.std.proofs.lemmas.Bool.{cases_eq}
use Rattle.std.proofs.lemmas.List.{length-replicate, get_or-set_same, get_or-set_other}
use Rattle.fuse_device.specs.Promises.{world}
use Rattle.fuse_device.specs.State.{State, World, new_state}
use Rattle.fuse_device.specs.Steps.{device_step}
use Rattle.fuse_device.proofs.Mapped.{NamesFiles-device_step}
use Rattle.page_map.proofs.Names.{NamesFiles-new_map}
use Rattle.page_map.specs.Board.{NamesFiles}
use Rattle.fuse_device.proofs.Servable.{IsServable-device_step, servable_at_start}
use Rattle.page_map.specs.Board.{MapView}
use Rattle.page_map.specs.Plain.{new_map}
use Rattle.plain_file.specs.Board.{BoardView, FileView, IsReady, applied, entry_of, file_at, no_file, with_own}
use Rattle.plain_file.specs.Plain.{new_board}
use Rattle.plain_file.specs.declared.operations.First.{First}
use Rattle.plain_file.specs.declared.operations.Op.{Op}
use Rattle.plain_file.specs.declared.refusals.Memory.{Memory}
use Rattle.window_access.specs.Access.{Stores}
use Rattle.window_access.specs.declared.refusals.WindowRefusal.{WindowRefusal}
use Rattle.window_access.proofs.Names.{kept_by_store}
use Rattle.dax_device.specs.Devices.{IsServing, empty_file, first_world}

pub serving_at_start : (pages : ℕ) → IsServing (first_world pages)
serving_at_start pages = record {
  servable = servable_at_start 0 pages [] (replicate 16 empty_file) (omega arith) (rw (length-replicate 16 empty_file) (omega arith));
  names = NamesFiles-new_map 0 pages;
}

-- the same, where its parts are known by equations
pub serving_new : (s : State) (files : BoardView) (m : MapView) (pages : ℕ) (names : List (List ℕ)) (firsts : List First) → names ≡ [] → firsts ≡ replicate 16 empty_file →
    s ≡ new_state pages names → files ≡ new_board 0 firsts → m ≡ new_map pages → IsServing (world s files m)
serving_new s files m pages names firsts none all es ef em = rw (es, ef, em, none, all) (serving_at_start pages)

-- a chain keeps it
pub serving_after_chain : (old new : World) (readable : List ℕ) (room : ℕ) (r : Result (Unit {0}) Memory) → OnOk r (new ≡ (device_step old readable room).0) → OnErr r (new ≡ old) → IsServing old → IsServing new
serving_after_chain old new readable room (Ok reply) step memory h = rw step (record {
  servable = IsServable-device_step old readable room h.servable;
  names = NamesFiles-device_step old readable room h.servable h.names;
})
serving_after_chain old new readable room (Err e) step memory h = rw memory h

-- what is mapped are files of the board
pub names_of_board : (w : World) → IsServing w → NamesFiles (length w.files.files) w.map
names_of_board w h page p at =
    let both = h.names page p at in
    (both.0, omega (arith, both.1, h.servable.few, h.servable.enough))

-- ---- stores

-- one place of a list is changed, and what holds at each place still does
everywhere-set : {A : Type 0} (P : A → Type 0) (xs : List A) (i : ℕ) (x d : A) → P x → ((k : ℕ) → k < length xs → P (get_or xs k d))
    → (k : ℕ) → k < length (set xs i x) → P (get_or (set xs i x) k d)
everywhere-set P xs i x d one all k within =
    let inside : k < length xs = rw (length-set xs i x) at within in
    elim (cases_eq k i) [
      | inl same ↦ rw (same, get_or-set_same xs i x d (rw same at inside)) one
      | inr other ↦ rw (get_or-set_other xs i k x d other) (all k inside)
    ]

-- what a device needs of its files
record IsServed (v : BoardView) : Type 0 where
  pub plain : v.plain ≡ true
  pub enough : 16 ≤ length v.files
  pub ready : (file : ℕ) → file < length v.files → IsReady v file

served_applied : (v : BoardView) (file : ℕ) (op : Op) → IsServed v → IsServed (applied v file op)
served_applied v file op h = record {
  plain = h.plain;
  enough = rw (length-set v.files file (with_own v.plain (entry_of v op) (file_at v file))) h.enough;
  ready = everywhere-set (λ (f : FileView). IsTrue f.ready) v.files file (with_own v.plain (entry_of v op) (file_at v file)) no_file h.plain h.ready;
}

-- a store keeps it
pub serving_after_store : (s : State) (old new : BoardView) (m : MapView) (moffset : ℕ) (bytes : List ℕ) (r : Result (Unit {0}) WindowRefusal) → IsServing (world s old m) → Stores old m moffset bytes r new → IsServing (world s new m)
serving_after_store s old new m moffset bytes r h stores =
    let served = kept_by_store IsServed served_applied old new m moffset bytes r stores (record { plain = h.servable.plain; enough = h.servable.enough; ready = h.servable.ready }) in
    record {
      servable = record {
        plain = served.plain;
        enough = served.enough;
        ready = served.ready;
        few = h.servable.few;
        free = h.servable.free;
        pages = h.servable.pages;
      };
      names = h.names;
    }

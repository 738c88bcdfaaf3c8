-- A device at its start, and what stays true of it.
use Rattle.std.specs.Prelude.{ℕ, [], length, replicate}
use Rattle.fuse_device.specs.Promises.{IsServable, world}
use Rattle.fuse_device.specs.State.{World, new_state}
use Rattle.page_map.specs.Plain.{new_map}
use Rattle.page_map.specs.Board.{NamesFiles}
use Rattle.plain_file.specs.Plain.{new_board}
use Rattle.plain_file.specs.declared.operations.First.{First}

-- a file of no bytes
abbrev pub empty_file : First
empty_file = record { size = 0; fill = 0 }

-- the device at its start: no file is made, 16 can be, and nothing is mapped in a window of so many pages
abbrev pub first_world : ℕ → World
first_world pages = world (new_state pages []) (new_board 0 (replicate 16 empty_file)) (new_map pages)

-- what stays true of it: any request can be served, and what is mapped are files that were made
pub record IsServing (w : World) : Type 0 where
  pub servable : IsServable w
  pub names : NamesFiles (length w.state.made) w.map

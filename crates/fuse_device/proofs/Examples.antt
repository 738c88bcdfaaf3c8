-- Small examples whose answers are known: whole chains with their bytes, and runs of requests.
use Rattle.std.proofs.Common.{◌≡◌, refl, ℕ, ◌-◌, List, [], ◌∷◌, ◌++◌, length, map, replicate, false, Option, Some, None}
use Rattle.std.specs.Prelude.{Ok, Err, slice_index, codes, option_map}
use Rattle.plain_file.specs.Plain.{plain_board, first_mark, no_hands, new_file}
use Rattle.plain_file.specs.Board.{BoardView, FileView, file_at, is_file, file_may_apply, file_answer, bytes_now}
use Rattle.plain_file.specs.File.{answer, after}
use Rattle.plain_file.specs.History.{bytes, after_all}
use Rattle.page_map.specs.Board.{mapped_byte, is_whole, is_moved, placed_in, may_set, may_clear}
use Rattle.page_map.specs.Plain.{new_map}
use Rattle.page_map.specs.declared.pages.Page.{Page}
use Rattle.fuse_wire.specs.Errno.{errno_number}
use Rattle.fuse_wire.specs.Records.{out_header, read_in_of, write_in_of, write_out}
use Rattle.fuse_wire.specs.Attributes.{attr_rec, attr_out, entry_out, getattr_in_of, setattr_in_of}
use Rattle.fuse_wire.specs.Opens.{open_in_of, open_out, create_in_of, release_in_of}
use Rattle.fuse_wire.specs.Inits.{init_in_of, init_out}
use Rattle.fuse_wire.specs.Forgets.{forget_in_of}
use Rattle.fuse_wire.specs.Mappings.{setup_in_of}
use Rattle.fuse_wire.specs.declared.errno.Errno.TheVariants.{ENOENT, EBUSY, EINVAL, EFBIG}
use Rattle.fuse_codec.specs.Dirents.{dirent_head, dirent_parts, entry_len, fitting}
use Rattle.fuse_codec.specs.Grammar.{kind_of, asked, form_room}
use Rattle.fuse_codec.specs.Opcodes.{number, opcode_of, reply_form}
use Rattle.fuse_codec.specs.Reading.{message_of, message_after, body_of, remove_of, remove_with, records_at}
use Rattle.fuse_codec.specs.Replies.{reply_parts, error_of}
use Rattle.fuse_codec.specs.declared.messages.Message.{Message}
use Rattle.fuse_codec.specs.declared.messages.Request.{Request}
use Rattle.fuse_codec.specs.declared.messages.Request.TheVariants as asks
use Rattle.fuse_codec.specs.declared.replies.Reply.TheVariants as gives
use Rattle.fuse_device.specs.State.{World, new_state, begun, is_made, named}
use Rattle.fuse_device.specs.Checks.{Outcome, is_known, is_handle, may_open}
use Rattle.fuse_device.specs.Entries.{dir_attr, file_attr, attr_with, attr_out_of, entries}
use Rattle.fuse_device.specs.Requests.{bytes_reply, size_in, init, destroy, getattr, setattr, open_file, open_dir, release, release_dir, sync, fallocate, read, write, lookup, unlink, create, forget, batch_forget, read_dir, setup, remove, answered, is_init, is_forget, served}
use Rattle.fuse_device.specs.Steps.{Step, device_step, errno_of, reply_to, judged_message}

-- ---- devices to begin with

-- a file of so many equal bytes on a plain board
abbrev file_of : ℕ → ℕ → FileView
file_of size fill = new_file (record { size = size; fill = fill })

-- a plain board of files
abbrev files_of : List FileView → BoardView
files_of files = plain_board 0 first_mark (no_hands (length files)) files

-- a started device with a window of so many pages, files of these names, and a board
abbrev world_of : ℕ → List (List ℕ) → List FileView → World
world_of pages names files = record { state = begun (new_state pages names); files = files_of files; map = new_map pages }

-- a step and an answer, with all that they are made of
steps : World → List ℕ → ℕ → Step
unfolding device_step errno_of reply_to judged_message served answered is_init is_forget init destroy getattr setattr open_file open_dir release release_dir sync fallocate read write lookup unlink create forget batch_forget read_dir setup remove bytes_reply size_in dir_attr file_attr entries is_known is_handle may_open is_made named message_of message_after body_of remove_of remove_with records_at opcode_of number reply_form kind_of asked form_room reply_parts error_of dirent_head dirent_parts entry_len fitting errno_number out_header attr_rec attr_out entry_out open_out init_out write_out init_in_of forget_in_of getattr_in_of setattr_in_of setup_in_of read_in_of write_in_of open_in_of create_in_of release_in_of is_whole may_set may_clear is_moved placed_in is_file file_may_apply file_answer bytes_now bytes after_all answer after
steps = device_step

answers : World → Message → Outcome
unfolding steps
answers = served

-- the device and its boards after requests, one after another
run : World → List Message → World
unfolding steps
run w [] = w
run w (m ∷ ms) = run (served w m).1 ms

-- a request about a node
abbrev ask : ℕ → Request → Message
ask node body = record { head = record { unique = 1; nodeid = node; uid = 0; gid = 0; pid = 0 }; body = body }

-- ---- whole chains

-- node 2 is a file, the window has 2,048 pages
abbrev large_window : World
large_window = world_of 2048 (codes "a" ∷ []) (file_of 0 0 ∷ [])

-- SETUPMAPPING of 2,097,152 bytes at 2,097,152 of the file to 4,194,304 of the window
maps_two_mebibytes : (steps large_window (0x50 ∷ 0x00 ∷ 0x00 ∷ 0x00 ∷ 0x30 ∷ 0x00 ∷ 0x00 ∷ 0x00 ∷ 0x07 ∷ 0x00 ∷ 0x00 ∷ 0x00 ∷ 0x00 ∷ 0x00 ∷ 0x00 ∷ 0x00 ∷ 0x02 ∷ 0x00 ∷ 0x00 ∷ 0x00 ∷ 0x00 ∷ 0x00 ∷ 0x00 ∷ 0x00 ∷ 0x00 ∷ 0x00 ∷ 0x00 ∷ 0x00 ∷ 0x00 ∷ 0x00 ∷ 0x00 ∷ 0x00 ∷ 0x00 ∷ 0x00 ∷ 0x00 ∷ 0x00 ∷ 0x00 ∷ 0x00 ∷ 0x00 ∷ 0x00 ∷ 0xff ∷ 0xff ∷ 0xff ∷ 0xff ∷ 0xff ∷ 0xff ∷ 0xff ∷ 0xff ∷ 0x00 ∷ 0x00 ∷ 0x20 ∷ 0x00 ∷ 0x00 ∷ 0x00 ∷ 0x00 ∷ 0x00 ∷ 0x00 ∷ 0x00 ∷ 0x20 ∷ 0x00 ∷ 0x00 ∷ 0x00 ∷ 0x00 ∷ 0x00 ∷ 0x03 ∷ 0x00 ∷ 0x00 ∷ 0x00 ∷ 0x00 ∷ 0x00 ∷ 0x00 ∷ 0x00 ∷ 0x00 ∷ 0x00 ∷ 0x40 ∷ 0x00 ∷ 0x00 ∷ 0x00 ∷ 0x00 ∷ 0x00 ∷ []) 16).1 ≡ 0x10 ∷ 0x00 ∷ 0x00 ∷ 0x00 ∷ 0x00 ∷ 0x00 ∷ 0x00 ∷ 0x00 ∷ 0x07 ∷ 0x00 ∷ 0x00 ∷ 0x00 ∷ 0x00 ∷ 0x00 ∷ 0x00 ∷ 0x00 ∷ []
unfolding steps
maps_two_mebibytes = refl

-- the same one page past the window: EINVAL, and nothing is mapped
past_the_window : steps large_window (0x50 ∷ 0x00 ∷ 0x00 ∷ 0x00 ∷ 0x30 ∷ 0x00 ∷ 0x00 ∷ 0x00 ∷ 0x07 ∷ 0x00 ∷ 0x00 ∷ 0x00 ∷ 0x00 ∷ 0x00 ∷ 0x00 ∷ 0x00 ∷ 0x02 ∷ 0x00 ∷ 0x00 ∷ 0x00 ∷ 0x00 ∷ 0x00 ∷ 0x00 ∷ 0x00 ∷ 0x00 ∷ 0x00 ∷ 0x00 ∷ 0x00 ∷ 0x00 ∷ 0x00 ∷ 0x00 ∷ 0x00 ∷ 0x00 ∷ 0x00 ∷ 0x00 ∷ 0x00 ∷ 0x00 ∷ 0x00 ∷ 0x00 ∷ 0x00 ∷ 0xff ∷ 0xff ∷ 0xff ∷ 0xff ∷ 0xff ∷ 0xff ∷ 0xff ∷ 0xff ∷ 0x00 ∷ 0x00 ∷ 0x20 ∷ 0x00 ∷ 0x00 ∷ 0x00 ∷ 0x00 ∷ 0x00 ∷ 0x00 ∷ 0x00 ∷ 0x20 ∷ 0x00 ∷ 0x00 ∷ 0x00 ∷ 0x00 ∷ 0x00 ∷ 0x03 ∷ 0x00 ∷ 0x00 ∷ 0x00 ∷ 0x00 ∷ 0x00 ∷ 0x00 ∷ 0x00 ∷ 0x00 ∷ 0x10 ∷ 0x60 ∷ 0x00 ∷ 0x00 ∷ 0x00 ∷ 0x00 ∷ 0x00 ∷ []) 16 ≡ (large_window, 0x10 ∷ 0x00 ∷ 0x00 ∷ 0x00 ∷ 0xea ∷ 0xff ∷ 0xff ∷ 0xff ∷ 0x07 ∷ 0x00 ∷ 0x00 ∷ 0x00 ∷ 0x00 ∷ 0x00 ∷ 0x00 ∷ 0x00 ∷ [])
unfolding steps
past_the_window = refl

-- a readable part of 39 bytes has no answer
no_header : steps large_window (replicate 39 0) 16 ≡ (large_window, [])
unfolding steps
no_header = refl

-- a header that says 41 bytes of 40: EINVAL
wrong_length : steps large_window (0x29 ∷ 0x00 ∷ 0x00 ∷ 0x00 ∷ 0x1a ∷ 0x00 ∷ 0x00 ∷ 0x00 ∷ 0x01 ∷ 0x00 ∷ 0x00 ∷ 0x00 ∷ 0x00 ∷ 0x00 ∷ 0x00 ∷ 0x00 ∷ 0x00 ∷ 0x00 ∷ 0x00 ∷ 0x00 ∷ 0x00 ∷ 0x00 ∷ 0x00 ∷ 0x00 ∷ 0x00 ∷ 0x00 ∷ 0x00 ∷ 0x00 ∷ 0x00 ∷ 0x00 ∷ 0x00 ∷ 0x00 ∷ 0x00 ∷ 0x00 ∷ 0x00 ∷ 0x00 ∷ 0x00 ∷ 0x00 ∷ 0x00 ∷ 0x00 ∷ []) 16 ≡ (large_window, 0x10 ∷ 0x00 ∷ 0x00 ∷ 0x00 ∷ 0xea ∷ 0xff ∷ 0xff ∷ 0xff ∷ 0x01 ∷ 0x00 ∷ 0x00 ∷ 0x00 ∷ 0x00 ∷ 0x00 ∷ 0x00 ∷ 0x00 ∷ [])
unfolding steps
wrong_length = refl

-- opcode 17: ENOSYS
no_such_opcode : steps large_window (0x28 ∷ 0x00 ∷ 0x00 ∷ 0x00 ∷ 0x11 ∷ 0x00 ∷ 0x00 ∷ 0x00 ∷ 0x02 ∷ 0x00 ∷ 0x00 ∷ 0x00 ∷ 0x00 ∷ 0x00 ∷ 0x00 ∷ 0x00 ∷ 0x00 ∷ 0x00 ∷ 0x00 ∷ 0x00 ∷ 0x00 ∷ 0x00 ∷ 0x00 ∷ 0x00 ∷ 0x00 ∷ 0x00 ∷ 0x00 ∷ 0x00 ∷ 0x00 ∷ 0x00 ∷ 0x00 ∷ 0x00 ∷ 0x00 ∷ 0x00 ∷ 0x00 ∷ 0x00 ∷ 0x00 ∷ 0x00 ∷ 0x00 ∷ 0x00 ∷ []) 16 ≡ (large_window, 0x10 ∷ 0x00 ∷ 0x00 ∷ 0x00 ∷ 0xda ∷ 0xff ∷ 0xff ∷ 0xff ∷ 0x02 ∷ 0x00 ∷ 0x00 ∷ 0x00 ∷ 0x00 ∷ 0x00 ∷ 0x00 ∷ 0x00 ∷ [])
unfolding steps
no_such_opcode = refl

-- a REMOVEMAPPING that says 2 intervals and has one: EINVAL
too_few_intervals : steps large_window (0x3c ∷ 0x00 ∷ 0x00 ∷ 0x00 ∷ 0x31 ∷ 0x00 ∷ 0x00 ∷ 0x00 ∷ 0x02 ∷ 0x00 ∷ 0x00 ∷ 0x00 ∷ 0x00 ∷ 0x00 ∷ 0x00 ∷ 0x00 ∷ 0x00 ∷ 0x00 ∷ 0x00 ∷ 0x00 ∷ 0x00 ∷ 0x00 ∷ 0x00 ∷ 0x00 ∷ 0x00 ∷ 0x00 ∷ 0x00 ∷ 0x00 ∷ 0x00 ∷ 0x00 ∷ 0x00 ∷ 0x00 ∷ 0x00 ∷ 0x00 ∷ 0x00 ∷ 0x00 ∷ 0x00 ∷ 0x00 ∷ 0x00 ∷ 0x00 ∷ 0x02 ∷ 0x00 ∷ 0x00 ∷ 0x00 ∷ 0x00 ∷ 0x00 ∷ 0x00 ∷ 0x00 ∷ 0x00 ∷ 0x00 ∷ 0x00 ∷ 0x00 ∷ 0x00 ∷ 0x00 ∷ 0x00 ∷ 0x00 ∷ 0x00 ∷ 0x00 ∷ 0x00 ∷ 0x00 ∷ []) 16 ≡ (large_window, 0x10 ∷ 0x00 ∷ 0x00 ∷ 0x00 ∷ 0xea ∷ 0xff ∷ 0xff ∷ 0xff ∷ 0x02 ∷ 0x00 ∷ 0x00 ∷ 0x00 ∷ 0x00 ∷ 0x00 ∷ 0x00 ∷ 0x00 ∷ [])
unfolding steps
too_few_intervals = refl

-- a REMOVEMAPPING of nothing is done
no_intervals : steps large_window (0x2c ∷ 0x00 ∷ 0x00 ∷ 0x00 ∷ 0x31 ∷ 0x00 ∷ 0x00 ∷ 0x00 ∷ 0x02 ∷ 0x00 ∷ 0x00 ∷ 0x00 ∷ 0x00 ∷ 0x00 ∷ 0x00 ∷ 0x00 ∷ 0x00 ∷ 0x00 ∷ 0x00 ∷ 0x00 ∷ 0x00 ∷ 0x00 ∷ 0x00 ∷ 0x00 ∷ 0x00 ∷ 0x00 ∷ 0x00 ∷ 0x00 ∷ 0x00 ∷ 0x00 ∷ 0x00 ∷ 0x00 ∷ 0x00 ∷ 0x00 ∷ 0x00 ∷ 0x00 ∷ 0x00 ∷ 0x00 ∷ 0x00 ∷ 0x00 ∷ 0x00 ∷ 0x00 ∷ 0x00 ∷ 0x00 ∷ []) 16 ≡ (large_window, 0x10 ∷ 0x00 ∷ 0x00 ∷ 0x00 ∷ 0x00 ∷ 0x00 ∷ 0x00 ∷ 0x00 ∷ 0x02 ∷ 0x00 ∷ 0x00 ∷ 0x00 ∷ 0x00 ∷ 0x00 ∷ 0x00 ∷ 0x00 ∷ [])
unfolding steps
no_intervals = refl

-- a device on which no session was started
abbrev new_world : World
new_world = record { state = new_state 1024 []; files = files_of []; map = new_map 1024 }

-- INIT with direct access asked for
begins_a_session : steps new_world (0x38 ∷ 0x00 ∷ 0x00 ∷ 0x00 ∷ 0x1a ∷ 0x00 ∷ 0x00 ∷ 0x00 ∷ 0x01 ∷ 0x00 ∷ 0x00 ∷ 0x00 ∷ 0x00 ∷ 0x00 ∷ 0x00 ∷ 0x00 ∷ 0x00 ∷ 0x00 ∷ 0x00 ∷ 0x00 ∷ 0x00 ∷ 0x00 ∷ 0x00 ∷ 0x00 ∷ 0x00 ∷ 0x00 ∷ 0x00 ∷ 0x00 ∷ 0x00 ∷ 0x00 ∷ 0x00 ∷ 0x00 ∷ 0x00 ∷ 0x00 ∷ 0x00 ∷ 0x00 ∷ 0x00 ∷ 0x00 ∷ 0x00 ∷ 0x00 ∷ 0x07 ∷ 0x00 ∷ 0x00 ∷ 0x00 ∷ 0x1f ∷ 0x00 ∷ 0x00 ∷ 0x00 ∷ 0x00 ∷ 0x00 ∷ 0x02 ∷ 0x00 ∷ 0x00 ∷ 0x00 ∷ 0x00 ∷ 0x04 ∷ []) 80 ≡ (record new_world { state = begun new_world.state }, 0x50 ∷ 0x00 ∷ 0x00 ∷ 0x00 ∷ 0x00 ∷ 0x00 ∷ 0x00 ∷ 0x00 ∷ 0x01 ∷ 0x00 ∷ 0x00 ∷ 0x00 ∷ 0x00 ∷ 0x00 ∷ 0x00 ∷ 0x00 ∷ 0x07 ∷ 0x00 ∷ 0x00 ∷ 0x00 ∷ 0x1f ∷ 0x00 ∷ 0x00 ∷ 0x00 ∷ 0x00 ∷ 0x00 ∷ 0x02 ∷ 0x00 ∷ 0x00 ∷ 0x00 ∷ 0x00 ∷ 0x04 ∷ 0x10 ∷ 0x00 ∷ 0x0c ∷ 0x00 ∷ 0x00 ∷ 0x00 ∷ 0x10 ∷ 0x00 ∷ 0x01 ∷ 0x00 ∷ 0x00 ∷ 0x00 ∷ 0x00 ∷ 0x00 ∷ 0x0c ∷ 0x00 ∷ 0x00 ∷ 0x00 ∷ 0x00 ∷ 0x00 ∷ replicate 28 0)
unfolding steps
begins_a_session = refl

-- ---- a file that is forgotten

abbrev empty_directory : World
empty_directory = world_of 0 [] (file_of 0 0 ∷ file_of 0 0 ∷ [])

-- made and opened by CREATE, then without a name and closed
abbrev made_and_unlinked : List Message
made_and_unlinked =
    ask 1 (asks.Create (record { flags = 0; mode = 0; umask = 0; open_flags = 0 }) (codes "a"))
    ∷ ask 1 (asks.Unlink (codes "a"))
    ∷ ask 2 (asks.Release (record { fh = 1; flags = 0; release_flags = 0; lock_owner = 0 })) ∷ []

abbrev asks_attributes : Message
asks_attributes = ask 2 (asks.Getattr (record { getattr_flags = 0; fh = 0 }))

-- its lookup keeps it known
still_known : (answers (run empty_directory made_and_unlinked) asks_attributes).0 ≡ Ok (gives.Attr (attr_out_of (attr_with 2 0 33188 0)))
unfolding run answers
still_known = refl

-- a FORGET of one lookup has no answer, and the node is known no more
forgotten_now : ((steps (run empty_directory made_and_unlinked) (0x30 ∷ 0x00 ∷ 0x00 ∷ 0x00 ∷ 0x02 ∷ 0x00 ∷ 0x00 ∷ 0x00 ∷ 0x09 ∷ 0x00 ∷ 0x00 ∷ 0x00 ∷ 0x00 ∷ 0x00 ∷ 0x00 ∷ 0x00 ∷ 0x02 ∷ 0x00 ∷ 0x00 ∷ 0x00 ∷ 0x00 ∷ 0x00 ∷ 0x00 ∷ 0x00 ∷ 0x00 ∷ 0x00 ∷ 0x00 ∷ 0x00 ∷ 0x00 ∷ 0x00 ∷ 0x00 ∷ 0x00 ∷ 0x00 ∷ 0x00 ∷ 0x00 ∷ 0x00 ∷ 0x00 ∷ 0x00 ∷ 0x00 ∷ 0x00 ∷ 0x01 ∷ 0x00 ∷ 0x00 ∷ 0x00 ∷ 0x00 ∷ 0x00 ∷ 0x00 ∷ 0x00 ∷ []) 0).1 ≡ []) × ((answers (steps (run empty_directory made_and_unlinked) (0x30 ∷ 0x00 ∷ 0x00 ∷ 0x00 ∷ 0x02 ∷ 0x00 ∷ 0x00 ∷ 0x00 ∷ 0x09 ∷ 0x00 ∷ 0x00 ∷ 0x00 ∷ 0x00 ∷ 0x00 ∷ 0x00 ∷ 0x00 ∷ 0x02 ∷ 0x00 ∷ 0x00 ∷ 0x00 ∷ 0x00 ∷ 0x00 ∷ 0x00 ∷ 0x00 ∷ 0x00 ∷ 0x00 ∷ 0x00 ∷ 0x00 ∷ 0x00 ∷ 0x00 ∷ 0x00 ∷ 0x00 ∷ 0x00 ∷ 0x00 ∷ 0x00 ∷ 0x00 ∷ 0x00 ∷ 0x00 ∷ 0x00 ∷ 0x00 ∷ 0x01 ∷ 0x00 ∷ 0x00 ∷ 0x00 ∷ 0x00 ∷ 0x00 ∷ 0x00 ∷ 0x00 ∷ []) 0).0 asks_attributes).0 ≡ Err ENOENT)
unfolding run answers
forgotten_now = (refl, refl)

-- ---- two mappings over one another

-- two files of 8,192 bytes: 0xaa and 0xbb
abbrev two_files : World
two_files = world_of 1024 (codes "a" ∷ codes "b" ∷ []) (file_of 8192 0xaa ∷ file_of 8192 0xbb ∷ [])

-- the start of a file is mapped for reading and writing
abbrev maps_start : ℕ → ℕ → ℕ → Message
maps_start node moffset len = ask node (asks.Setup (record { fh = 18446744073709551615; foffset = 0; len = len; flags = 3; moffset = moffset }))

abbrev both_mapped : List Message
both_mapped = maps_start 2 0 8192 ∷ maps_start 3 4096 4096 ∷ []

abbrev second_unmapped : List Message
second_unmapped = both_mapped ++ ask 0 (asks.Remove (record { moffset = 4096; len = 4096 } ∷ [])) ∷ []

-- a byte of the file that is mapped
abbrev byte_at : World → Page → ℕ
byte_at w p = slice_index (bytes_now (file_at w.files (p.node - 2))) p.foffset

-- what is seen at a byte of the window
abbrev seen_at : World → ℕ → Option ℕ
seen_at w moffset = option_map (byte_at w) (mapped_byte w.map moffset)

abbrev over_the_seam : World → List (Option ℕ)
over_the_seam w = map (seen_at w) (4094 ∷ 4095 ∷ 4096 ∷ 4097 ∷ [])

-- the newer mapping shows; once it is removed, the older one is not seen again
newer_mapping_shows : (over_the_seam (run two_files both_mapped) ≡ Some 0xaa ∷ Some 0xaa ∷ Some 0xbb ∷ Some 0xbb ∷ []) × (over_the_seam (run two_files second_unmapped) ≡ Some 0xaa ∷ Some 0xaa ∷ None ∷ None ∷ [])
unfolding run
newer_mapping_shows = (refl, refl)

-- ---- the directory

abbrev creates : List ℕ → ℕ → Message
creates name flags = ask 1 (asks.Create (record { flags = flags; mode = 0; umask = 0; open_flags = 0 }) name)

-- "b" has node 2 and "ac" node 3; the directory's handle is 3
abbrev two_names : List Message
two_names = creates (codes "b") 0 ∷ creates (codes "ac") 0 ∷ ask 1 (asks.OpenDir (record { flags = 0; open_flags = 0 })) ∷ []

abbrev lists : ℕ → ℕ → Message
lists offset size = ask 1 (asks.ReadDir (record { fh = 3; offset = offset; size = size; read_flags = 0; lock_owner = 0; flags = 0 }))

-- of two entries of 32 bytes one fits 63
first_name : (answers (run empty_directory two_names) (lists 0 63)).0 ≡ Ok (gives.Bytes (3 ∷ replicate 7 0 ++ 1 ∷ replicate 7 0 ++ 2 ∷ 0 ∷ 0 ∷ 0 ∷ 8 ∷ 0 ∷ 0 ∷ 0 ∷ 0x61 ∷ 0x63 ∷ replicate 6 0))
unfolding run answers
first_name = refl

-- ---- boards that have nothing in hand

-- a device over shared boards of which the turns alone are had: no bar, no tree, and no range that is moved
abbrev with_nothing_in_hand : World → World
with_nothing_in_hand w = record w { files = record w.files { plain = false }; map = record w.map { plain = false } }

abbrev without_hands : World
without_hands = with_nothing_in_hand (world_of 1024 (codes "a" ∷ []) (file_of 1 0 ∷ []))

-- a new size
abbrev resizes_to : ℕ → Message
resizes_to size = ask 2 (asks.Setattr (record { valid = 8; fh = 0; size = size; lock_owner = 0; atime = 0; mtime = 0; ctime = 0; atimensec = 0; mtimensec = 0; ctimensec = 0; mode = 0; uid = 0; gid = 0 }))

-- the start of a file is mapped, as these flags say
abbrev maps_as : ℕ → Message
maps_as flags = ask 2 (asks.Setup (record { fh = 18446744073709551615; foffset = 0; len = 4096; flags = flags; moffset = 0 }))

-- an interval of this length is unmapped
abbrev unmaps : ℕ → Message
unmaps len = ask 0 (asks.Remove (record { moffset = 0; len = len } ∷ []))

-- what such boards don't allow is EBUSY, after all other checks
allowed_last : ((answers without_hands (resizes_to 67108865)).0 ≡ Err EFBIG) × ((answers without_hands (resizes_to 0)).0 ≡ Err EBUSY) × ((answers without_hands (maps_as 4)).0 ≡ Err EINVAL) × ((answers without_hands (maps_as 3)).0 ≡ Err EBUSY) × ((answers without_hands (unmaps 1)).0 ≡ Err EINVAL) × ((answers without_hands (unmaps 4096)).0 ≡ Err EBUSY)
unfolding answers
allowed_last = (refl, refl, refl, refl, refl, refl)

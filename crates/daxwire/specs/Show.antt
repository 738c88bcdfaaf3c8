-- What `show` writes: one line for each whole frame, and one for how the stream ends.
use Rattle.std.specs.Prelude.{ℕ, ◌+◌, ◌*◌, List, [], ◌++◌, drop, codes, Result, Ok, Err}
use Rattle.std.specs.List.{flat_map}
use Rattle.fuse_codec.specs.declared.messages.Message.{Message}
use Rattle.fuse_codec.specs.declared.errors.BadRequest.{BadRequest}
use Rattle.fuse_codec.specs.Reading.{message_of}
use Rattle.fuse_text.specs.FieldText.{field, hex_field}
use Rattle.fuse_text.specs.Lines.{request_line, bad_line}
use Rattle.std.specs.Fmt.{decimal}
use Rattle.chain_stream.specs.declared.frames.Lead.{Lead}
use Rattle.chain_stream.specs.declared.frames.Lead.TheVariants as leads
use Rattle.chain_stream.specs.declared.frames.End.{End}
use Rattle.chain_stream.specs.declared.frames.End.TheVariants as ends
use Rattle.chain_stream.specs.Frames.{Frame, reason_number}

-- the line of what the readable bytes of a chain are
unfoldable pub chain_line : Result Message BadRequest → List ℕ
chain_line (Ok m) = request_line m
chain_line (Err bad) = bad_line bad

-- the line of a frame, with its end
unfoldable pub lead_line : Lead → List ℕ → List ℕ
lead_line (leads.Chain parts readable room) bytes = chain_line (message_of (drop (5 + 4 * parts) bytes)) ++ codes "\n"
lead_line (leads.Load moffset len) bytes = codes "load" ++ field (codes "moffset") moffset ++ field (codes "len") len ++ codes "\n"
lead_line (leads.Store moffset len) bytes = codes "store" ++ field (codes "moffset") moffset ++ hex_field (codes "bytes") (drop 13 bytes) ++ codes "\n"
lead_line (leads.Bad reason) bytes = []
lead_line leads.Cut bytes = []
lead_line leads.Nothing bytes = []

abbrev pub frame_line : Frame → List ℕ
frame_line frame = lead_line frame.lead frame.bytes

-- the lines of frames that come one after another
unfoldable pub frame_lines : List Frame → List ℕ
frame_lines frames = flat_map frame_line frames

-- the last line, where the stream doesn't end after a whole frame
unfoldable pub end_line : End → List ℕ
end_line ends.Ended = []
end_line (ends.Malformed reason at) = codes "malformed " ++ decimal (reason_number reason) ++ codes " at " ++ decimal at ++ codes "\n"
end_line ends.TooLong = codes "too long\n"

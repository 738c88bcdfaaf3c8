-- What a run writes, and when it ends with which status.
use Rattle.std.specs.Prelude.{ℕ, List, codes, Option, Some, None}
use Rattle.std.specs.Io.KnownBytes.{Keeps}
use Rattle.program_io.specs.declared.statuses.Status.{Status}
use Rattle.program_io.specs.declared.statuses.Status.TheVariants as statuses
use Rattle.daxwire.specs.declared.commands.Command.{Command}
use Rattle.daxwire.specs.declared.commands.Command.TheVariants as commands
use Rattle.daxwire.specs.Commands.{command_of}
use Rattle.chain_stream.specs.Courses.{Course, IsCutOff, course_by, course_of, due, status_of}
use Rattle.dax_device.specs.Devices.{first_world}
use Rattle.daxwire.specs.Serve.{fault_output, outputs}
use Rattle.daxwire.specs.AuditText.{texts_due}
use Rattle.daxwire.specs.RingText.{image_due}
use Rattle.daxwire.specs.Wholes.{Due, due_by}
use Rattle.daxwire.specs.Show.{frame_lines, end_line}

abbrev pub usage_line : List ℕ
usage_line = codes "usage: daxwire show | serve | ring | audit\n"

-- what becomes of a stream that is shown
abbrev pub shown : Course
shown = course_of frame_lines

-- the text that is due for an input: a line for each whole frame, and one for an end within a frame or above the limit
abbrev pub show_text : List ℕ → List ℕ
show_text input = due shown end_line input

-- the status that is due for an input
abbrev pub show_status : List ℕ → Status
show_status input = status_of (shown.«end» input)

-- what becomes of a stream that is served
abbrev pub served : Course
served = course_by (λ pages. outputs (first_world pages))

-- the output that is due for an input: an output frame for each whole frame, and one where the stream is malformed
abbrev pub serve_text : List ℕ → List ℕ
serve_text input = due served fault_output input

-- the status that is due for an input
abbrev pub serve_status : List ℕ → Status
serve_status input = status_of (served.«end» input)

-- what is due for a ring image
abbrev pub ring_due : List ℕ → Due
ring_due input = due_by image_due input

-- what is due for a script and a transcript
abbrev pub audit_due : List ℕ → Due
audit_due input = due_by texts_due input

-- the text that is due for an input: the command's, or the usage line where there is none
abbrev pub text_of : Option Command → List ℕ → List ℕ
text_of None input = usage_line
text_of (Some commands.Show) input = show_text input
text_of (Some commands.Serve) input = serve_text input
text_of (Some commands.Ring) input = (ring_due input).text
text_of (Some commands.Audit) input = (audit_due input).text

-- the status that is due for it
abbrev pub status_for : Option Command → List ℕ → Status
status_for None input = statuses.Usage
status_for (Some commands.Show) input = show_status input
status_for (Some commands.Serve) input = serve_status input
status_for (Some commands.Ring) input = (ring_due input).status
status_for (Some commands.Audit) input = (audit_due input).status

-- the text that is due for these words and this input
abbrev pub due_text : List (List ℕ) → List ℕ → List ℕ
due_text words input = text_of (command_of words) input

-- the status that is due for them
abbrev pub due_status : List (List ℕ) → List ℕ → Status
due_status words input = status_for (command_of words) input

-- What a command has written, where the source failed: where it streams, the answers to the frames that were read whole, and else nothing.
abbrev pub IsStopped : Option Command → Option (List ℕ) → Option (List ℕ) → Option (List ℕ) → Option (List ℕ) → Type 0
IsStopped None left left' taken taken' = ⊥
IsStopped (Some commands.Show) left left' taken taken' = IsCutOff shown left left' taken taken'
IsStopped (Some commands.Serve) left left' taken taken' = IsCutOff served left left' taken taken'
IsStopped (Some commands.Ring) left left' taken taken' = Keeps taken taken'
IsStopped (Some commands.Audit) left left' taken taken' = Keeps taken taken'

-- where neither the source nor the sink failed, and memory was found
abbrev pub IfFinished : Status → Type 0 → Type 0
IfFinished statuses.Ok P = P
IfFinished statuses.Refused P = P
IfFinished statuses.Usage P = P
IfFinished statuses.ReadFault P = Unit {0}
IfFinished statuses.WriteFault P = Unit {0}
IfFinished statuses.Memory P = Unit {0}
IfFinished statuses.TooLong P = P
IfFinished statuses.NotLegal P = P

-- What is left when all guests of a run have made their calls.
use Rattle.std.specs.Prelude.{◌≡◌, ℕ, ◌<◌, ◌≤◌, List, [], length, map, slice_get, Some, IsTrue}
use Rattle.std.specs.List.{AllByRecursion}
use Rattle.plain_file.specs.declared.operations.Entry.{Entry}
use Rattle.plain_file.specs.declared.operations.First.{First}
use Rattle.page_map.specs.declared.ranges.LogEntry.{LogEntry}
use Rattle.page_map.specs.Logs.{sound}
use Rattle.file_share.specs.Table.{first_in}
use Rattle.file_share.specs.Known.{first_pass as first_files, mark_of}
use Rattle.range_share.specs.Known.{first_pass as first_ranges}
use Rattle.dax_script.specs.declared.scripts.Call.{Call}
use Rattle.transcript_text.specs.declared.transcripts.GuestPart.{GuestPart}
use Rattle.transcript_text.specs.TranscriptReading.{IsPrintableGuest}
use Rattle.guest_run.specs.Runs.{IsPart}
use Rattle.guest_run.specs.Working.{AllDone, IsFair}
use Rattle.guest_threads.specs.Jobs.{leasers_for}
use Rattle.guest_threads.specs.declared.runs.Tables.{Tables}
use Rattle.guest_threads.specs.declared.tellings.FileTold.{FileTold}

-- The tables were opened for so many guests, on files with these first contents and so many ranges, and their first passes did nothing yet.
pub record AreOpened (firsts : List First) (ranges guests : ℕ) (t : Tables) : Type 0 where
  pub files_pass : t.file_pass ≡ first_files t.files firsts (leasers_for ranges guests)
  pub ranges_pass : t.range_pass ≡ first_ranges t.ranges ranges (length firsts) guests
  pub slots : t.files.slots ≡ length firsts

-- Each guest's part is its run in these histories and logs, from their beginnings on. The logs are sound, and each entry is that of a guest. A guest that has both tables to itself, without a background, is kept from a call by its own holds alone.
pub record HasRun (firsts : List First) (ranges background : ℕ) (guests : List (List Call)) (h : ℕ → List Entry) (logs : ℕ → List LogEntry) (parts : List GuestPart) : Type 0 where
  pub sound_logs : (f : ℕ) → f < length firsts → IsTrue (sound ranges (logs f))
  pub no_more : (f : ℕ) → length firsts ≤ f → logs f ≡ []
  pub count : length parts ≡ length guests
  pub runs : (g : ℕ) (cs : List Call) (part : GuestPart) → slice_get guests g ≡ Some cs → slice_get parts g ≡ Some part → IsPart ranges (first_in firsts) h logs g cs part
  pub known : (f n : ℕ) (e : Entry) → slice_get (h f) n ≡ Some e → e.guest < length guests
  pub fair : background ≡ 0 → length guests ≡ 1 → (g : ℕ) (cs : List Call) (part : GuestPart) → slice_get guests g ≡ Some cs → slice_get parts g ≡ Some part → IsFair ranges logs cs part.lines
  -- without ranges each call is done
  pub done : ranges ≡ 0 → (g : ℕ) (cs : List Call) (part : GuestPart) → slice_get guests g ≡ Some cs → slice_get parts g ≡ Some part → AllDone part.lines
  pub printable : AllByRecursion IsPrintableGuest parts

-- what is told of a file: whose each entry of its history is, and its log
abbrev pub IsFileTold : (ℕ → List Entry) → (ℕ → List LogEntry) → ℕ → FileTold → Type 0
IsFileTold h logs f t = (t.marks ≡ map mark_of (h f)) × (t.log ≡ logs f)

-- that of so many files
abbrev pub AreFilesTold : (ℕ → List Entry) → (ℕ → List LogEntry) → ℕ → List FileTold → Type 0
AreFilesTold h logs n told = (length told ≡ n) × ((f : ℕ) (t : FileTold) → slice_get told f ≡ Some t → IsFileTold h logs f t)

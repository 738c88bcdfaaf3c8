-- What the guests of a team have alike, what a guest's job is before its work and after it, and what the first passes of both tables keep of it.
use Rattle.std.specs.Prelude.{◌≡◌, ◌≢◌, ◌⊎◌, ℕ, zero, suc, ◌*◌, ◌+◌, ◌-◌, ◌^◌, ◌<◌, ◌≤◌, ◌==◌, min, true, IsTrue, List, [], ◌∷◌, ◌++◌, length, slice_get, Some, None, IfSome, if◌then◌else◌}
use Rattle.std.specs.List.{AllByRecursion}
use mathlib.Core.Option.{some}
use lib.ListN.{get_elem?}
use Rattle.seats.specs.Views.{unused, out, back, root, guests as all_numbers, AllIn}
use Rattle.plain_file.specs.declared.operations.Entry.{Entry}
use Rattle.plain_file.specs.declared.operations.First.{First}
use Rattle.plain_file.specs.Board.{Note, file_at}
use Rattle.page_map.specs.Plain.{range_pages}
use Rattle.page_map.specs.Board.{log_at}
use Rattle.page_map.specs.declared.ranges.LogEntry.{LogEntry}
use Rattle.page_map.specs.Logs.{sound}
use Rattle.range_tree.specs.Ranges.{range_count}
use Rattle.files_core.specs.declared.rows.Note.{Note as CoreNote}
use Rattle.files_core.specs.Good.{Within}
use Rattle.files_core.specs.Laws.{Begins}
use Rattle.file_share.specs.Table.{Mine as FilesMine, Refusal, in_list, part, first_in}
use Rattle.file_share.specs.Steps.{Accounted}
use Rattle.file_share.specs.Known.{Known as FilesKnown, IsIdle as FilesIdle, first_pass as first_files, parent_pass as files_parent, child_pass as files_child, past_seen}
use Rattle.file_share.specs.Boards.{board_of as files_board, note_of, refusals_of}
use Rattle.range_share.specs.Table.{Mine as RangesMine, Noted, IsIdle as RangesIdle}
use Rattle.range_share.specs.Steps.{branch_of, ranges_of, files_of}
use Rattle.range_share.specs.Known.{Known as RangesKnown, first_pass as first_ranges, parent_pass as ranges_parent, child_pass as ranges_child}
use Rattle.range_share.specs.Boards.{board_of as ranges_board}
use Rattle.fuse_device.specs.State.{State}
use Rattle.fuse_device.specs.OpenFiles.{HasOpenFile}
use Rattle.guest_wire.specs.declared.driver.FileRef.{FileRef}
use Rattle.guest_dax.specs.Stands.{Stand, stand, ref_at}
use Rattle.guest_io.specs.Requests.{IsHome}
use Rattle.guest_io.specs.Holds.{HasHolds, LeavesRest, no_holds}
use Rattle.dax_script.specs.declared.scripts.Call.{Call}
use Rattle.transcript_text.specs.declared.transcripts.GuestPart.{GuestPart}
use Rattle.transcript_text.specs.declared.transcripts.Numbered.{Numbered}
use Rattle.transcript_text.specs.TranscriptReading.{IsPrintableNumbered}
use Rattle.guest_run.specs.Runs.{IsRunFrom}
use Rattle.guest_run.specs.Working.{IsIdle, TakesAlone, LeasesAlone, AreCalls, AreBarred, AreHeldUp, HasCounted, busy_lines, leased_lines, max_calls, first_at, history_at, notes_at}
use Rattle.dax_host.specs.InTurn.{shared_wire}
use Rattle.dax_host.specs.Host.{host_wire}
use Rattle.guest_threads.specs.declared.jobs.Job.{Job}

-- ---- a team

-- The daemon, the open files, the first passes as they were before any other was split off, and how many guests there are, of which a background counts as one.
pub record Team : Type 0 where
  pub daemon : State
  pub refs : List FileRef
  pub files : FilesKnown
  pub ranges : RangesKnown
  pub guests : ℕ

abbrev pub team : State → List FileRef → FilesKnown → RangesKnown → ℕ → Team
team daemon refs files ranges guests = record { daemon = daemon; refs = refs; files = files; ranges = ranges; guests = guests }

-- The daemon has so many files and ranges, and its session is started. File i is node i + 2, with a handle that is open.
pub record IsServed (s : State) (refs : List FileRef) (files ranges : ℕ) : Type 0 where
  pub refs_of : length refs ≡ files
  pub there : length s.made ≤ files
  pub pages : s.pages ≡ range_pages * ranges
  pub started : s.started ≡ true
  pub nodes : (file : ℕ) → file < files → (ref_at refs file).node ≡ file + 2
  pub handles : (file : ℕ) → file < files → HasOpenFile s (file + 2) (ref_at refs file).fh

-- what the files began with, and how many ranges there are
abbrev pub firsts_of : Team → List First
firsts_of t = t.files.view.mine.firsts

abbrev pub count_of : Team → ℕ
count_of t = ranges_of t.ranges.view

-- so many guests may lease: without ranges none does
abbrev pub leasers_for : ℕ → ℕ → ℕ
leasers_for ranges guests = if ranges == 0 then 0 else guests

-- The tables were opened for this team's guests, nothing was done to them, and the daemon serves them.
pub record IsTeam (t : Team) : Type 0 where
  pub few : t.guests ≤ 17
  pub files_few : length (firsts_of t) ≤ 64
  pub ranges_few : count_of t ≤ 256
  pub not_one : count_of t ≢ 1
  pub files_new : t.files ≡ first_files t.files.table (firsts_of t) (leasers_for (count_of t) t.guests)
  pub ranges_new : t.ranges ≡ first_ranges t.ranges.table (count_of t) (length (firsts_of t)) t.guests
  pub slots : t.files.table.slots ≡ length (firsts_of t)
  pub served : IsServed t.daemon t.refs (length (firsts_of t)) (count_of t)

-- the calls of each guest are within the limits
abbrev pub AreCallsOf : ℕ → ℕ → List (List Call) → Type 0
AreCallsOf files ranges guests = (g : ℕ) (cs : List Call) → slice_get guests g ≡ Some cs → (length cs ≤ max_calls) × AreCalls files ranges cs

-- the calls of all members of a team: of each guest, and none of one more where there is a background
unfoldable pub team_of : ℕ → List (List Call) → List (List Call)
team_of background guests = if background == 0 then guests else guests ++ [] ∷ []

-- where there is a background, there are ranges
abbrev pub MaySweep : ℕ → ℕ → Type 0
MaySweep background ranges = (background ≡ 0) ⊎ (0 < ranges)

-- ---- passes that are out

-- the first passes after the passes of so many guests were split off
unfoldable pub files_out : FilesKnown → ℕ → FilesKnown
files_out p zero = p
files_out p (suc k) = files_parent (files_out p k) k

unfoldable pub ranges_out : RangesKnown → ℕ → RangesKnown
ranges_out p zero = p
ranges_out p (suc k) = ranges_parent (ranges_out p k) k

-- a guest's wire, and its boards of files and of ranges
abbrev pub stand_of : Job → Stand
stand_of j = stand (host_wire j.guest.dax.driver.wire) (files_board j.guest.dax.files.pass) (ranges_board j.guest.dax.ranges.pass)

-- the job of the guest of this number, before it did anything
pub record IsOut (t : Team) (n : ℕ) (j : Job) : Type 0 where
  pub wire : host_wire j.guest.dax.driver.wire ≡ shared_wire t.daemon
  pub refs : j.guest.dax.refs ≡ t.refs
  pub holds : j.guest.holds ≡ no_holds
  pub files : j.guest.dax.files.pass ≡ files_child (files_out t.files n) n
  pub ranges : j.guest.dax.ranges.pass ≡ ranges_child (ranges_out t.ranges n) n
  pub lines : j.lines ≡ None

-- so many of them
abbrev pub AreOut : Team → ℕ → List Job → Type 0
AreOut t k jobs = (length jobs ≡ k) × ((n : ℕ) (j : Job) → slice_get jobs n ≡ Some j → IsOut t n j)

-- ---- work

-- the guest of this number may make its calls
pub record MayWork (guests : List (List Call)) (n : ℕ) (j : Job) : Type 0 where
  pub there : n < length guests
  pub few : length guests ≤ 17
  pub idle : IsIdle (stand_of j) j.guest.dax.refs j.guest.holds
  pub fresh : j.guest.holds.asked ≡ 0
  pub calls : AreCallsOf (length j.guest.dax.refs) (range_count (stand_of j).map) guests

-- its lines are its run in what its boards have seen
pub record IsTold (s t : Stand) (cs : List Call) (ls : List Numbered) : Type 0 where
  pub run : IsRunFrom s.files.guest (range_count s.map) (first_at s.files) (λ f. length (history_at s.files f)) (history_at t.files) (log_at t.map) (notes_at t.files) cs ls
  pub count : length ls ≡ length cs
  pub barred : LeasesAlone s → AreBarred cs ls
  pub held_up : TakesAlone s → AreHeldUp (range_count s.map) (log_at t.map) cs ls
  pub printable : AllByRecursion IsPrintableNumbered ls

-- it made them, or an allocation was refused
pub record HasWorked (guests : List (List Call)) (n : ℕ) (j k : Job) : Type 0 where
  pub idle : IsIdle (stand_of k) k.guest.dax.refs k.guest.holds
  pub rest : LeavesRest (stand_of j) (stand_of k)
  pub refs : k.guest.dax.refs ≡ j.guest.dax.refs
  pub told : IfSome k.lines (λ ls. (cs : List Call) × (slice_get guests n ≡ Some cs) × IsTold (stand_of j) (stand_of k) cs ls)

-- What the boards of a member's job counted in its work: just its guest's lines, or at least as many sweeps as it has turns.
pub record HasTallied (background : ℕ) (guests : List (List Call)) (n : ℕ) (j k : Job) : Type 0 where
  pub counted : (cs : List Call) (ls : List Numbered) → slice_get guests n ≡ Some cs → k.lines ≡ Some ls → HasCounted (stand_of j) (stand_of k) cs ls
  pub swept : (ls : List Numbered) → length guests ≤ n → k.lines ≡ Some ls → min ((stand_of j).map.ranges.sweeps + background) (2 ^ 64 - 1) ≤ (stand_of k).map.ranges.sweeps

abbrev pub MayRun : List (List Call) → List Job → Type 0
MayRun guests jobs = (n : ℕ) (j : Job) → slice_get jobs n ≡ Some j → MayWork guests n j

-- the member of this number may make its calls, or so many turns of the background
abbrev pub MayTakePart : ℕ → List (List Call) → ℕ → Job → Type 0
MayTakePart background guests n j = MayWork (team_of background guests) n j × MaySweep background (range_count (stand_of j).map)

abbrev pub MayAllTakePart : ℕ → List (List Call) → List Job → Type 0
MayAllTakePart background guests jobs = (n : ℕ) (j : Job) → slice_get jobs n ≡ Some j → MayTakePart background guests n j

abbrev pub HaveRun : List (List Call) → List Job → List Job → Type 0
HaveRun guests old new = (length new ≡ length old) × ((n : ℕ) (j k : Job) → slice_get old n ≡ Some j → slice_get new n ≡ Some k → HasWorked guests n j k)

abbrev pub HaveTallied : ℕ → List (List Call) → List Job → List Job → Type 0
HaveTallied background guests old new = (n : ℕ) (j k : Job) → slice_get old n ≡ Some j → slice_get new n ≡ Some k → HasTallied background guests n j k

-- ---- passes that come back

-- the job's guest has nothing but its holds in hand, and passes of these tables with this number
pub record CanJoin (p : FilesKnown) (q : RangesKnown) (n : ℕ) (j : Job) : Type 0 where
  pub home : IsHome (stand_of j) j.guest.dax.refs
  pub holds : HasHolds (stand_of j) j.guest.holds
  pub unbarred : (stand_of j).files.hands.bar ≡ None
  pub treeless : (stand_of j).map.hands.tree ≡ None
  pub resting : (stand_of j).map.hands.moves ≡ None
  pub files_table : j.guest.dax.files.pass.table ≡ p.table
  pub ranges_table : j.guest.dax.ranges.pass.table ≡ q.table
  pub files_guest : j.guest.dax.files.pass.view.guest ≡ n
  pub ranges_guest : j.guest.dax.ranges.pass.view.guest ≡ n

-- the first passes of both tables, with nothing in hand; the first guest has no entry
pub record AreFirst (p : FilesKnown) (q : RangesKnown) : Type 0 where
  pub files_root : p.view.guest ≡ root
  pub ranges_root : q.view.guest ≡ root
  pub files_idle : FilesIdle p.view
  pub ranges_idle : RangesIdle q.view.mine
  pub own : (f : ℕ) → Within root 0 (part p.view f).seen

-- the same passes later: of the same tables, whose files began the same and are as many; they have seen more
pub record AreLater (p : FilesKnown) (q : RangesKnown) (p' : FilesKnown) (q' : RangesKnown) : Type 0 where
  pub first : AreFirst p' q'
  pub files_table : p'.table ≡ p.table
  pub ranges_table : q'.table ≡ q.table
  pub firsts : p'.view.mine.firsts ≡ p.view.mine.firsts
  pub files_long : length p'.view.mine.files ≡ length p.view.mine.files
  pub ranges_long : ranges_of q'.view ≡ ranges_of q.view
  pub logs_long : files_of q'.view ≡ files_of q.view
  pub logs : (f : ℕ) → Begins (branch_of q.view f).seen (branch_of q'.view f).seen

-- What the first passes keep of a guest whose passes came back: what its boards had seen of each file and noted, by its number, and what they had counted; and what they had seen of each placement log begins what the first has.
pub record HasLeft (j : Job) (n : ℕ) (p : FilesKnown) (q : RangesKnown) : Type 0 where
  pub mine : FilesMine
  pub refusals : List Refusal
  pub files_back : get_elem? p.view.numbers n ≡ some (back mine refusals)
  pub histories : (f : ℕ) → (in_list mine.files f).seen ≡ history_at (stand_of j).files f
  pub notes : (f k : ℕ) (m : Note) → slice_get (file_at (stand_of j).files f).notes k ≡ Some m → (c : CoreNote) × (slice_get (in_list mine.files f).notes k ≡ Some c) × (note_of c ≡ m)
  pub refused : (f : ℕ) → f < length (stand_of j).files.files → refusals_of f refusals ≡ (file_at (stand_of j).files f).refusals
  pub moved : RangesMine
  pub noted : Noted
  pub ranges_back : get_elem? q.view.numbers n ≡ some (back moved noted)
  pub logs : (f : ℕ) → Begins (log_at (stand_of j).map f) (branch_of q.view f).seen
  pub rounds : noted.rounds ≡ (stand_of j).map.ranges.rounds
  pub sweeps : noted.sweeps ≡ (stand_of j).map.ranges.sweeps

-- the passes of one job came back, and no other number has changed
pub record JoinsOne (p : FilesKnown) (q : RangesKnown) (j : Job) (n : ℕ) (p' : FilesKnown) (q' : RangesKnown) : Type 0 where
  pub later : AreLater p q p' q'
  pub left : HasLeft j n p' q'
  pub files_rest : (i : ℕ) → i ≢ n → get_elem? p'.view.numbers i ≡ get_elem? p.view.numbers i
  pub ranges_rest : (i : ℕ) → i ≢ n → get_elem? q'.view.numbers i ≡ get_elem? q.view.numbers i

-- the passes of these jobs are out, each with the job's place as its number
pub record CanJoinAll (p : FilesKnown) (q : RangesKnown) (jobs : List Job) : Type 0 where
  pub few : length jobs ≤ 17
  pub each : (n : ℕ) (j : Job) → slice_get jobs n ≡ Some j → CanJoin p q n j
  pub files_out : (n : ℕ) → n < length jobs → get_elem? p.view.numbers n ≡ some out
  pub ranges_out : (n : ℕ) → n < length jobs → get_elem? q.view.numbers n ≡ some out

-- the passes of the first k of these jobs came back
pub record HasJoined (p : FilesKnown) (q : RangesKnown) (jobs : List Job) (k : ℕ) (p' : FilesKnown) (q' : RangesKnown) : Type 0 where
  pub later : AreLater p q p' q'
  pub left : (n : ℕ) (j : Job) → n < k → slice_get jobs n ≡ Some j → HasLeft j n p' q'
  pub files_rest : (n : ℕ) → k ≤ n → get_elem? p'.view.numbers n ≡ get_elem? p.view.numbers n
  pub ranges_rest : (n : ℕ) → k ≤ n → get_elem? q'.view.numbers n ≡ get_elem? q.view.numbers n

-- the parts are what the jobs told
abbrev pub AreTold : List Job → List GuestPart → Type 0
AreTold jobs parts = (length parts ≡ length jobs) × ((n : ℕ) (j : Job) (p : GuestPart) → slice_get jobs n ≡ Some j → slice_get parts n ≡ Some p → (p.guest ≡ n) × (j.lines ≡ Some p.lines))

-- all passes of a team are out, and its guests may make their calls
pub record AreSeated (t : Team) (guests : List (List Call)) (jobs : List Job) (p : FilesKnown) (q : RangesKnown) : Type 0 where
  pub is_team : IsTeam t
  pub all : t.guests ≡ length guests
  pub calls : AreCallsOf (length (firsts_of t)) (count_of t) guests
  pub are_out : AreOut t t.guests jobs
  pub files : p ≡ files_out t.files t.guests
  pub ranges : q ≡ ranges_out t.ranges t.guests

-- ---- a team that ran

-- the first passes have nothing in hand, and every other is in
pub record AreBack (t : Team) (p : FilesKnown) (q : RangesKnown) : Type 0 where
  pub later : AreLater t.files t.ranges p q
  pub files_in : AllIn p.view
  pub ranges_in : AllIn q.view

-- A guest's part is its run in what it had seen, of which the first passes keep all.
pub record IsReturned (t : Team) (g : ℕ) (cs : List Call) (part : GuestPart) (p : FilesKnown) (q : RangesKnown) : Type 0 where
  pub number : part.guest ≡ g
  pub count : length part.lines ≡ length cs
  pub job : Job
  pub table : job.guest.dax.files.pass.table ≡ t.files.table
  pub left : HasLeft job g p q
  pub run : IsRunFrom g (count_of t) (first_in (firsts_of t)) (λ f. 0) (history_at (stand_of job).files) (log_at (stand_of job).map) (notes_at (stand_of job).files) cs part.lines
  pub barred : (t.guests ≡ 1) ⊎ (count_of t ≡ 0) → AreBarred cs part.lines
  pub held_up : t.guests ≡ 1 → AreHeldUp (count_of t) (log_at (stand_of job).map) cs part.lines
  pub printable : AllByRecursion IsPrintableNumbered part.lines

-- each guest's is, and nobody had another number
pub record Returned (t : Team) (guests : List (List Call)) (p : FilesKnown) (q : RangesKnown) (parts : List GuestPart) : Type 0 where
  pub count : length parts ≡ length guests
  pub each : (g : ℕ) (cs : List Call) (part : GuestPart) → slice_get guests g ≡ Some cs → slice_get parts g ≡ Some part → IsReturned t g cs part p q
  pub others : (n : ℕ) → length guests ≤ n → n < all_numbers → n ≢ root → get_elem? p.view.numbers n ≡ some unused

-- ---- what the first passes keep of counts

-- A guest's passes counted just its lines: a round of all ranges, each pinned or moving, for each busy one, and a refused bar on a file for each leased one.
pub record IsTallied (g : ℕ) (cs : List Call) (ls : List Numbered) (p : FilesKnown) (q : RangesKnown) : Type 0 where
  pub mine : FilesMine
  pub refusals : List Refusal
  pub files_back : get_elem? p.view.numbers g ≡ some (back mine refusals)
  pub leased : (f : ℕ) → f < length p.view.mine.files → refusals_of f refusals ≡ leased_lines cs ls f
  pub moved : RangesMine
  pub noted : Noted
  pub ranges_back : get_elem? q.view.numbers g ≡ some (back moved noted)
  pub busy : noted.rounds ≡ busy_lines ls

-- the pass with this number counted at least so many sweeps, up to the last value of the count
pub record HasSwept (background n : ℕ) (q : RangesKnown) : Type 0 where
  pub moved : RangesMine
  pub noted : Noted
  pub ranges_back : get_elem? q.view.numbers n ≡ some (back moved noted)
  pub swept : min background (2 ^ 64 - 1) ≤ noted.sweeps

-- each guest's passes did, and those of the background, where there is one; its number is that of the guests
pub record AreTallied (background : ℕ) (guests : List (List Call)) (p : FilesKnown) (q : RangesKnown) (parts : List GuestPart) : Type 0 where
  pub guests_are : (g : ℕ) (cs : List Call) (part : GuestPart) → slice_get guests g ≡ Some cs → slice_get parts g ≡ Some part → IsTallied g cs part.lines p q
  pub background_is : background ≢ 0 → HasSwept background (length guests) q

-- ---- reading the first passes again

-- what they have seen of a file, and of its placement log
abbrev pub history_seen : FilesKnown → ℕ → List Entry
history_seen p f = (part p.view f).seen

abbrev pub log_seen : RangesKnown → ℕ → List LogEntry
log_seen q f = (branch_of q.view f).seen

-- The first passes took turns and trees, and gave them back: they have seen more of the logs, and all else is as before.
pub record AreReread (p : FilesKnown) (q : RangesKnown) (p' : FilesKnown) (q' : RangesKnown) : Type 0 where
  pub later : AreLater p q p' q'
  pub files_numbers : p'.view.numbers ≡ p.view.numbers
  pub ranges_numbers : q'.view.numbers ≡ q.view.numbers
  pub histories : (f : ℕ) → history_seen p' f ≡ history_seen p f

-- of each entry of a file it is known whose it is, and its log is sound
pub record IsRead (p : FilesKnown) (q : RangesKnown) (f : ℕ) : Type 0 where
  pub account : Accounted p.view.numbers f (past_seen p.view f)
  pub sound_log : IsTrue (sound (ranges_of q.view) (log_seen q f))

-- that of the first so many files
abbrev pub AreRead : FilesKnown → RangesKnown → ℕ → Type 0
AreRead p q n = (f : ℕ) → f < n → IsRead p q f

-- What the first seven steps make of a chain, before anything of the device is looked at.
use Rattle.std.specs.Prelude.{◌≡◌, ℕ, ◌≤◌, Bool, true, ◌&&◌, not, nat_lt, List, [], length, Option, Some, None, Result, Ok, Err, if◌then◌else◌}
use Rattle.fuse_codec.specs.Grammar.{is_bounded}
use Rattle.fuse_codec.specs.Reading.{message_of}
use Rattle.fuse_codec.specs.declared.errors.BadRequest.{BadRequest}
use Rattle.fuse_codec.specs.declared.messages.Message.{Message}
use Rattle.page_map.specs.Board.{MapView}
use Rattle.plain_file.specs.Board.{BoardView, IsReady}
use Rattle.fuse_device.specs.State.{State, World}
use Rattle.fuse_device.specs.Checks.{Outcome}
use Rattle.fuse_device.specs.Steps.{Step, errno_of, is_forget_number, header_at, replied, judged_message}
use Rattle.fuse_device.specs.DataSteps.{data_judged_message, file_in}
use Rattle.fuse_device.specs.declared.plans.Plan.{Plan}
use Rattle.fuse_device.specs.declared.plans.Plan.TheVariants as plans

-- steps 4 to 7: what is no request is refused
abbrev pub planned : ℕ → Result Message BadRequest → Plan
planned unique (Err bad) = plans.Refuse (errno_of bad) unique
planned unique (Ok m) = plans.Carry m

-- Nothing is answered where there is no whole header (step 1), to a forget (step 2), and where there is no
-- room for a reply's header (step 3).
unfoldable pub plan : List ℕ → ℕ → Plan
plan readable room =
    if nat_lt (length readable) 40 then plans.Silent
    else if is_forget_number (header_at readable).opcode then plans.Silent
    else if nat_lt room 16 then plans.Silent
    else planned (header_at readable).unique (message_of readable)

-- a whole header with the number of a forget
abbrev pub is_forget_chain : List ℕ → Bool
is_forget_chain readable = not (nat_lt (length readable) 40) && is_forget_number (header_at readable).opcode

-- the request that is carried, where one is, is within the grammar's bounds
abbrev pub IsBoundedPlan : Plan → Type 0
IsBoundedPlan plans.Silent = Unit {0}
IsBoundedPlan (plans.Refuse e unique) = Unit {0}
IsBoundedPlan (plans.Carry m) = is_bounded m.body ≡ true

-- ---- what is done by a plan

-- the answer and what it leaves, where requests are judged so
abbrev pub carried : (Message → Outcome) → World → Plan → Step
carried judge w plans.Silent = (w, [])
carried judge w (plans.Refuse e unique) = replied unique (Err e, w)
carried judge w (plans.Carry m) = replied m.head.unique (judge m)

-- by a daemon that stays as it is
unfoldable pub plan_step : World → Plan → ℕ → Step
plan_step w p room = carried (data_judged_message w room) w p

-- by a whole daemon, which carries out forgets besides
unfoldable pub whole_plan_step : World → Plan → ℕ → Step
whole_plan_step w p room = carried (judged_message w room) w p

-- the file whose turn a plan needs: its request is on a file's bytes or attributes, and its node is a known file's
abbrev pub plan_file : State → Plan → Option ℕ
plan_file s plans.Silent = None
plan_file s (plans.Refuse e unique) = None
plan_file s (plans.Carry m) = file_in s (Ok m)

-- The boards are those of the device, and the file whose turn the plan needs is ready, where it needs one.
pub record CanServePlan (s : State) (files : BoardView) (map : MapView) (p : Plan) : Type 0 where
  pub there : length s.made ≤ length files.files
  pub pages : length map.table ≡ s.pages
  pub ready : (file : ℕ) → plan_file s p ≡ Some file → IsReady files file

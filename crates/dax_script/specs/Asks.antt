-- What the calls of a guest ask: on which file, from where on, and which operation.
use Rattle.std.specs.Prelude.{ℕ, ◌+◌, ◌*◌, Bool, true, false, List, [], ◌∷◌, replicate, slice_get, Option, Some, None, option_map, unwrap_or, if◌then◌else◌}
use Rattle.plain_file.specs.declared.operations.Op.{Op}
use Rattle.plain_file.specs.declared.operations.Op.TheVariants as ops
use Rattle.dax_script.specs.declared.scripts.Call.{Call}
use Rattle.dax_script.specs.declared.scripts.Call.TheVariants as calls
use Rattle.dax_script.specs.declared.scripts.Script.{Script}
use Rattle.dax_script.specs.declared.asks.Held.{Held}
use Rattle.dax_script.specs.declared.asks.Target.{Target}
use Rattle.plain_text.specs.Options.{◌>>=◌}

-- the bytes of a chunk
abbrev pub chunk_size : ℕ
chunk_size = 2097152

unfoldable pub held_of : Call → Option Held
held_of (calls.Hold file chunk mode) = Some (record { file = file; chunk = chunk; mode = mode })
held_of (calls.Read file off len) = None
held_of (calls.Write file off bytes) = None
held_of (calls.Fill file off len byte) = None
held_of (calls.Size file) = None
held_of (calls.Truncate file size) = None
held_of (calls.Load hold off len) = None
held_of (calls.Store hold off bytes) = None
held_of (calls.Release hold) = None

unfoldable pub is_hold : Call → Bool
is_hold (calls.Hold file chunk mode) = true
is_hold (calls.Read file off len) = false
is_hold (calls.Write file off bytes) = false
is_hold (calls.Fill file off len byte) = false
is_hold (calls.Size file) = false
is_hold (calls.Truncate file size) = false
is_hold (calls.Load hold off len) = false
is_hold (calls.Store hold off bytes) = false
is_hold (calls.Release hold) = false

-- where the `hold` calls stand among a guest's calls, counted from n
unfoldable pub hold_places : ℕ → List Call → List ℕ
hold_places n [] = []
hold_places n (c ∷ cs) = if is_hold c then n ∷ hold_places (n + 1) cs else hold_places (n + 1) cs

-- where a hold's call stands, and what it holds
abbrev pub place_of_hold : List Call → ℕ → Option ℕ
place_of_hold cs hold = slice_get (hold_places 0 cs) hold

abbrev pub held_by : List Call → ℕ → Option Held
held_by cs hold = place_of_hold cs hold >>= λ at. slice_get cs at >>= held_of

-- the file that a call is on, and where its offsets count from
abbrev pub whole_file : ℕ → Target
whole_file file = record { file = file; start = 0 }

abbrev pub chunk_of_held : Held → Target
chunk_of_held h = record { file = h.file; start = h.chunk * chunk_size }

unfoldable pub target : List Call → Call → Option Target
target cs (calls.Read file off len) = Some (whole_file file)
target cs (calls.Write file off bytes) = Some (whole_file file)
target cs (calls.Fill file off len byte) = Some (whole_file file)
target cs (calls.Size file) = Some (whole_file file)
target cs (calls.Truncate file size) = Some (whole_file file)
target cs (calls.Hold file chunk mode) = Some (whole_file file)
target cs (calls.Load hold off len) = option_map chunk_of_held (held_by cs hold)
target cs (calls.Store hold off bytes) = option_map chunk_of_held (held_by cs hold)
target cs (calls.Release hold) = option_map chunk_of_held (held_by cs hold)

-- the operation of a call whose offsets count from here; `hold` and `release` are none
unfoldable pub op_from : ℕ → Call → Option Op
op_from start (calls.Read file off len) = Some (ops.Read (start + off) len)
op_from start (calls.Write file off bytes) = Some (ops.Write (start + off) bytes)
op_from start (calls.Fill file off len byte) = Some (ops.Write (start + off) (replicate len byte))
op_from start (calls.Size file) = Some ops.Size
op_from start (calls.Truncate file size) = Some (ops.Truncate size)
op_from start (calls.Hold file chunk mode) = None
op_from start (calls.Load hold off len) = Some (ops.Read (start + off) len)
op_from start (calls.Store hold off bytes) = Some (ops.Write (start + off) bytes)
op_from start (calls.Release hold) = None

abbrev pub op_of : List Call → Call → Option Op
op_of cs c = target cs c >>= λ to. op_from to.start c

-- the calls of a guest, and one of them
abbrev pub calls_of : Script → ℕ → List Call
calls_of s guest = unwrap_or (slice_get s.guests guest) []

abbrev pub call_at : Script → ℕ → ℕ → Option Call
call_at s guest call = slice_get (calls_of s guest) call

-- the hold that a call uses
unfoldable pub hold_in : Call → Option ℕ
hold_in (calls.Load hold off len) = Some hold
hold_in (calls.Store hold off bytes) = Some hold
hold_in (calls.Release hold) = Some hold
hold_in (calls.Read file off len) = None
hold_in (calls.Write file off bytes) = None
hold_in (calls.Fill file off len byte) = None
hold_in (calls.Size file) = None
hold_in (calls.Truncate file size) = None
hold_in (calls.Hold file chunk mode) = None

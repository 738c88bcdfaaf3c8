-- The checks of requests, each with its error, and the chains that a request is made of.
use Rattle.std.specs.Prelude.{ℕ, ◌+◌, ◌-◌, ◌^◌, ◌==◌, Bool, ◌||◌, ◌&&◌, not, nat_lt, length, is_some, Result, Err, bit_and, if◌then◌else◌}
use Rattle.std.specs.List.{list_any}
use Rattle.fuse_codec.specs.declared.replies.Reply.{Reply}
use Rattle.fuse_wire.specs.declared.errno.Errno.{Errno}
use Rattle.fuse_wire.specs.declared.errno.Errno.TheVariants.{ENOENT, EBADF, ENOTDIR, EISDIR, EMFILE}
use Rattle.plain_file.specs.File.{max_file}
use Rattle.fuse_device.specs.State.{State, World, is_made, made_at, is_open, is_dir}

-- a reply or an error, and the device with its boards afterwards
abbrev pub Outcome : Type 0
Outcome = Result Reply Errno × World

-- The directory, or a known file: one that was made and has a name, lookups that weren't given back, or an open handle.
unfoldable pub is_known : State → ℕ → Bool
is_known s node = node == 1 || (is_made s node && (is_some (made_at s node).name || nat_lt 0 (made_at s node).lookups || is_open s node))

-- an open handle of this number and node, and of the node's kind
unfoldable pub is_handle : State → ℕ → ℕ → Bool
is_handle s fh node = list_any (λ o. o.fh == fh && o.node == node && (if node == 1 then is_dir o.kind else not (is_dir o.kind))) s.opened

-- one handle more may be opened; the last number stands for no handle
unfoldable pub may_open : State → Bool
may_open s = nat_lt (length s.opened) 1024 && nat_lt s.next_fh (2 ^ 64 - 1)

-- an end above the largest size of a file
abbrev pub is_past : ℕ → ℕ → Bool
is_past offset len = nat_lt max_file (offset + len)

-- a bit is set
abbrev pub has_flag : ℕ → ℕ → Bool
has_flag flags mask = not (bit_and flags mask == 0)

-- ---- chains of checks: the first that fails decides

-- refused, and nothing changes
abbrev pub refuse : Bool → Errno → World → Outcome → Outcome
refuse bad e w rest = if bad then (Err e, w) else rest

-- a known node
abbrev pub on_known : World → ℕ → Outcome → Outcome
on_known w node rest = refuse (not (is_known w.state node)) ENOENT w rest

-- a known node that is the directory
abbrev pub on_dir : World → ℕ → Outcome → Outcome
on_dir w node rest = on_known w node (refuse (not (node == 1)) ENOTDIR w rest)

-- a known node that is a file's
abbrev pub on_file : World → ℕ → Outcome → Outcome
on_file w node rest = on_known w node (refuse (node == 1) EISDIR w rest)

-- an open handle of the node, where the request names one
abbrev pub on_handle_if : Bool → World → ℕ → ℕ → Outcome → Outcome
on_handle_if names w fh node rest = refuse (names && not (is_handle w.state fh node)) EBADF w rest

-- an open handle of the node
abbrev pub on_handle : World → ℕ → ℕ → Outcome → Outcome
on_handle w fh node rest = refuse (not (is_handle w.state fh node)) EBADF w rest

-- one handle more may be opened
abbrev pub if_may_open : World → Outcome → Outcome
if_may_open w rest = refuse (not (may_open w.state)) EMFILE w rest

-- The operations of Linux uapi fuse.h, protocol 7.38, that the profile knows: their numbers, their texts, and what their replies are.
use Rattle.std.specs.Prelude.{ℕ, ◌==◌, List, [], ◌∷◌, codes, Option}
use Rattle.std.specs.List.{find}
use Rattle.fuse_codec.specs.declared.opcodes.Opcode.{Opcode}
use Rattle.fuse_codec.specs.declared.opcodes.Opcode.TheVariants as opcodes
use Rattle.fuse_codec.specs.declared.opcodes.ReplyForm.{ReplyForm}
use Rattle.fuse_codec.specs.declared.opcodes.ReplyForm.TheVariants as forms

-- the number of an operation
unfoldable pub number : Opcode → ℕ
number opcodes.Lookup = 1
number opcodes.Forget = 2
number opcodes.Getattr = 3
number opcodes.Setattr = 4
number opcodes.Unlink = 10
number opcodes.OpenFile = 14
number opcodes.Read = 15
number opcodes.Write = 16
number opcodes.Release = 18
number opcodes.Fsync = 20
number opcodes.Flush = 25
number opcodes.Init = 26
number opcodes.OpenDir = 27
number opcodes.ReadDir = 28
number opcodes.ReleaseDir = 29
number opcodes.Create = 35
number opcodes.Destroy = 38
number opcodes.BatchForget = 42
number opcodes.Fallocate = 43
number opcodes.Setup = 48
number opcodes.Remove = 49

-- each operation once, in the order of their numbers
abbrev pub operations : List Opcode
operations =
    opcodes.Lookup ∷ opcodes.Forget ∷ opcodes.Getattr ∷ opcodes.Setattr ∷ opcodes.Unlink ∷ opcodes.OpenFile ∷ opcodes.Read ∷ opcodes.Write
    ∷ opcodes.Release ∷ opcodes.Fsync ∷ opcodes.Flush ∷ opcodes.Init ∷ opcodes.OpenDir ∷ opcodes.ReadDir ∷ opcodes.ReleaseDir ∷ opcodes.Create
    ∷ opcodes.Destroy ∷ opcodes.BatchForget ∷ opcodes.Fallocate ∷ opcodes.Setup ∷ opcodes.Remove ∷ []

-- the operation that has this number
unfoldable pub opcode_of : ℕ → Option Opcode
opcode_of n = find (λ k. number k == n) operations

-- the name of an operation in lines of text
unfoldable pub text_of : Opcode → List ℕ
text_of opcodes.Lookup = codes "lookup"
text_of opcodes.Forget = codes "forget"
text_of opcodes.Getattr = codes "getattr"
text_of opcodes.Setattr = codes "setattr"
text_of opcodes.Unlink = codes "unlink"
text_of opcodes.OpenFile = codes "open"
text_of opcodes.Read = codes "read"
text_of opcodes.Write = codes "write"
text_of opcodes.Release = codes "release"
text_of opcodes.Fsync = codes "fsync"
text_of opcodes.Flush = codes "flush"
text_of opcodes.Init = codes "init"
text_of opcodes.OpenDir = codes "opendir"
text_of opcodes.ReadDir = codes "readdir"
text_of opcodes.ReleaseDir = codes "releasedir"
text_of opcodes.Create = codes "create"
text_of opcodes.Destroy = codes "destroy"
text_of opcodes.BatchForget = codes "batch_forget"
text_of opcodes.Fallocate = codes "fallocate"
text_of opcodes.Setup = codes "setupmapping"
text_of opcodes.Remove = codes "removemapping"

-- what the body of a success is
unfoldable pub reply_form : Opcode → ReplyForm
reply_form opcodes.Lookup = forms.Entry
reply_form opcodes.Forget = forms.Unanswered
reply_form opcodes.Getattr = forms.Attr
reply_form opcodes.Setattr = forms.Attr
reply_form opcodes.Unlink = forms.Done
reply_form opcodes.OpenFile = forms.Opened
reply_form opcodes.Read = forms.Bytes
reply_form opcodes.Write = forms.Wrote
reply_form opcodes.Release = forms.Done
reply_form opcodes.Fsync = forms.Done
reply_form opcodes.Flush = forms.Done
reply_form opcodes.Init = forms.Init
reply_form opcodes.OpenDir = forms.Opened
reply_form opcodes.ReadDir = forms.Bytes
reply_form opcodes.ReleaseDir = forms.Done
reply_form opcodes.Create = forms.Created
reply_form opcodes.Destroy = forms.Done
reply_form opcodes.BatchForget = forms.Unanswered
reply_form opcodes.Fallocate = forms.Done
reply_form opcodes.Setup = forms.Done
reply_form opcodes.Remove = forms.Done

-- The lines of requests, bad requests and replies, without line ends.
use Rattle.std.specs.Prelude.{ℕ, List, [], ◌++◌, length, codes}
use Rattle.std.specs.List.{flat_map}
use Rattle.std.specs.Fmt.{signed_decimal}
use Rattle.fuse_codec.specs.declared.messages.Request.{Request}
use Rattle.fuse_codec.specs.declared.messages.Request.TheVariants as requests
use Rattle.fuse_codec.specs.declared.messages.Message.{Message}
use Rattle.fuse_codec.specs.declared.errors.BadRequest.{BadRequest}
use Rattle.fuse_codec.specs.declared.errors.BadRequest.TheVariants as bad_requests
use Rattle.fuse_codec.specs.declared.replies.Reply.{Reply}
use Rattle.fuse_codec.specs.declared.replies.Reply.TheVariants as replies
use Rattle.fuse_codec.specs.Opcodes.{text_of}
use Rattle.fuse_codec.specs.Grammar.{kind_of}
use Rattle.fuse_text.specs.FieldText.{field, hex_field}
use Rattle.fuse_text.specs.RecordText.{getattr_in_text, setattr_in_text, open_in_text, read_in_text, write_in_text, release_in_text, fsync_in_text, flush_in_text, init_in_text, create_in_text, forget_one_text, fallocate_in_text, setup_in_text, remove_one_text, attr_out_text, entry_out_text, open_out_text, write_out_text, init_out_text}

-- the fields of a request's body, one case for each operation
unfoldable pub body_text : Request → List ℕ
body_text (requests.Lookup name) = hex_field (codes "name") name
body_text (requests.Forget nlookup) = field (codes "nlookup") nlookup
body_text (requests.Getattr r) = getattr_in_text r
body_text (requests.Setattr r) = setattr_in_text r
body_text (requests.Unlink name) = hex_field (codes "name") name
body_text (requests.OpenFile r) = open_in_text r
body_text (requests.Read r) = read_in_text r
body_text (requests.Write h bytes) = write_in_text h ++ hex_field (codes "bytes") bytes
body_text (requests.Release r) = release_in_text r
body_text (requests.Fsync r) = fsync_in_text r
body_text (requests.Flush r) = flush_in_text r
body_text (requests.Init r) = init_in_text r
body_text (requests.OpenDir r) = open_in_text r
body_text (requests.ReadDir r) = read_in_text r
body_text (requests.ReleaseDir r) = release_in_text r
body_text (requests.Create h name) = create_in_text h ++ hex_field (codes "name") name
body_text requests.Destroy = []
body_text (requests.BatchForget ones) = field (codes "count") (length ones) ++ flat_map forget_one_text ones
body_text (requests.Fallocate r) = fallocate_in_text r
body_text (requests.Setup r) = setup_in_text r
body_text (requests.Remove ones) = field (codes "count") (length ones) ++ flat_map remove_one_text ones

-- the line of a request: what is asked, the request's own number, the node, and the body's fields
abbrev pub request_line : Message → List ℕ
request_line m = text_of (kind_of m.body) ++ field (codes "unique") m.head.unique ++ field (codes "node") m.head.nodeid ++ body_text m.body

-- the line of bytes that are no request. Want of memory says nothing of bytes, and has no line.
unfoldable pub bad_line : BadRequest → List ℕ
bad_line bad_requests.Short = codes "bad short"
bad_line (bad_requests.Length said had) = codes "bad length" ++ field (codes "said") said ++ field (codes "had") had
bad_line (bad_requests.Extended n) = codes "bad extended" ++ field (codes "n") n
bad_line (bad_requests.Opcode n) = codes "bad opcode" ++ field (codes "n") n
bad_line (bad_requests.Body opcode) = codes "bad body" ++ field (codes "opcode") opcode
bad_line bad_requests.Memory = []

-- whether a reply is an error: `ok`, or the error's number, which is positive
unfoldable pub outcome_text : Reply → List ℕ
outcome_text (replies.Error number) = codes "error=" ++ signed_decimal number
outcome_text reply = codes "ok"

-- the fields of a reply's body, one case for each form
unfoldable pub reply_text : Reply → List ℕ
reply_text (replies.Error number) = []
reply_text (replies.Entry r) = entry_out_text r
reply_text (replies.Attr r) = attr_out_text r
reply_text (replies.Opened r) = open_out_text r
reply_text (replies.Created entry opened) = entry_out_text entry ++ open_out_text opened
reply_text (replies.Bytes bytes) = hex_field (codes "bytes") bytes
reply_text (replies.Wrote r) = write_out_text r
reply_text (replies.Init r) = init_out_text r
reply_text replies.Done = []

-- the line of a reply to the request of this number: the outcome, the number, and the body's fields
abbrev pub reply_line : ℕ → Reply → List ℕ
reply_line unique reply = outcome_text reply ++ field (codes "unique") unique ++ reply_text reply

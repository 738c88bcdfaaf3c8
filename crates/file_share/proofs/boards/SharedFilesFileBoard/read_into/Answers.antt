use Rattle.std.proofs.Common.{◌∙◌, ap, sym, List, ℕ, length, take, drop, ◌++◌}
use Rattle.plain_file.specs.History.{Past, whole_bytes}
use Rattle.file_share.proofs.Boarding.{near_is}
use Rattle.file_share.proofs.BoardsCalls.{ready_of, bytes_whole}
use Rattle.file_share.proofs.boards.SharedFilesFileBoard.read_into.Goals as goal

pub body-requires : goal.body-requires
body-requires c = (ready_of c.args.self.now.pass c.args.file (near_is c.args.self.now.pass c.args.file c.requires.file) c.requires.ready).0

pub returns-clause-count : goal.returns-clause-count
returns-clause-count c = c.read_into.ensures.count
    ∙ ap (λ (b : List ℕ). length (take (length c.args.out.now) (drop c.args.off b))) (ap (λ (p : Past). whole_bytes p) c.body.ensures ∙ sym (bytes_whole c.args.self.now.pass c.args.file (near_is c.args.self.now.pass c.args.file c.requires.file)))

pub returns-clause-bytes : goal.returns-clause-bytes
returns-clause-bytes c = c.read_into.ensures.bytes
    ∙ ap (λ (b : List ℕ). take (length c.args.out.now) (drop c.args.off b) ++ drop c.read_into.result c.args.out.now) (ap (λ (p : Past). whole_bytes p) c.body.ensures ∙ sym (bytes_whole c.args.self.now.pass c.args.file (near_is c.args.self.now.pass c.args.file c.requires.file)))

use Rattle.std.proofs.Common.{codes, append_assoc}
use Rattle.fuse_text.specs.FieldText.{field}
use Rattle.fuse_text.specs.Lines.{bad_line}
use Rattle.fuse_text.proofs.bad_requests.put_bad_line.Goals as goal

pub returns-in_ok-put_field-in-Extended-clause-text : goal.returns-in_ok-put_field-in-Extended-clause-text
unfolding bad_line
returns-in_ok-put_field-in-Extended-clause-text c =
    rw (c.in_ok-put_field-in-Extended.ensures.text, c.from-in-Extended.ensures, c.in_ok-put-in-Extended.ensures.text, c.in-Extended.is)
    (append_assoc c.args.out.now.items (codes "bad extended") (field (codes "n") c.in-Extended.n))

use Rattle.std.proofs.Common.{◌∙◌, refl, sym, length}
use Rattle.window_access.proofs.InPage.{named_byte}
use Rattle.window_access.proofs.Loading.{not_unmapped, whole_read}
use Rattle.window_access.proofs.loads.load_in_page.Goals as goal

pub overflow_sub-file : goal.overflow_sub-file
overflow_sub-file g c =
    (named_byte (length (g.F.FileBoard.board c.args.files.now).files) c.args.map.now c.args.at c.in-Some.p c.requires.can.names (sym c.find.ensures.byte ∙ c.in-Some.is)).0

pub returns-in-Some : goal.returns-in-Some
returns-in-Some g c =
    whole_read (g.F.FileBoard.board c.args.files.now) c.args.map.now c.args.at (length c.args.out.now) c.in-Some.p c.args.out.now c.read_into.new.out c.read_into.result refl (sym c.find.ensures.byte ∙ c.in-Some.is) c.requires.page c.requires.some c.requires.inside c.read_into.ensures.count c.read_into.ensures.bytes

pub returns-in_default : goal.returns-in_default
returns-in_default g c =
    absurd (not_unmapped (g.F.FileBoard.board c.args.files.now) c.args.map.now c.args.at (length c.args.out.now) c.requires.mapped c.requires.some (sym c.find.ensures.byte ∙ c.in_default.is))

use Rattle.std.proofs.Common.{subst}
use Rattle.page_map.specs.Board.{IsSoundPages}
use Rattle.page_map.specs.Plain.{pages_of}
use Rattle.page_map.proofs.Showing.{IsSoundPages-plain}
use Rattle.page_map.proofs.maps.PageMapMapBoard.sound.Goals as goal

pub returns : goal.returns
returns c = subst IsSoundPages c.self.view_is (IsSoundPages-plain (pages_of c.self.inside.parts.items c.self.inside.table.items))

use Rattle.daxrun.proofs.Playable.{playable}
use Rattle.daxrun.proofs.play_tests.script_in.Goals as goal

pub returns : goal.returns
returns c = playable c.args.text.now c.in-Ok.script c.in-Ok.ensures.reads

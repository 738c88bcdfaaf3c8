use Rattle.dax_core.proofs.Running.{result_good, result_grows}
use Rattle.dax_core.proofs.machine.Core.step.Goals as goal

pub returns-clause-good : goal.returns-clause-good
returns-clause-good c = result_good c.args.self.now _ c.args.guest c.args.event.now c.do_event.result c.sound.ensures c.do_event.ensures

pub returns-clause-grown : goal.returns-clause-grown
returns-clause-grown c = result_grows c.args.self.now _ c.args.guest c.args.event.now c.do_event.result c.do_event.ensures

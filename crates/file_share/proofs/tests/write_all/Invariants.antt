use Rattle.file_share.specs.Known.{IsBack}
use Rattle.file_share.proofs.tests.write_all.Given as goal

abbrev pub invariant-loop : goal.invariant-loop
invariant-loop g l = IsBack l.fn.pass l.pass

use Rattle.std.proofs.Common.{arith, rules, length}
use Rattle.std.proofs.lemmas.Grind.{common_steps}
use Rattle.window_access.proofs.Loading.{granted_part, load_more, nothing_loaded}
use Rattle.window_access.specs.declared.refusals.Cause.TheVariants as causes
use Rattle.window_access.proofs.loads.load.Goals as goal

pub loop-done-init : goal.loop-done-init
loop-done-init g c = record {
  within = omega arith;
  long = search rules;
  bytes = nothing_loaded (g.F.FileBoard.board c.args.files.now) c.args.map.now c.args.moffset;
}

pub load_in_page-requires-clause-mapped : goal.load_in_page-requires-clause-mapped
load_in_page-requires-clause-mapped g c =
    granted_part (g.F.FileBoard.board c.args.files.now) c.args.map.now causes.Unmapped c.args.moffset c.loop-done.done _ (length c.args.out.now) c.requires.mapped (grind (arith, common_steps))

pub load_in_page-requires-clause-inside : goal.load_in_page-requires-clause-inside
load_in_page-requires-clause-inside g c =
    granted_part (g.F.FileBoard.board c.args.files.now) c.args.map.now causes.PastEnd c.args.moffset c.loop-done.done _ (length c.args.out.now) c.requires.inside (grind (arith, common_steps))

pub loop-done-preserved : goal.loop-done-preserved
loop-done-preserved g c = record {
  within = omega arith;
  long = grind (arith, common_steps);
  bytes = load_more (g.F.FileBoard.board c.args.files.now) c.args.map.now c.args.moffset c.loop-done.done c.in_page-n.result _ c.loop-done.out c.load_in_page.new.out c.loop-done.invariant.bytes (omega arith) (grind (arith, common_steps)) c.load_in_page.ensures;
}

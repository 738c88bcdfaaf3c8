use Rattle.std.proofs.Common.{take}
use Rattle.std.specs.List.{flat_map}
use Rattle.fuse_wire.specs.Layout.{FitsParts}
use Rattle.fuse_wire.specs.Mappings.{remove_one}
use Rattle.fuse_codec.proofs.fitting.removes_fit.Given as goal

abbrev pub invariant-loop-one : goal.invariant-loop-one
invariant-loop-one l = FitsParts (flat_map remove_one (take l.one-index l.ones))

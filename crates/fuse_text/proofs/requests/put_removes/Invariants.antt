use Rattle.std.proofs.Common.{◌≡◌, ◌++◌, take}
use Rattle.std.specs.List.{flat_map}
use Rattle.plain_text.specs.Fronts.{Begins}
use Rattle.fuse_text.specs.RecordText.{remove_one_text}
use Rattle.fuse_text.proofs.requests.put_removes.Given as goal

abbrev pub invariant-loop-one : goal.invariant-loop-one
invariant-loop-one l = record {
  text : l.out.items ≡ l.fn.out.items ++ flat_map remove_one_text (take l.one-index l.ones);
  front : Begins l.fn.out.items l.out.items;
}

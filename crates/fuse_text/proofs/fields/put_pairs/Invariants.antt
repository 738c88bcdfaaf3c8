use Rattle.std.proofs.Common.{◌≡◌, ◌++◌, take}
use Rattle.std.specs.List.{flat_map}
use Rattle.fuse_text.specs.FieldText.{field}
use Rattle.plain_text.specs.Fronts.{Begins}
use Rattle.fuse_text.proofs.fields.put_pairs.Given as goal

abbrev pub invariant-loop-name : goal.invariant-loop-name
invariant-loop-name l = record {
  text : l.out.items ≡ l.fn.out.items ++ flat_map (λ p. field p.0.now p.1) (take l.name-index l.pairs);
  front : Begins l.fn.out.items l.out.items;
}

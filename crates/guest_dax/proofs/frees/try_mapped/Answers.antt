use Rattle.std.proofs.Common.{arith}
use Rattle.guest_dax.proofs.Searching.{Attempted-after, Attempted-refused, Searches-look, hands-look, unpinned-unblocked, mapped-file}
use Rattle.guest_dax.proofs.FreeingLaws.{Tried-free}
use Rattle.guest_dax.proofs.frees.try_mapped.Goals as goal

pub take_mapped-requires-clause-file : goal.take_mapped-requires-clause-file
take_mapped-requires-clause-file g c =
    let i = c.in-Mapped-default-default-default-eq0 in
    mapped-file _ c.args.range i.file i.chunk i.mode i.pins _ (rw i.is at c.look-word.ensures)

pub take_mapped-requires-clause-seen : goal.take_mapped-requires-clause-seen
take_mapped-requires-clause-seen g c =
    let i = c.in-Mapped-default-default-default-eq0 in
    unpinned-unblocked _ c.args.range i.file i.chunk i.mode i.pins _ (omega (arith, c.requires.range, c.sound_ranges.ensures.looks)) (rw i.is at c.look-word.ensures) (omega (arith, i.pins-is, i.pins-test))

pub returns-in-Free : goal.returns-in-Free
returns-in-Free g c = Tried-free _ c.args.range _ (omega (arith, c.requires.range, c.sound_ranges.ensures.looks)) (rw c.in-Free.is at c.look-word.ensures)

pub returns-in-Mapped-default-default-default-eq0 : goal.returns-in-Mapped-default-default-default-eq0
returns-in-Mapped-default-default-default-eq0 g c =
    let l = c.look-word.ensures in
    Attempted-after _ _ c.args.range c.take_mapped.result _ (Searches-look _ c.args.range c.look-word.result _ l) (hands-look _ c.args.range c.look-word.result _ l) c.take_mapped.ensures

pub returns-in_default : goal.returns-in_default
returns-in_default g c =
    Attempted-refused _ c.args.range c.look-word.result c.refused.result _ (omega (arith, c.requires.range, c.sound_ranges.ensures.looks)) c.requires.moves c.look-word.ensures c.refused.ensures.blocked c.refused.ensures.again

use Rattle.std.proofs.Common.{rules, refl, subst, sym, ◌+◌, ◌*◌}
use mathlib.Core.Option.{none}
use Rattle.atomic_table.specs.Table.{Allows, step}
use Rattle.plain_file.specs.declared.operations.Entry.{Entry}
use Rattle.seats.specs.Seats.{Shows}
use Rattle.files_core.specs.Files.{set_size}
use Rattle.file_share.specs.Table.{files_kit}
use Rattle.file_share.specs.Steps.{Always, DoesAt, sets}
use Rattle.file_share.proofs.Stepping.{sets_size}
use Rattle.file_share.proofs.steps.put_size_of.Goals as goal

pub store-requires : goal.store-requires
store-requires g c = let a = c.requires.at in let t = c.requires.turn in let e = c.requires.entry in let z = c.args.size in let i = 16 * c.args.file + 2 in (
  a.same,
  search rules,
  subst (λ (x : Entry). Allows (Shows files_kit) c.args.top.now.table_id.slots c.args.seat.now.id c.args.seat.now.me i (λ _. z) (λ _. sets x (step c.args.top.now.table_id.slots i z 0 none) c.args.seat.now.me z)) c.requires.named
      (sets_size _ _ _ _ a.live a.inside c.args.entry.now z t.0 t.1 e.0 e.1 c.requires.size c.requires.safe),
)

pub returns-clause-deed : goal.returns-clause-deed
returns-clause-deed g c = let d = c.store.ensures.2 c.args.file refl in (subst (λ (x : Entry). DoesAt c.args.file (set_size x) Always c.args.seat.now c.store.new.seat) (sym c.requires.named) d.0, d.1)

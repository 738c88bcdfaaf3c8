use Rattle.std.proofs.Common.{◌≡◌, ◌∙◌, ap, sym, ◌∷◌, ◌++◌, [], List, length, arith}
use Rattle.page_map.specs.declared.ranges.LogEntry.{LogEntry}
use Rattle.range_tree.specs.declared.slots.Spot.{Spot}
use Rattle.range_tree.specs.Trees.{Agrees, slots_in, place_entry}
use Rattle.range_tree.proofs.Agreeing.{agrees_placed, keeps_placed}
use Rattle.range_tree.proofs.Rooms.{needed_small}
use Rattle.range_tree.proofs.trees.Tree.place.Goals as goal

longer : (c : goal.After-add) → c.add.new.log.items ≡ c.args.self.now ++ place_entry c.args.chunk c.args.range c.args.mode ∷ []
longer c = c.add.ensures.items ∙ ap (λ (xs : List LogEntry). xs ++ place_entry c.args.chunk c.args.range c.args.mode ∷ []) (c.in_ok-reserve.ensures.items ∙ c.self.view_is)

pub invariant_of-self-2 : goal.invariant_of-self-2
invariant_of-self-2 c = let s : Spot = record { chunk = c.args.chunk; range = c.args.range; mode = c.args.mode; entry = c.len-entry.result } in
    let agrees : Agrees (slots_in c.self.inside.spots.items) c.args.self.now = rw (sym c.self.view_is) c.self.invariant.0 in
    (agrees_placed c.self.inside.spots.items c.push.new.self.items c.args.self.now c.add.new.log.items s agrees c.requires.chunk c.requires.range c.requires.free_chunk c.requires.free_range (let e = c.len-entry.ensures in let v = ap (λ (xs : List LogEntry). length xs) c.self.view_is in omega (arith, e, v)) c.in_ok-push.ensures.items (longer c), (let small = needed_small c.push.new.self.items in let i = c.in_ok-push.ensures.len in let r = c.in_ok-reserve.ensures in let a = c.add.ensures in let m = c.saturating_mul.ensures in let s = c.saturating_add-room.ensures in let l = c.len.ensures in omega arith))

pub returns-clause-sound : goal.returns-clause-sound
returns-clause-sound c = λ ranges low. keeps_placed ranges c.args.self.now c.add.new.log.items c.args.chunk c.args.range c.args.mode c.requires.chunk low c.requires.free_chunk c.requires.free_range (longer c)

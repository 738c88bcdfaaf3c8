use Rattle.std.proofs.Common.{◌≡◌, rules, []}
use Rattle.std.proofs.lemmas.List.{append-nil}
use Rattle.fuse_device.specs.Steps.{device_step}
use Rattle.fuse_device.specs.Plans.{whole_plan_step}
use Rattle.fuse_device.specs.Promises.{world}
use Rattle.fuse_device.proofs.Planning.{step_serves_request, device_step_planned, device_step_forgot}
use Rattle.daemon_core.proofs.daemon.Daemon.serve_chain_into.Goals as goal

pub answer_message-requires-clause-boards : goal.answer_message-requires-clause-boards
answer_message-requires-clause-boards g c = step_serves_request _ _ _ c.args.readable.now c.args.room c.in-Carry.message (search rules) c.requires.boards

pub returns-then-is_forget_chain-clause-reply : goal.returns-then-is_forget_chain-clause-reply
returns-then-is_forget_chain-clause-reply g c =
    let none : (device_step (world c.args.self.now (g.F.FileBoard.board c.args.files.now) (g.M.MapBoard.map c.args.map.now)) c.args.readable.now c.args.room).1 ≡ [] = search (rules, device_step_forgot) in
    rw (none, append-nil)

pub returns-in-Silent-clause-reply : goal.returns-in-Silent-clause-reply
unfolding whole_plan_step
returns-in-Silent-clause-reply g c =
    let none : (device_step (world c.args.self.now (g.F.FileBoard.board c.args.files.now) (g.M.MapBoard.map c.args.map.now)) c.args.readable.now c.args.room).1 ≡ [] = search (rules, device_step_planned) in
    rw (none, append-nil)

use Rattle.std.proofs.Common.{◌∙◌, sym}
use Rattle.dax_script.proofs.HoldRoom.{room_now, calls_step, modes_step}
use Rattle.dax_script.proofs.fits.calls_fit.Goals as goal

pub note_mode-count-requires : goal.note_mode-count-requires
note_mode-count-requires c =
    room_now c.args.files.now c.args.ranges c.loop-call.held c.split_at.result.0.now c.loop-call.count c.call-item.result c.held_mode.result
    c.loop-call.invariant.2 c.call-item.array_long c.split_at.ensures.front c.held_mode.ensures (sym c.may_come.ensures ∙ c.if-not-may_come.false)

pub loop-call-preserved : goal.loop-call-preserved
loop-call-preserved c = (
  calls_step c.args.files.now c.args.ranges c.args.calls.now c.loop-call.call-index c.call-item.result c.split_at.result.0.now
      c.loop-call-test.true c.call-item.is (c.split_at.ensures.front ∙ c.loop-call.invariant.1) (sym c.may_come.ensures ∙ c.if-not-may_come.false) ∙ c.loop-call.invariant.0,
  modes_step c.args.calls.now c.loop-call.call-index c.call-item.result _ _ c.held_mode.result
      c.loop-call-test.true c.call-item.is c.loop-call.invariant.1 c.held_mode.ensures c.note_mode-count.ensures.modes,
  c.note_mode-count.ensures.most,
)

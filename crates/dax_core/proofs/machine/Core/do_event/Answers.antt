use Rattle.std.proofs.Common.{◌≡◌, Bool, true, sym, subst}
use Rattle.std.specs.Prelude.{MatchResult}
use Rattle.window_core.specs.Machine.{window_of}
use Rattle.window_core.specs.Window.{Window}
use Rattle.dax_core.specs.Core.{CoreState, Good}
use Rattle.dax_core.specs.Events.{Stepped}
use Rattle.dax_core.proofs.Stepping.{step_keeps, window_stepped, window_same, window_none, files_result, files_stay_good}
use Rattle.dax_core.proofs.machine.Core.do_event.Goals as goal

pub invariant_of-self-then-branch : goal.invariant_of-self-then-branch
invariant_of-self-then-branch c = let was : CoreState = record { guests = c.self.inside.guests; window = window_of c.self.inside.window; files = c.self.inside.files } in let g = c.args.guest in let e = c.args.event.now in
    step_keeps true was (record was { window = window_of c.step_window.new.window }) g e c.self.invariant (window_stepped was g e c.if-guest-self.false c.in_ok-step_window.field-0 (window_of c.step_window.new.window) c.if-branch.true c.in_ok-step_window.ensures)

pub returns-then-branch : goal.returns-then-branch
returns-then-branch c = let was : CoreState = record { guests = c.self.inside.guests; window = window_of c.self.inside.window; files = c.self.inside.files } in let g = c.args.guest in let e = c.args.event.now in
    let now : CoreState = record was { window = window_of c.step_window.new.window } in
    subst (λ (x : CoreState). Stepped true x g e now) c.self.view_is (window_stepped was g e c.if-guest-self.false c.in_ok-step_window.field-0 (window_of c.step_window.new.window) c.if-branch.true c.in_ok-step_window.ensures)

pub invariant_of-self-2 : goal.invariant_of-self-2
invariant_of-self-2 c = let was : CoreState = record { guests = c.self.inside.guests; window = window_of c.self.inside.window; files = c.self.inside.files } in let g = c.args.guest in let e = c.args.event.now in
    let h = window_of c.step_window.new.window in
    let same = window_same was g e c.if-guest-self.false c.in_ok-step_window.field-0 h c.if-branch.false c.in_ok-step_window.ensures in
    let none = window_none was g e c.if-guest-self.false c.in_ok-step_window.field-0 h c.if-branch.false c.in_ok-step_window.ensures in
    subst (λ (x : Window). Good (record { guests = c.self.inside.guests; window = x; files = c.step_files.new.files })) (sym same) (files_stay_good was g e c.if-guest-self.false none c.step_files.result c.step_files.new.files c.self.invariant c.step_files.ensures)

pub returns : goal.returns
returns c = let was : CoreState = record { guests = c.self.inside.guests; window = window_of c.self.inside.window; files = c.self.inside.files } in let g = c.args.guest in let e = c.args.event.now in
    let h = window_of c.step_window.new.window in
    let same = window_same was g e c.if-guest-self.false c.in_ok-step_window.field-0 h c.if-branch.false c.in_ok-step_window.ensures in
    let none = window_none was g e c.if-guest-self.false c.in_ok-step_window.field-0 h c.if-branch.false c.in_ok-step_window.ensures in
    let guests = c.self.inside.guests in let files = c.step_files.new.files in
    subst (λ (x : CoreState × Window). MatchResult c.step_files.result (λ (done : Bool). Stepped done x.0 g e (record { guests = guests; window = x.1; files = files })) (λ _. record { guests = guests; window = x.1; files = files } ≡ x.0)) (let p = c.self.view_is in let q = sym same in λ i. (p i, q i))
    (files_result was g e c.if-guest-self.false none c.step_files.result files c.step_files.ensures)

use Rattle.std.proofs.Common.{◌<◌, ◌∙◌, Option, Some, None, subst, arith, length}
use Rattle.page_map.specs.declared.ranges.Target.{Target}
use Rattle.window_core.specs.Window.{IsTarget}
use Rattle.window_core.specs.Machine.{window_of}
use Rattle.window_core.proofs.Places.{at_default}
use Rattle.window_core.proofs.Keeps.{moving_inside}
use Rattle.window_core.proofs.Reading.{may_not, not_at}
use Rattle.window_core.proofs.window.CoreWindow.find_spot.Goals as goal

pub returns-then-not-is_at : goal.returns-then-not-is_at
returns-then-not-is_at c = let h = window_of c.args.self.now in let r = c.in-Some.range in let t = c.in-Some-index.target in
    let near : r < length h.targets = (let l = moving_inside h r c.args.guest c.in-Some.ensures in let n = c.requires.2.targets_all in omega arith) in
    let is = at_default h.targets r c.index.result.now None near c.index.ensures ∙ c.in-Some-index.is in
    not_at h c.requires c.args.guest r c.in-Some.ensures c.args.chunk c.args.mode t is c.if-not-is_at.ensures

pub may_settle-requires : goal.may_settle-requires
may_settle-requires c = let h = window_of c.args.self.now in let r = c.in-Some.range in let t = c.in-Some-index.target in
    let near : r < length h.targets = (let l = moving_inside h r c.args.guest c.in-Some.ensures in let n = c.requires.2.targets_all in omega arith) in
    let is = at_default h.targets r c.index.result.now None near c.index.ensures ∙ c.in-Some-index.is in
    let known : IsTarget h (Some t) = subst (λ (o : Option Target). IsTarget h o) is (c.requires.2.targets_known r) in known.0

pub returns-then-not-may_settle : goal.returns-then-not-may_settle
returns-then-not-may_settle c = let h = window_of c.args.self.now in let r = c.in-Some.range in let t = c.in-Some-index.target in
    let near : r < length h.targets = (let l = moving_inside h r c.args.guest c.in-Some.ensures in let n = c.requires.2.targets_all in omega arith) in
    let is = at_default h.targets r c.index.result.now None near c.index.ensures ∙ c.in-Some-index.is in
    may_not h c.requires c.args.guest r c.in-Some.ensures c.args.chunk c.args.mode t is c.if-not-may_settle.ensures

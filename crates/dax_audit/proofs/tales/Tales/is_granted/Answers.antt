use Rattle.std.proofs.Common.{◌≡◌, ◌∙◌, ap, sym, refl, length, Some, None, arith}
use Rattle.std.proofs.lemmas.Option.{slice_get_within}
use Rattle.page_map.specs.Logs.{is_writable}
use Rattle.range_tree.specs.Logs.{is_live}
use Rattle.dax_script.specs.Asks.{held_of, calls_of}
use Rattle.dax_audit.specs.Rules.{grants}
use Rattle.dax_audit.specs.Tables.{log_in, sizes_in, seen_in, end_in}
use Rattle.dax_audit.proofs.Lived.{lives_log}
use Rattle.dax_audit.proofs.Taled.{not_live, has_sizes, granted_by}
use Rattle.dax_audit.proofs.tales.Tales.is_granted.Goals as goal

pub returns-in_default : goal.returns-in_default
unfolding grants
returns-in_default c =
    let is : held_of c.args.asked.now ≡ None = sym c.held.ensures ∙ c.in_default.is in
    rw is refl

pub returns-then-not-is_live_in : goal.returns-then-not-is_live_in
returns-then-not-is_live_in c =
    let j = c.args.self.now in
    let k = c.args.through.now in
    let held = c.in-Some.held in
    let is : held_of c.args.asked.now ≡ Some held = sym c.held.ensures ∙ c.in-Some.is in
    let live : is_live (is_writable held.mode) (log_in j.t.now held.file) held.chunk k.entry k.upto ≡ c.is_live_in.result = sym (rw (c.is_written.ensures, lives_log j.t.now j.lives.now c.requires.lives held.file) at c.is_live_in.ensures) in
    rw is (sym (not_live j.script.now j.t.now c.args.guest c.args.call c.args.end held k (live ∙ c.if-not-is_live_in.true)))

pub next_place-next-requires-clause-call : goal.next_place-next-requires-clause-call
next_place-next-requires-clause-call c =
    let few = slice_get_within (calls_of c.args.self.now.script.now c.args.guest) c.args.call c.args.asked.now c.requires.asked in
    omega (arith, ap length c.guest_calls-calls.ensures)

pub overflow_sub-sizes : goal.overflow_sub-sizes
overflow_sub-sizes c =
    let j = c.args.self.now in
    let k = c.args.through.now in
    let held = c.in-Some.held in
    let is : held_of c.args.asked.now ≡ Some held = sym c.held.ensures ∙ c.in-Some.is in
    let live : is_live (is_writable held.mode) (log_in j.t.now held.file) held.chunk k.entry k.upto ≡ c.is_live_in.result = sym (rw (c.is_written.ensures, lives_log j.t.now j.lives.now c.requires.lives held.file) at c.is_live_in.ensures) in
    let some = has_sizes j.script.now j.t.now j.replays.now c.requires.replays held k (live ∙ c.if-not-is_live_in.false) in
    let same = ap length c.sizes_of-sizes.ensures in
    omega arith

pub is_end_among-requires : goal.is_end_among-requires
is_end_among-requires c =
    let j = c.args.self.now in
    let k = c.args.through.now in
    let held = c.in-Some.held in
    let is : held_of c.args.asked.now ≡ Some held = sym c.held.ensures ∙ c.in-Some.is in
    let live : is_live (is_writable held.mode) (log_in j.t.now held.file) held.chunk k.entry k.upto ≡ c.is_live_in.result = sym (rw (c.is_written.ensures, lives_log j.t.now j.lives.now c.requires.lives held.file) at c.is_live_in.ensures) in
    let some = has_sizes j.script.now j.t.now j.replays.now c.requires.replays held k (live ∙ c.if-not-is_live_in.false) in
    let same = ap length c.sizes_of-sizes.ensures in
    omega (arith, c.last_place-high.ensures)

pub returns : goal.returns
returns c =
    let j = c.args.self.now in
    let k = c.args.through.now in
    let held = c.in-Some.held in
    let is : held_of c.args.asked.now ≡ Some held = sym c.held.ensures ∙ c.in-Some.is in
    let live : is_live (is_writable held.mode) (log_in j.t.now held.file) held.chunk k.entry k.upto ≡ c.is_live_in.result = sym (rw (c.is_written.ensures, lives_log j.t.now j.lives.now c.requires.lives held.file) at c.is_live_in.ensures) in
    let top = rw (c.next_place-next.ensures, c.guest_calls-calls.ensures, c.guest_lines.ensures, c.sizes_of-sizes.ensures) at c.last_place-high.ensures in
    let by_table = granted_by j.script.now j.t.now j.replays.now j.looks.now c.requires.replays c.requires.looks c.args.guest c.args.call c.args.end c.last_place-high.result c.args.asked.now _ held k c.requires.line c.requires.asked is (live ∙ c.if-not-is_live_in.false) top in
    let found : c.is_end_among.result ≡ end_in (sizes_in j.replays.now held.file) held.chunk c.args.end (seen_in j.looks.now c.args.guest c.args.call) c.last_place-high.result = rw (c.sizes_of-sizes.ensures, c.seen_of.ensures) at c.is_end_among.ensures in
    rw is (found ∙ sym by_table)

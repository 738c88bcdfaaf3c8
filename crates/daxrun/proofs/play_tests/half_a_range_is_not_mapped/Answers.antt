use Rattle.std.proofs.Common.{◌≡◌, ◌∙◌, ap, sym, subst, refl, ◌<◌, ◌≤◌, List, length, get_or, Ok, arith}
use Rattle.std.proofs.lemmas.List.{length-replicate}
use Rattle.plain_file.specs.declared.operations.First.{First}
use Rattle.plain_file.specs.File.{max_file}
use Rattle.plain_file.specs.Board.{BoardView}
use Rattle.plain_file.specs.Limits.{max_files}
use Rattle.plain_file.specs.Plain.{new_file}
use Rattle.page_map.specs.Board.{Hands}
use Rattle.range_share.specs.Boards.{board_of}
use Rattle.fuse_device.specs.State.{State}
use Rattle.guest_wire.specs.Wires.{WireView, CanShare, boards}
use Rattle.guest_run.proofs.Places.{all_at, map_len}
use Rattle.guest_threads.specs.Jobs.{IsTeam, team, team_of, leasers_for}
use Rattle.guest_threads.proofs.Ended.{firsts_new, ranges_new}
use Rattle.guest_threads.proofs.Backing.{team_many}
use Rattle.daxrun.specs.Session.{firsts_of, empty_firsts}
use Rattle.daxrun.proofs.Opening.{firsts_small}
use Rattle.daxrun.proofs.Teams.{firsts_many, session_team}
use Rattle.daxrun.proofs.Halving.{half_may, half_count, half_free, half_share, half_counted, half_taken}
use Rattle.daxrun.proofs.play_tests.half_a_range_is_not_mapped.Goals as goal

pub open_tables-requires-clause-small : goal.open_tables-requires-clause-small
open_tables-requires-clause-small g c = λ k d lt.
    let fs = c.in-Some.script.files in
    let all = firsts_small fs c.in-Some.ensures.files.small in
    let e = c.in_ok-firsts.ensures ∙ ap firsts_of c.as_slice-lines.ensures in
    subst (λ (xs : List First). k < length xs → (get_or xs k d).size ≤ max_file) (sym e) (all_at (λ (f : First). f.size ≤ max_file) (firsts_of fs) k d all) lt

pub new-map-requires-clause-may : goal.new-map-requires-clause-may
new-map-requires-clause-may g c =
    let s = c.in-Some.script in
    let o = c.in_ok-tables.ensures in
    let tables = c.in_ok-tables.tables in
    let lines = c.as_slice-lines in
    let guests = c.as_slice-guests.result.now in
    let firsts = c.in_ok-firsts.firsts in
    let n = length (team_of 0 guests) in
    let some : 0 < n = (let at_least = (team_many 0 guests).0 in let none = c.if-members-eq0.false in omega (arith, at_least, none)) in
    let session = c.in_ok-daemon-2 in
    let t = team session.daemon c.as_slice-handles.result.now tables.file_pass tables.range_pass n in
    let is : IsTeam t = session_team s c.in-Some.ensures lines.result.now lines.ensures firsts c.in_ok-firsts.ensures 0 guests c.as_slice-guests.ensures session.daemon session.opened.items
    c.as_slice-handles.result.now c.as_slice-handles.ensures.value session.ensures.count session.ensures.opened tables o in
    half_may t is some c.split-pass.result c.split-pass.ensures.given

pub take-requires-clause-range : goal.take-requires-clause-range
take-requires-clause-range g c =
    let s = c.in-Some.script in
    let o = c.in_ok-tables.ensures in
    let tables = c.in_ok-tables.tables in
    let lines = c.as_slice-lines in
    let guests = c.as_slice-guests.result.now in
    let firsts = c.in_ok-firsts.firsts in
    let n = length (team_of 0 guests) in
    let some : 0 < n = (let at_least = (team_many 0 guests).0 in let none = c.if-members-eq0.false in omega (arith, at_least, none)) in
    let session = c.in_ok-daemon-2 in
    let t = team session.daemon c.as_slice-handles.result.now tables.file_pass tables.range_pass n in
    let is : IsTeam t = session_team s c.in-Some.ensures lines.result.now lines.ensures firsts c.in_ok-firsts.ensures 0 guests c.as_slice-guests.ensures session.daemon session.opened.items
    c.as_slice-handles.result.now c.as_slice-handles.ensures.value session.ensures.count session.ensures.opened tables o in
    let given = c.new-map.ensures.pass ∙ c.split-pass.ensures.given in
    let ranges = ranges_new tables.ranges tables.range_pass s.ranges (length firsts) n o.ranges_pass in
    let count = half_count t is some c.new-map.result.pass given in
    let none = c.if-count-eq0.false in omega (arith, count, ranges, none)

pub take-requires-clause-free : goal.take-requires-clause-free
take-requires-clause-free g c =
    let s = c.in-Some.script in
    let o = c.in_ok-tables.ensures in
    let tables = c.in_ok-tables.tables in
    let lines = c.as_slice-lines in
    let guests = c.as_slice-guests.result.now in
    let firsts = c.in_ok-firsts.firsts in
    let n = length (team_of 0 guests) in
    let some : 0 < n = (let at_least = (team_many 0 guests).0 in let none = c.if-members-eq0.false in omega (arith, at_least, none)) in
    let session = c.in_ok-daemon-2 in
    let t = team session.daemon c.as_slice-handles.result.now tables.file_pass tables.range_pass n in
    let is : IsTeam t = session_team s c.in-Some.ensures lines.result.now lines.ensures firsts c.in_ok-firsts.ensures 0 guests c.as_slice-guests.ensures session.daemon session.opened.items
    c.as_slice-handles.result.now c.as_slice-handles.ensures.value session.ensures.count session.ensures.opened tables o in
    half_free t is some c.new-map.result.pass (c.new-map.ensures.pass ∙ c.split-pass.ensures.given)

pub submit-requires-clause-boards : goal.submit-requires-clause-boards
submit-requires-clause-boards g c = λ honest.
    let s = c.in-Some.script in
    let o = c.in_ok-tables.ensures in
    let tables = c.in_ok-tables.tables in
    let lines = c.as_slice-lines in
    let guests = c.as_slice-guests.result.now in
    let firsts = c.in_ok-firsts.firsts in
    let n = length (team_of 0 guests) in
    let some : 0 < n = (let at_least = (team_many 0 guests).0 in let none = c.if-members-eq0.false in omega (arith, at_least, none)) in
    let session = c.in_ok-daemon-2 in
    let t = team session.daemon c.as_slice-handles.result.now tables.file_pass tables.range_pass n in
    let is : IsTeam t = session_team s c.in-Some.ensures lines.result.now lines.ensures firsts c.in_ok-firsts.ensures 0 guests c.as_slice-guests.ensures session.daemon session.opened.items
    c.as_slice-handles.result.now c.as_slice-handles.ensures.value session.ensures.count session.ensures.opened tables o in
    let given = c.new-map.ensures.pass ∙ c.split-pass.ensures.given in
    let taken = half_taken (board_of c.new-map.result.pass) (board_of c.take.new.self.pass) 0 (Ok c.in-Ok.field-0) c.in-Ok.field-0 refl c.in-Ok.ensures in
    let state : c.in_ok-daemon-2.daemon ≡ c.in_ok-wire.wire.daemon.now = sym (ap (λ (w : WireView). w.state) c.in_ok-wire.ensures.wire) in
    let sixteen = ap (λ (v : BoardView). length v.files) c.in_ok-files.ensures ∙ (map_len new_file empty_firsts ∙ length-replicate {A = First} max_files (record { size = 0; fill = 0 })) in
    let same_firsts = ap (λ (l : List First). length l) (firsts_new tables.files tables.file_pass firsts (leasers_for s.ranges n) o.files_pass) in
    let enough : length tables.file_pass.view.mine.firsts ≤ length c.in_ok-files.files.files = (let most = c.in-Some.ensures.files.few in let many = firsts_many s c.in-Some.ensures lines.result.now lines.ensures firsts c.in_ok-firsts.ensures in omega (arith, most, many, sixteen, same_firsts)) in
    let free = ap (λ (v : BoardView). v.hands.turn) c.in_ok-files.ensures in
    subst (λ (d : State). CanShare d (boards c.in_ok-files.files (board_of c.take.new.self.pass))) state
    (half_share t is some c.new-map.result.pass given c.in_ok-files.files 0 (board_of c.take.new.self.pass) enough free taken)

pub target-requires : goal.target-requires
target-requires g c =
    let s = c.in-Some.script in
    let o = c.in_ok-tables.ensures in
    let tables = c.in_ok-tables.tables in
    let lines = c.as_slice-lines in
    let guests = c.as_slice-guests.result.now in
    let firsts = c.in_ok-firsts.firsts in
    let n = length (team_of 0 guests) in
    let some : 0 < n = (let at_least = (team_many 0 guests).0 in let none = c.if-members-eq0.false in omega (arith, at_least, none)) in
    let session = c.in_ok-daemon-2 in
    let t = team session.daemon c.as_slice-handles.result.now tables.file_pass tables.range_pass n in
    let is : IsTeam t = session_team s c.in-Some.ensures lines.result.now lines.ensures firsts c.in_ok-firsts.ensures 0 guests c.as_slice-guests.ensures session.daemon session.opened.items
    c.as_slice-handles.result.now c.as_slice-handles.ensures.value session.ensures.count session.ensures.opened tables o in
    let given = c.new-map.ensures.pass ∙ c.split-pass.ensures.given in
    let taken = half_taken (board_of c.new-map.result.pass) (board_of c.take.new.self.pass) 0 (Ok c.in-Ok.field-0) c.in-Ok.field-0 refl c.in-Ok.ensures in
    let ranges = ranges_new tables.ranges tables.range_pass s.ranges (length firsts) n o.ranges_pass in
    let count = half_counted t is some c.new-map.result.pass given 0 (board_of c.take.new.self.pass) taken in
    let kept = ap (λ (h : Hands). length h.pins) c.submit.ensures.boards.map.hands in
    let none = c.if-count-eq0.false in omega (arith, count, ranges, kept, none)

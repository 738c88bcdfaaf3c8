use Rattle.guest_threads.proofs.Reading.{reread_files, reread_ranges, reread_on}
use Rattle.guest_threads.proofs.tellings.tell_file.Goals as goal

pub returns-in_err-log-clause-reread : goal.returns-in_err-log-clause-reread
returns-in_err-log-clause-reread g c =
    let p = c.args.file_pass.now in
    let q = c.args.range_pass.now in
    let p' = c.marks.new.pass in
    let a = reread_files p q p' c.requires.first c.marks.ensures.kept in
    reread_on p q p' q p' c.log_of.new.pass a (reread_ranges p' q c.args.file c.log_of.new.pass a.later.first c.log_of.ensures.kept)

pub returns-clause-reread : goal.returns-clause-reread
returns-clause-reread g c =
    let p = c.args.file_pass.now in
    let q = c.args.range_pass.now in
    let p' = c.marks.new.pass in
    let a = reread_files p q p' c.requires.first c.marks.ensures.kept in
    reread_on p q p' q p' c.log_of.new.pass a (reread_ranges p' q c.args.file c.log_of.new.pass a.later.first c.log_of.ensures.kept)

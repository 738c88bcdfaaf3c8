use Rattle.std.proofs.Common.{◌∙◌, ◌+◌, sym, subst}
use Rattle.guest_threads.specs.Jobs.{history_seen, log_seen}
use Rattle.guest_threads.specs.Ran.{AreFilesTold}
use Rattle.guest_threads.proofs.Reading.{reread_on, reread_in, read_more, told_files}
use Rattle.guest_threads.proofs.tellings.tell_files.Goals as goal

pub tell_file-requires-clause-tables : goal.tell_file-requires-clause-tables
tell_file-requires-clause-tables g c =
    let later = c.loop-file.invariant.reread.later in
    (later.files_table ∙ c.requires.tables.0, later.ranges_table ∙ c.requires.tables.1)

pub tell_file-requires-clause-first : goal.tell_file-requires-clause-first
tell_file-requires-clause-first g c = c.loop-file.invariant.reread.later.first

pub tell_file-requires-clause-all_in : goal.tell_file-requires-clause-all_in
tell_file-requires-clause-all_in g c = reread_in c.args.file_pass.now c.args.range_pass.now c.loop-file.file_pass c.loop-file.range_pass c.loop-file.invariant.reread c.requires.all_in

pub returns-in_err-one-clause-reread : goal.returns-in_err-one-clause-reread
returns-in_err-one-clause-reread g c =
    let was = c.loop-file in
    let now = c.tell_file.new in
    reread_on c.args.file_pass.now c.args.range_pass.now was.file_pass was.range_pass now.file_pass now.range_pass was.invariant.reread c.tell_file.ensures.reread

pub returns-in_err-push-clause-reread : goal.returns-in_err-push-clause-reread
returns-in_err-push-clause-reread g c =
    let was = c.loop-file in
    let now = c.tell_file.new in
    reread_on c.args.file_pass.now c.args.range_pass.now was.file_pass was.range_pass now.file_pass now.range_pass was.invariant.reread c.tell_file.ensures.reread

pub loop-file-preserved : goal.loop-file-preserved
loop-file-preserved g c =
    let was = c.loop-file in
    let now = c.tell_file.new in
    let inv = was.invariant in
    let r = c.tell_file.ensures.reread in
    let e = c.in_ok-one.ensures in record {
      reread = reread_on c.args.file_pass.now c.args.range_pass.now was.file_pass was.range_pass now.file_pass now.range_pass inv.reread r;
      read = read_more was.file_pass was.range_pass now.file_pass now.range_pass r was.file c.tell_file.ensures.others inv.read e.read;
      told = subst (AreFilesTold (history_seen now.file_pass) (log_seen now.range_pass) (was.file + 1)) (sym c.in_ok-push.ensures.ok)
          (told_files was.file_pass was.range_pass now.file_pass now.range_pass r was.file c.tell_file.ensures.others was.told c.in_ok-one.one inv.told e.told);
    }

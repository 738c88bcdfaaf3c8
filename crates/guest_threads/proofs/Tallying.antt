-- What the boards of a team's members counted, as the first passes keep it.
use Rattle.std.proofs.Common.{◌≡◌, ◌∙◌, ap, sym, subst, ℕ, ◌+◌, ◌-◌, ◌^◌, ◌<◌, ◌≤◌, List, length, slice_get, Some, Result, Ok, Err, arith}
use Rattle.std.specs.Prelude.{min, IfOk}
use Rattle.std.specs.Result.{result_ok}
use Rattle.std.proofs.lemmas.Option.{none-some, same_Some}
use Rattle.atomic_table.specs.Seated.{TableId}
use Rattle.plain_file.specs.declared.refusals.Memory.{Memory}
use Rattle.plain_file.specs.Board.{file_at}
use Rattle.file_share.specs.Known.{Known as FilesKnown}
use Rattle.file_share.specs.Boards.{file_view}
use Rattle.file_share.proofs.Listing.{length_listed}
use Rattle.range_share.specs.Known.{Known as RangesKnown}
use Rattle.dax_script.specs.declared.scripts.Call.{Call}
use Rattle.transcript_text.specs.declared.transcripts.GuestPart.{GuestPart}
use Rattle.transcript_text.specs.declared.transcripts.Numbered.{Numbered}
use Rattle.guest_dax.specs.Stands.{Stand}
use Rattle.guest_run.specs.Working.{HasCounted}
use Rattle.guest_run.proofs.Places.{within, found}
use Rattle.guest_threads.specs.declared.jobs.Job.{Job}
use Rattle.guest_threads.specs.Jobs.{Team, IsTeam, IsOut, HaveRun, HasTallied, HaveTallied, HasJoined, AreTold, AreSeated, AreTallied, team_of, stand_of, firsts_of, count_of, leasers_for}
use Rattle.guest_threads.proofs.Fresh.{stand_is, fresh_refusals}
use Rattle.guest_threads.proofs.Split.{files_many}
use Rattle.guest_threads.proofs.Returning.{its_table}
use Rattle.guest_threads.proofs.Backing.{team_here, team_len}

-- ---- a new job

module _ (t : Team) (n : ℕ) (j : Job) (is : IsTeam t) (o : IsOut t n j) where
  -- it has counted nothing
  no_rounds : (stand_of j).map.ranges.rounds ≡ 0
  no_rounds = ap (λ (s : Stand). s.map.ranges.rounds) (stand_is t n j is o)

  no_sweeps : (stand_of j).map.ranges.sweeps ≡ 0
  no_sweeps = ap (λ (s : Stand). s.map.ranges.sweeps) (stand_is t n j is o)

  no_refusals : (f : ℕ) → (file_at (stand_of j).files f).refusals ≡ 0
  no_refusals f = ap (λ (s : Stand). (file_at s.files f).refusals) (stand_is t n j is o) ∙ fresh_refusals t.files.table (firsts_of t) (leasers_for (count_of t) t.guests) n f

-- ---- one job's work

-- a guest that made its calls: its number is one of the guests
pub counted_by : (background : ℕ) (guests : List (List Call)) (n : ℕ) (j k : Job) (cs : List Call) (r : Result (List Numbered) Memory) → n < length guests → slice_get guests n ≡ Some cs → k.lines ≡ result_ok r
    → IfOk r (HasCounted (stand_of j) (stand_of k) cs) → HasTallied background guests n j k
counted_by background guests n j k cs r lt at is counted = record {
  counted = λ ds ls at' told. go r ds ls (same_Some cs ds (sym at ∙ at')) (sym is ∙ told) counted;
  swept = λ ls far told. absurd (omega (arith, lt, far));
}
  where
    go : (r : Result (List Numbered) Memory) (ds : List Call) (ls : List Numbered) → cs ≡ ds → result_ok r ≡ Some ls → IfOk r (HasCounted (stand_of j) (stand_of k) cs) → HasCounted (stand_of j) (stand_of k) ds ls
    go (Ok xs) ds ls same told counted = subst (λ (z : List Call × List Numbered). HasCounted (stand_of j) (stand_of k) z.0 z.1) (λ i. (same i, same_Some xs ls told i)) counted
    go (Err e) ds ls same told counted = absurd (none-some ls told)

-- the background: its number is no guest's
pub swept_by : (background : ℕ) (guests : List (List Call)) (n : ℕ) (j k : Job) → length guests ≤ n
    → ((ls : List Numbered) → k.lines ≡ Some ls → min ((stand_of j).map.ranges.sweeps + background) (2 ^ 64 - 1) ≤ (stand_of k).map.ranges.sweeps) → HasTallied background guests n j k
swept_by background guests n j k far swept = record {
  counted = λ cs ls at told. let w = within guests n cs at in absurd (omega (arith, w, far));
  swept = λ ls past told. swept ls told;
}

-- ---- all of them

module _ (t : Team) (background : ℕ) (guests : List (List Call)) (old new : List Job) (p : FilesKnown) (q : RangesKnown) (s : AreSeated t (team_of background guests) old p q) (ran : HaveRun (team_of background guests) old new)
    (tallied : HaveTallied background guests old new) (p' : FilesKnown) (q' : RangesKnown) (joined : HasJoined p q new (length new) p' q') (parts : List GuestPart) (told : AreTold new parts) where
  as_many : length new ≡ t.guests
  as_many = ran.0 ∙ s.are_out.0

  -- the files of a job's board are those of the first pass
  files_near : (g : ℕ) (k : Job) (f : ℕ) → slice_get new g ≡ Some k → f < length p'.view.mine.files → f < length (stand_of k).files.files
  files_near g k f has near =
      let v = k.guest.dax.files.pass.view in
      let of_board = length_listed (file_view v) (length v.mine.files) in
      let table = its_table t (team_of background guests) old new p q s ran p' q' joined parts told g k has in
      let of_job : length v.mine.files ≡ length (firsts_of t) = k.guest.dax.files.wide ∙ (ap (λ (x : TableId). x.slots) (sym k.guest.dax.files.own ∙ table) ∙ s.is_team.slots) in
      let of_first : length p'.view.mine.files ≡ length (firsts_of t) = joined.later.files_long ∙ (ap (λ (x : FilesKnown). length x.view.mine.files) s.files ∙ files_many t s.is_team t.guests) in
      omega (arith, near, of_board, of_job, of_first)

  pub all_tallied : AreTallied background guests p' q' parts
  all_tallied = record {
    guests_are = λ g cs x at at'.
        let lt : g < t.guests = (let w = within (team_of background guests) g cs (team_here background guests g cs at) in omega (arith, w, s.all)) in
        let (j, has) = found old g (omega (arith, lt, s.are_out.0)) in
        let (k, has') = found new g (omega (arith, lt, as_many)) in
        let left = joined.left g k (within new g k has') has' in
        let counted = (tallied g j k has has').counted cs x.lines at (told.1 g k x has' at').1 in
        let o = s.are_out.1 g j has in record {
          mine = left.mine;
          refusals = left.refusals;
          files_back = left.files_back;
          leased = λ f near. left.refused f (files_near g k f has' near) ∙ counted.refusals f (no_refusals t g j s.is_team o f);
          moved = left.moved;
          noted = left.noted;
          ranges_back = left.ranges_back;
          busy = left.rounds ∙ counted.rounds (no_rounds t g j s.is_team o);
        };
    background_is = λ some.
        let n = length guests in
        let lt : n < t.guests = (let more = team_len background guests some in omega (arith, more, s.all)) in
        let (j, has) = found old n (omega (arith, lt, s.are_out.0)) in
        let (k, has') = found new n (omega (arith, lt, as_many)) in
        let (x, at) = found parts n (let many = told.0 in omega (arith, lt, as_many, many)) in
        let left = joined.left n k (within new n k has') has' in
        let swept = (tallied n j k has has').swept x.lines (omega arith) (told.1 n k x has' at).1 in
        let same : (stand_of j).map.ranges.sweeps + background ≡ background = (let none = no_sweeps t n j s.is_team (s.are_out.1 n j has) in omega (arith, none)) in record {
          moved = left.moved;
          noted = left.noted;
          ranges_back = left.ranges_back;
          swept = subst (λ (z : ℕ × ℕ). min z.0 (2 ^ 64 - 1) ≤ z.1) (λ i. (same i, sym left.sweeps i)) swept;
        };
  }

-- The team of a script: its session and its tables were opened.
use Rattle.std.proofs.Common.{◌≡◌, ◌∙◌, ap, sym, subst, refl, ℕ, ◌≤◌, List, length, arith}
use Rattle.plain_file.specs.declared.operations.First.{First}
use Rattle.dax_script.specs.declared.scripts.Call.{Call}
use Rattle.dax_script.specs.declared.scripts.FileLine.{FileLine}
use Rattle.dax_script.specs.declared.scripts.Script.{Script}
use Rattle.fuse_device.specs.State.{State}
use Rattle.guest_wire.specs.declared.driver.FileRef.{FileRef}
use Rattle.guest_run.proofs.Places.{map_len}
use Rattle.guest_threads.specs.declared.runs.Tables.{Tables}
use Rattle.guest_threads.specs.Jobs.{IsServed, IsTeam, team, team_of, leasers_for}
use Rattle.guest_threads.specs.Ran.{AreOpened}
use Rattle.guest_threads.proofs.Ended.{opened_team}
use Rattle.guest_threads.proofs.Backing.{team_many}
use Rattle.daxrun.specs.Carried.{IsPlayable}
use Rattle.daxrun.specs.Session.{firsts_of, IsOpenAt}
use Rattle.daxrun.proofs.Playing.{served_open}

module _ (s : Script) (may : IsPlayable s) (lines : List FileLine) (same : lines ≡ s.files) (firsts : List First) (told : firsts ≡ firsts_of lines) where
  pub firsts_many : length firsts ≡ length s.files
  firsts_many = ap (λ (l : List First). length l) (told ∙ ap firsts_of same) ∙ map_len (λ (f : FileLine). f.first) s.files

  pub session_team : (background : ℕ) (guests : List (List Call)) → guests ≡ s.guests → (daemon : State) (opened refs : List FileRef) → refs ≡ opened → length opened ≡ length lines → IsOpenAt lines s.ranges opened daemon
      → (tables : Tables) → AreOpened firsts s.ranges (length (team_of background guests)) tables → IsTeam (team daemon refs tables.file_pass tables.range_pass (length (team_of background guests)))
  session_team background guests members daemon opened refs given count open_at tables o =
      let n = length (team_of background guests) in
      let few : n ≤ 17 = (let more = (team_many background guests).1 in let most = may.guests.most in let len = ap (λ (l : List (List Call)). length l) members in omega (arith, more, most, len)) in
      let many = firsts_many in
      let at = subst (λ (fs : List FileLine). IsOpenAt fs s.ranges opened daemon) same open_at in
      let served : IsServed daemon refs (length firsts) s.ranges = subst (λ (z : List FileRef × ℕ). IsServed daemon z.0 z.1 s.ranges) (λ i. (sym given i, sym many i))
      (served_open s.files s.ranges opened daemon (count ∙ ap (λ (l : List FileLine). length l) same) at) in
      let files_few : length firsts ≤ 64 = (let most = may.files.few in omega (arith, most, many)) in
      opened_team daemon refs tables.files tables.ranges tables.file_pass tables.range_pass firsts (leasers_for s.ranges n) s.ranges (length firsts) n
      o.files_pass o.ranges_pass refl refl o.slots few files_few may.ranges.most may.ranges.not_one served

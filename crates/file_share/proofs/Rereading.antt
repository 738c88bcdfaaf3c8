-- What holds of a pass after histories were read again is what held before.
use Rattle.std.proofs.Common.{◌≡◌, ◌∙◌, ap, sym, subst, refl, ℕ, map}
use lib.ListN.{get_elem?}
use Rattle.seats.specs.Views.{AllIn}
use Rattle.plain_file.specs.History.{Past}
use Rattle.files_core.specs.Good.{size_of}
use Rattle.file_share.specs.declared.marks.Marks.{Marks}
use Rattle.file_share.specs.Table.{first_at, first_in}
use Rattle.file_share.specs.Steps.{Accounted, NoTurn}
use Rattle.file_share.specs.Known.{Known, IsIdle, IsReread, AreMarksOf, mark_of, past_seen}

pub reread_same : (p : Known) → NoTurn p.view → IsReread p p
reread_same p free = record { table = refl; mark = refl; live = refl; guest = refl; noted = refl; numbers = refl; firsts = refl; leasers = refl; long = refl; seen = λ _. refl; turns = free; leases = λ _. refl; bars = λ _. refl }

pub reread_then : (p q r : Known) → IsReread p q → IsReread q r → IsReread p r
reread_then p q r a b = record {
  table = b.table ∙ a.table;
  mark = b.mark ∙ a.mark;
  live = b.live ∙ a.live;
  guest = b.guest ∙ a.guest;
  noted = b.noted ∙ a.noted;
  numbers = b.numbers ∙ a.numbers;
  firsts = b.firsts ∙ a.firsts;
  leasers = b.leasers ∙ a.leasers;
  long = b.long ∙ a.long;
  seen = λ f. b.seen f ∙ a.seen f;
  turns = b.turns;
  leases = λ f. b.leases f ∙ a.leases f;
  bars = λ f. b.bars f ∙ a.bars f;
}

module _ (p q : Known) (r : IsReread p q) where
  pub reread_idle : IsIdle p.view → IsIdle q.view
  reread_idle idle f = (r.turns f, r.leases f ∙ (idle f).1, r.bars f ∙ (idle f).2)

  pub reread_in : AllIn p.view → AllIn q.view
  reread_in all = (r.guest ∙ all.0, λ n is. all.1 n (sym (ap (λ ns. get_elem? ns n) r.numbers) ∙ is))

  pub reread_first : (f : ℕ) → first_at q.view f ≡ first_at p.view f
  reread_first f = ap (λ firsts. first_in firsts f) r.firsts

  pub reread_past : (f : ℕ) → past_seen q.view f ≡ past_seen p.view f
  reread_past f = let first = reread_first f in let seen = r.seen f in λ i. record { first = first i; history = seen i }

  pub reread_account : (f : ℕ) → Accounted p.view.numbers f (past_seen p.view f) → Accounted q.view.numbers f (past_seen q.view f)
  reread_account f told = subst (λ (past : Past). Accounted q.view.numbers f past) (sym (reread_past f)) (subst (λ ns. Accounted ns f (past_seen p.view f)) (sym r.numbers) told)

  pub reread_marks : (f : ℕ) (m : Marks) → AreMarksOf p.view f m → AreMarksOf q.view f m
  reread_marks f m are = let first = reread_first f in let seen = r.seen f in (are.0 ∙ ap (map mark_of) (sym seen), are.1 ∙ (λ i. size_of (sym first i) (sym seen i)))

-- Many steps.
use Rattle.std.proofs.Common.{◌≡◌, ℕ, ◌+◌, List, [], ◌∷◌, ◌++◌, Bool, true, false, refl, sym, ap, ◌∙◌, subst, arith, length-set}
use Rattle.std.specs.Prelude.{Result, Ok, Err, MatchResult}
use Rattle.std.proofs.lemmas.List.{append-nil, append_assoc}
use Rattle.files_core.specs.Files.{file, made}
use Rattle.files_core.specs.Laws.{Begins}
use Rattle.files_core.proofs.Grows.{files_grow}
use Rattle.window_core.specs.Window.{side}
use Rattle.window_core.proofs.Grows.{logs_grow, sizes_stay}
use Rattle.dax_core.specs.declared.events.Event.{Event}
use Rattle.dax_core.specs.declared.events.GuestEvent.{GuestEvent}
use Rattle.dax_core.specs.Core.{CoreState, Deed, on_window, on_files, Allowed, after, Good}
use Rattle.dax_core.specs.Events.{Stepped, count_of, Ran, Grows}
use Rattle.dax_core.proofs.Stepping.{step_keeps}

same : {A : Type 0} (xs : List A) → Begins xs xs
same xs = ([], append-nil xs)

begins_then : {A : Type 0} (xs ys zs : List A) → Begins xs ys → Begins ys zs → Begins xs zs
begins_then xs ys zs p q = (p.0 ++ q.0, sym (append_assoc xs p.0 q.0) ∙ (ap (λ (l : List _). l ++ q.0) p.1 ∙ q.1))

pub grows_none : (c : CoreState) → Grows c c
grows_none c = record { histories = λ f. same (file c.files f).history; logs = λ f. same (side c.window f).log; guests = refl; ranges = refl; trees = refl; files = refl }

pub grows_then : (a b c : CoreState) → Grows a b → Grows b c → Grows a c
grows_then a b c p q = record {
  histories = λ f. begins_then (file a.files f).history (file b.files f).history (file c.files f).history (p.histories f) (q.histories f);
  logs = λ f. begins_then (side a.window f).log (side b.window f).log (side c.window f).log (p.logs f) (q.logs f);
  guests = q.guests ∙ p.guests;
  ranges = q.ranges ∙ p.ranges;
  trees = q.trees ∙ p.trees;
  files = q.files ∙ p.files;
}

pub deed_grows : (c : CoreState) (g : ℕ) (d : Deed) → Allowed c g d → Grows c (after c g d)
deed_grows c g (on_window d) a = record { histories = λ f. same (file c.files f).history; logs = λ f. logs_grow c.window g d a.1 f; guests = refl; ranges = (sizes_stay g c.window d).0; trees = (sizes_stay g c.window d).1; files = refl }
deed_grows c g (on_files d) a = record { histories = λ f. files_grow c.files g d a.1.known f; logs = λ f. same (side c.window f).log; guests = refl; ranges = refl; trees = refl; files = length-set c.files d.at (made (file c.files d.at) g d.deed) }

pub step_grows : (done : Bool) (c new : CoreState) (g : ℕ) (e : Event) → Stepped done c g e new → Grows c new
step_grows true c new g e did = subst (λ (x : CoreState). Grows c x) (sym did.3) (deed_grows c g did.0 did.2)
step_grows false c new g e did = subst (λ (x : CoreState). Grows c x) (sym did.1) (grows_none c)

module _ {E : Type 0} (c new : CoreState) (g : ℕ) (e : Event) where
  pub result_good : (r : Result Bool E) → Good c → MatchResult r (λ done. Stepped done c g e new) (λ _. new ≡ c) → Good new
  result_good (Ok done) good did = step_keeps done c new g e good did
  result_good (Err x) good is = subst (λ (y : CoreState). Good y) (sym is) good

  pub result_grows : (r : Result Bool E) → MatchResult r (λ done. Stepped done c g e new) (λ _. new ≡ c) → Grows c new
  result_grows (Ok done) did = step_grows done c new g e did
  result_grows (Err x) is = subst (λ (y : CoreState). Grows c y) (sym is) (grows_none c)

-- one step more
pub ran_more : (c mid new : CoreState) (es : List GuestEvent) (n : ℕ) (e : GuestEvent) (done : Bool) → Ran c es n mid → Stepped done mid e.guest e.event new → Ran c (es ++ e ∷ []) (n + count_of done) new
ran_more c mid new [] n e done ran did = (done, new, 0, subst (λ (x : CoreState). Stepped done x e.guest e.event new) ran.1 did, (refl, refl), (let z = ran.0 in omega arith))
ran_more c mid new (x ∷ xs) n e done ran did = (ran.0, ran.1, ran.2 + count_of done, ran.3, ran_more ran.1 mid new xs ran.2 e done ran.4 did, (let z = ran.5 in omega arith))

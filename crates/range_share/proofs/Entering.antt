-- The tree of a file is taken, and given back.
use Rattle.std.proofs.Common.{◌≡◌, ◌≢◌, ℕ, zero, suc, ◌+◌, ◌<◌, List, [], ◌∷◌, ◌++◌, length, set, get_or, false, true, Option, Some, None, refl, sym, ap, ◌∙◌, subst, arith, length-set, get_or-set_same, get_or-set_other, eqb}
use mathlib.Core.Option.{none, some}
use lib.ListN.{get_elem?}
use lib.Seq.{map-set}
use prog.Atomic.{either}
use Rattle.std.specs.Prelude.{drop, IfSome, MatchOption}
use Rattle.std.proofs.lemmas.List.{take-append-drop}
use Rattle.atomic_table.specs.Table.{step, Allows, takes, gives as gives_back, put_back, rest, homes_after}
use Rattle.atomic_table.proofs.Lists.{at_map}
use Rattle.seats.specs.Views.{AllIn}
use Rattle.seats.specs.Seats.{Shows, seeing}
use Rattle.seats.proofs.Seating.{moved, exchanged, all_back}
use Rattle.page_map.specs.declared.ranges.LogEntry.{LogEntry}
use Rattle.window_core.specs.Window.{Side, Window, no_side, side, seen_by, enter, leave, left, entered}
use Rattle.window_core.specs.Laws.{Begins}
use Rattle.window_core.specs.Shown.{branch}
use Rattle.range_share.specs.Table.{Core, Mine, Knows, MayDo, mine, done, number_of, branch_in, tree_at, home, others_may, window_kit}
use Rattle.range_share.specs.Steps.{Us, branch_of, Treeless, DoesSo, Always, LogsBack, Takes, tries_enter, leaves}
use Rattle.range_share.proofs.Laws.{window_laws}
use Rattle.range_share.proofs.Parts.{get_map, movers_are, holder_is, treeless, seen_is}
use Rattle.range_share.proofs.Writing.{St, part, small, files, found_tree, put_tree, by_tree}
use Rattle.range_share.proofs.Looking.{seen_whole}

at_get : {A : Type 0} (l : List A) (i : ℕ) (d : A) → i < length l → get_elem? l i ≡ some (get_or l i d)
at_get [] i d h = absurd (omega arith)
at_get (x ∷ xs) zero d h = refl
at_get (x ∷ xs) (suc i) d h = at_get xs i d (omega arith)

number_none : (o : Option ℕ) → number_of o ≡ 0 → o ≡ None
number_none None e = refl
number_none (Some g) e = absurd (omega arith)

-- what a guest has seen of a log begins it
pub begins_log : (n f : ℕ) (c : Core) → Begins (branch_in (mine n c).shown.branches f).seen (side c.window f).log
begins_log n f c = let k = seen_by (side c.window f) n in let log = (side c.window f).log in
    (drop k log, ap (λ b. b.seen ++ drop k log) (get_map (branch n) c.window.sides f no_side) ∙ take-append-drop k log)

module _ (slots id : ℕ) (me : Us) (live : me.0.live ≡ true) where
  logs_back : (s : St) (r : Shows window_kit s) (at : get_elem? s.views id ≡ some me.0) (f : ℕ) → AllIn me.0 → LogsBack me.0.numbers f (side r.core.window f).log
  logs_back s r at f all n m x is = let b = (all_back window_kit window_laws s r id me.0 at live all.0 all.1).back_is n m x is in
      subst (λ (y : Mine). Begins (branch_in y.shown.branches f).seen (side r.core.window f).log) (sym b.0) (begins_log n f r.core)

  pub enters : (f g : ℕ) → f < slots → g ≡ me.0.guest → Treeless me.0 → Allows (Shows window_kit) slots id me (tree_at f) (λ n. either (eqb n 0) (g + 1) n) (tries_enter (step slots (tree_at f) 0 (g + 1) none) me)
  enters f g near is idle s r deep at few =
      let n : ℕ = get_or s.words (tree_at f) 0 in
      let c : Core = r.core in
      let h : Window = c.window in
      let seen = part s r slots id me.0 live deep at in
      let sized = files s r slots id me.0 live deep at in
      let inside : f < length h.sides = omega arith in
      let word : n ≡ number_of (side h f).holder = found_tree s r slots id me.0 live deep at f inside in
      let c' : Core = done c me.0.guest (enter f) in
      let log : List LogEntry = (side h f).log in
      exchanged window_kit window_laws s r (tree_at f) 0 (g + 1) id me at me.0.noted (tries_enter (step slots (tree_at f) 0 (g + 1) none) me)
      (λ hit. let bare = number_none (side h f).holder (sym word ∙ hit) in
      let ok : MayDo c me.0.guest (enter f) = record { allowed = (inside, bare, treeless me.0 c seen idle); mover = tt } in
      let s' : Side = entered me.0.guest (side h f) in
      let home_is : home (side h f) ≡ some (Some log) = ap (λ (o : Option ℕ). home (record (side h f) { holder = o })) bare in
      let many : length c'.window.sides ≡ length h.sides = length-set h.sides f s' in
      let w : Knows = seeing window_kit me.0 (enter f) c' me.0.noted in (
        w,
        takes f (Some log),
        ap (λ l. get_elem? l f) r.homes_are ∙ (at_map home h.sides f (side h f) (at_get h.sides f no_side inside) ∙ ap some home_is),
        moved window_kit window_laws s r id me.0 at live (enter f) ok me.0.noted (set s.words (tree_at f) (g + 1)) (set s.homes f none)
            (put_tree slots s.words c c' sized (sized ∙ sym many) refl r.words f (g + 1) inside (ap (λ (z : ℕ). z + 1) is ∙ sym (ap (λ (s : Side). number_of s.holder) (get_or-set_same h.sides f s' no_side inside)))
            (λ a ne. ap (λ (s : Side). s.holder) (get_or-set_other h.sides f a s' no_side ne)) (λ a. refl) (λ a. refl))
            ((λ i. set (r.homes_are i) f none) ∙ sym (map-set home h.sides f s')),
        by_tree (λ f'. (n ≡ 0 → DoesSo (enter f') me.0.noted (Takes f' me (w, (f, Some log) ∷ me.1)) me.0 w) × (n ≢ 0 → ◌≡◌ {A = Us} (w, (f, Some log) ∷ me.1) me)) f (
          (λ _. record {
            core = c;
            good = r.good;
            part = seen;
            allowed = ok;
            is = refl;
            tells = record {
              taken = refl;
              alone = λ off. sym (seen_whole c me.0 seen r.good (small s r slots id me.0 live deep at) f inside (ap (λ n. others_may me.0.guest n) (sym (movers_are me.0 c seen)) ∙ off));
              joined = logs_back s r at f;
            };
          }),
          λ ne. absurd (ne hit),
        ),
      ))
      (λ miss f' _. ((λ z. absurd (miss z)), λ _. refl))

  pub leaves_it : (f : ℕ) (cs : List (ℕ × Option (List LogEntry))) → f < slots → (branch_of me.0 f).had ≡ true → me.1 ≡ (f, Some (branch_of me.0 f).seen) ∷ cs
      → Allows (Shows window_kit) slots id me (tree_at f) (λ _. 0) (λ _. leaves (step slots (tree_at f) 0 0 none) me 0)
  leaves_it f cs near had out s r deep at few =
      let c : Core = r.core in
      let h : Window = c.window in
      let seen = part s r slots id me.0 live deep at in
      let sized = files s r slots id me.0 live deep at in
      let inside : f < length h.sides = omega arith in
      let c' : Core = done c me.0.guest (leave f) in
      let ok : MayDo c me.0.guest (leave f) = record { allowed = holder_is me.0 c seen f had; mover = tt } in
      let s' : Side = left (side h f) in
      let back_home : home s' ≡ some (Some (branch_of me.0 f).seen) = ap (λ (l : List LogEntry). some (Some l)) (sym (seen_is me.0 c seen r.good.window_good f had)) in
      let many : length c'.window.sides ≡ length h.sides = length-set h.sides f s' in
      let w : Knows = seeing window_kit me.0 (leave f) c' me.0.noted in (
        w,
        gives_back,
        tt,
        moved window_kit window_laws s r id me.0 at live (leave f) ok me.0.noted (set s.words (tree_at f) 0) (homes_after s.homes me.1 gives_back)
            (put_tree slots s.words c c' sized (sized ∙ sym many) refl r.words f 0 inside (sym (ap (λ (s : Side). number_of s.holder) (get_or-set_same h.sides f s' no_side inside)))
            (λ a ne. ap (λ (s : Side). s.holder) (get_or-set_other h.sides f a s' no_side ne)) (λ a. refl) (λ a. refl))
            (ap (put_back s.homes) out ∙ ((λ i. set (r.homes_are i) f (sym back_home i)) ∙ sym (map-set home h.sides f s'))),
        by_tree (λ f'. DoesSo (leave f') me.0.noted Always me.0 w × (rest me.1 ≡ rest me.1)) f (record { core = c; good = r.good; part = seen; allowed = ok; is = refl; tells = tt }, refl),
      )

-- ---- after the exchange that follows

pub tops : {S : Type 0} (xs c : List (ℕ × S)) (k : ℕ) (x : S) → xs ≡ (k, x) ∷ c → xs ≡ (k, x) ∷ rest xs
tops xs c k x e = e ∙ ap (λ l. (k, x) ∷ rest l) (sym e)

abbrev top_value : List (ℕ × Option (List LogEntry)) → Option (List LogEntry)
top_value [] = None
top_value (x ∷ xs) = x.1

-- the log is in hand
abbrev pub InHandOf : Us → Us → ℕ → Option (List LogEntry) → Type 0
InHandOf m m₂ f got = MatchOption got (m₂ ≡ m) (λ log. DoesSo (enter f) m.0.noted (λ c. log ≡ (side c.window f).log) m.0 m₂.0 × (m₂.1 ≡ (f, None) ∷ []))
    × IfSome got (λ log. others_may m.0.guest m.0.mine.movers ≡ false → log ≡ (branch_of m.0 f).seen) × IfSome got (λ log. AllIn m.0 → LogsBack m.0.numbers f log)

pub handed : (m m₁ m₂ : Us) (got : Option (List LogEntry)) (f : ℕ) → m.1 ≡ [] → DoesSo (enter f) m.0.noted (Takes f m m₁) m.0 m₁.0 → m₁.1 ≡ (f, got) ∷ rest m₁.1 → m₂ ≡ (m₁.0, (f, None) ∷ rest m₁.1) → InHandOf m m₂ f got
handed m m₁ m₂ got f bare d top now =
    let log : List LogEntry = (side d.core.window f).log in
    let value : got ≡ Some log = ap top_value (sym top ∙ d.tells.taken) in
    subst (InHandOf m m₂ f) (sym value) (
      (
        record { core = d.core; good = d.good; part = d.part; allowed = d.allowed; is = ap (λ (x : Us). x.0) now ∙ d.is; tells = refl },
        ap (λ (x : Us). x.1) now ∙ (ap (λ l. (f, None) ∷ rest l) d.tells.taken ∙ ap (λ l. (f, None) ∷ l) bare),
      ),
      d.tells.alone,
      d.tells.joined,
    )

-- Every step of a table that shows a core keeps its rule.
use Rattle.std.proofs.Common.{◌≡◌, ◌≢◌, ◌⊎◌, ℕ, zero, suc, ◌<◌, List, [], ◌∷◌, ◌++◌, map, length, set, get_or, replicate, true, true≢false, eqb, refl, sym, ap, ◌∙◌, subst, ⊎_elim, inl, inr, arith, length-set, eq-eqb, ne_eqb}
use mathlib.Core.Logic.{dite}
use mathlib.Core.Option.{some, some-ne-none, some-injective}
use mathlib.Core.Option as maybe
use native.Mathlib.Decide.{ℕ_discrete}
use lib.ListN.{get_elem?}
use lib.Seq.{set-get_or}
use prog.Atomic.{either}
use Rattle.atomic_table.specs.Table.{State, Me, Act, step, keeps, stepped, carried_after, Valid, Allows, Splits, Joins, opening}
use Rattle.atomic_table.proofs.Lists.{at_set, set_here, set_else}
use Rattle.seats.specs.Views.{Given, View, unused, opened, out, back, root, guests, parent, child, joined, nobody, opener}
use Rattle.seats.specs.Seats.{Kit, Move, acts, introduces, informs, did_of, Fits, Roster, Shows, seeing, Does, compared, Laws, AllBack}

pub set_there : {A : Type 0} (l : List A) (i : ℕ) (a b : A) → get_elem? l i ≡ some a → get_elem? (set l i b) i ≡ some b
set_there [] i a b e = absurd (some-ne-none a (sym e))
set_there (x ∷ xs) zero a b e = refl
set_there (x ∷ xs) (suc i) a b e = set_there xs i a b e

in_range : {A : Type 0} (l : List A) (k : ℕ) (a : A) → get_elem? l k ≡ some a → k < length l
in_range [] k a at = absurd (some-ne-none a (sym at))
in_range (x ∷ xs) zero a at = omega arith
in_range (x ∷ xs) (suc k) a at = let h = in_range xs k a at in omega arith

there : {A : Type 0} (l : List A) (i : ℕ) → i < length l → (a : A) × (get_elem? l i ≡ some a)
there [] i h = absurd (omega arith)
there (x ∷ xs) zero h = (x, refl)
there (x ∷ xs) (suc i) h = there xs i (omega arith)

at_end : {A : Type 0} (l : List A) (a b : A) (j : ℕ) → get_elem? (l ++ a ∷ []) j ≡ some b → (get_elem? l j ≡ some b) ⊎ ((j ≡ length l) × (a ≡ b))
at_end [] a b zero e = inr (refl, some-injective a b e)
at_end [] a b (suc j) e = absurd (some-ne-none b (sym e))
at_end (x ∷ xs) a b zero e = inl e
at_end (x ∷ xs) a b (suc j) e = ⊎_elim (λ h. inl h) (λ h. inr (ap suc h.0, h.1)) (at_end xs a b j e)

all_same : {A : Type 0} (n : ℕ) (a b : A) (k : ℕ) → get_elem? (replicate n a) k ≡ some b → a ≡ b
all_same zero a b k e = absurd (some-ne-none b (sym e))
all_same (suc n) a b zero e = some-injective a b e
all_same (suc n) a b (suc k) e = all_same n a b k e

length_replicate : {A : Type 0} (n : ℕ) (a : A) → length (replicate n a) ≡ n
length_replicate zero a = refl
length_replicate (suc n) a = let h = length_replicate n a in omega arith

abbrev pick : {P : Type 0} → Dec P → ℕ → ℕ → ℕ
pick (yes _) a b = a
pick (no _) a b = b

put : (ℕ → ℕ) → ℕ → ℕ → ℕ → ℕ
put f i c j = pick (ℕ_discrete j i) c (f j)

put_here : (f : ℕ → ℕ) (i c : ℕ) → put f i c i ≡ c
unfolding put
put_here f i c = go (ℕ_discrete i i)
  where
    go : (d : Dec (i ≡ i)) → pick d c (f i) ≡ c
    go (yes _) = refl
    go (no n) = absurd (n refl)

put_else : (f : ℕ → ℕ) (i c j : ℕ) → j ≢ i → put f i c j ≡ f j
unfolding put
put_else f i c j other = go (ℕ_discrete j i)
  where
    go : (d : Dec (j ≡ i)) → pick d c (f j) ≡ f j
    go (yes e) = absurd (other e)
    go (no _) = refl

module _ (K : Kit) (L : Laws K) where
  abbrev V : Type 0
  V = View K.Mine K.Noted K.Deed

  abbrev St : Type 0
  St = State K.Body V

  abbrev Trace : Type 0
  Trace = List (Move K.Deed)

  abbrev Marks : Type 0
  Marks = List (Given K.Mine K.Noted)

  module _ (trace : Trace) (core : K.Core) (owner : ℕ → ℕ) (numbers : Marks) (j : ℕ) (v : V) (fits : Fits K trace core owner numbers j v) (roster : Roster K trace core numbers) where
    busy : (g : Given K.Mine K.Noted) → get_elem? numbers v.guest ≡ some g → (g ≡ out) ⊎ (g ≡ opened)
    busy g is = dite (ℕ_discrete v.guest 32) (λ z. inr (some-injective _ _ (sym is ∙ (ap (get_elem? numbers) z ∙ roster.root_is)))) (λ z. inl (some-injective _ _ (sym is ∙ fits.given z)))

    not_free : (n : ℕ) → get_elem? numbers n ≡ some unused → n ≢ v.guest
    not_free n is e = ⊎_elim (λ (x : unused ≡ out). absurd (cc)) (λ (x : unused ≡ opened). absurd (cc)) (busy unused (ap (get_elem? numbers) (sym e) ∙ is))

    not_back : (n : ℕ) (m : K.Mine) (y : K.Noted) → get_elem? numbers n ≡ some (back m y) → n ≢ v.guest
    not_back n m y is e = ⊎_elim (λ (x : back m y ≡ out). absurd (cc)) (λ (x : back m y ≡ opened). absurd (cc)) (busy (back m y) (ap (get_elem? numbers) (sym e) ∙ is))

  not_root : (ns : Marks) → get_elem? ns 32 ≡ some opened → (m : ℕ) (x : Given K.Mine K.Noted) → opened ≢ x → get_elem? ns m ≡ some x → m ≢ root
  not_root ns root m x ne is e = ne (some-injective _ _ (sym root ∙ (ap (get_elem? ns) (sym e) ∙ is)))

  -- the table after an event
  pub moved : (s : St) (r : Shows K s) (id : ℕ) (v : V) (at : get_elem? s.views id ≡ some v) (live : v.live ≡ true) (e : K.Deed) (ok : K.Allowed r.core v.guest e) (x : K.Noted) (ws : List ℕ) (hs : List (maybe.Option K.Body))
      → K.Words ws (K.after r.core v.guest e) → hs ≡ K.homes (K.after r.core v.guest e)
      → Shows K record { words = ws; homes = hs; views = set s.views id (seeing K v e (K.after r.core v.guest e) x) }
  moved s r id v at live e ok x ws hs words homes_are =
      let g = v.guest in
      let c' : K.Core = K.after r.core g e in
      let w : V = seeing K v e c' x in
      let me = r.views_fit id v at live in
      let ro = r.roster in
      let trace : Trace = acts g e ∷ r.trace in
      let others_did : (n : ℕ) → n ≢ g → did_of K n trace ≡ did_of K n r.trace = λ n ne. rw (ne_eqb g n (λ z. ne (sym z))) refl in
      let frame : (n : ℕ) → n < guests → n ≢ g → K.mine n c' ≡ K.mine n r.core = λ n l ne. L.others r.core g n e ne me.small l r.good ok in
      let under : (n : ℕ) (m : Given K.Mine K.Noted) → get_elem? r.numbers n ≡ some m → n < guests = λ n m is. let l = in_range r.numbers n m is in let all = ro.all in omega arith in record {
        core = c';
        good = L.keeps r.core g e me.small r.good ok;
        start = r.start;
        started = r.started;
        trace = trace;
        runs = (r.core, r.runs, (ok, refl));
        words = words;
        homes_are = homes_are;
        owner = r.owner;
        numbers = r.numbers;
        views_fit = λ j u a l. ⊎_elim
            (λ (t : (j ≡ id) × (w ≡ u)). subst (λ (z : ℕ × V). Fits K trace c' r.owner r.numbers z.0 z.1) (λ i. (sym t.0 i, t.1 i)) record {
              small = me.small;
              owned = me.owned;
              part = refl;
              did_is = ap (λ l. e ∷ l) me.did_is ∙ sym (rw (eq-eqb g g refl) refl);
              given = me.given;
              first = me.first;
              numberless = me.numberless;
              told = (tt, tt);
            })
            (λ (t : (j ≢ id) × (get_elem? s.views j ≡ some u)). let them = r.views_fit j u t.1 l in let far : u.guest ≢ g = (λ z. t.0 (sym them.owned ∙ (ap r.owner z ∙ me.owned))) in record {
              small = them.small;
              owned = them.owned;
              part = them.part ∙ sym (frame u.guest them.small far);
              did_is = them.did_is ∙ sym (others_did u.guest far);
              given = them.given;
              first = them.first;
              numberless = them.numberless;
              told = them.told;
            })
            (at_set s.views id j w u a);
        roster = record {
          root_is = ro.root_is;
          one_root = ro.one_root;
          all = ro.all;
          unused_is = λ n is. let far = not_free r.trace r.core r.owner r.numbers id v me ro n is in let was = ro.unused_is n is in (frame n (under n unused is) far ∙ (was.0 ∙ sym (L.unseen_after r.core g e)), others_did n far ∙ was.1);
          back_is = λ n m y is. let far = not_back r.trace r.core r.owner r.numbers id v me ro n m y is in let was = ro.back_is n m y is in (was.0 ∙ sym (frame n (under n (back m y) is) far), was.1, L.behind_after r.core g n e far me.small r.good ok was.2);
        };
      }

  -- a step that only notes something
  pub only_noted : (s : St) (r : Shows K s) (i id : ℕ) (cs : List (ℕ × K.Body)) (v : V) (x : K.Noted) → get_elem? s.views id ≡ some v → Shows K (stepped s i (get_or s.words i 0) id cs (record v { noted = x }) keeps)
  only_noted s r i id cs v x at = let w : V = record v { noted = x } in record {
    core = r.core;
    good = r.good;
    start = r.start;
    started = r.started;
    trace = r.trace;
    runs = r.runs;
    words = subst (λ ws. K.Words ws r.core) (sym (set-get_or s.words i 0)) r.words;
    homes_are = r.homes_are;
    owner = r.owner;
    numbers = r.numbers;
    views_fit = λ j u a l. ⊎_elim
        (λ (t : (j ≡ id) × (w ≡ u)). subst (λ (z : ℕ × V). Fits K r.trace r.core r.owner r.numbers z.0 z.1) (λ i. (sym t.0 i, t.1 i)) (let k = r.views_fit id v at (ap (λ (z : V). z.live) t.1 ∙ l) in record {
          small = k.small;
          owned = k.owned;
          part = k.part;
          did_is = k.did_is;
          given = k.given;
          first = k.first;
          numberless = k.numberless;
          told = k.told;
        }))
        (λ (t : (j ≢ id) × (get_elem? s.views j ≡ some u)). r.views_fit j u t.1 l)
        (at_set s.views id j w u a);
    roster = r.roster;
  }

  pub unmoved : (s : St) (r : Shows K s) (i id : ℕ) (cs : List (ℕ × K.Body)) (v : V) → get_elem? s.views id ≡ some v → Shows K (stepped s i (get_or s.words i 0) id cs v keeps)
  unmoved s r i id cs v at = only_noted s r i id cs v v.noted at

  module _ (s : St) (r : Shows K s) (id : ℕ) (v : V) (at : get_elem? s.views id ≡ some v) (live : v.live ≡ true) (first : v.guest ≡ root) where
    nums : v.numbers ≡ r.numbers
    nums = (r.views_fit id v at live).first first

    part_first : v.mine ≡ K.mine root r.core
    part_first = (r.views_fit id v at live).part ∙ ap (λ n. K.mine n r.core) first

  pub splits : (id n : ℕ) (v : V) → n < guests → v.live ≡ true → v.guest ≡ root → get_elem? v.numbers n ≡ some unused → Splits (Shows K) id v (parent v n) (child K.just_seen K.blank v n)
  splits id n v l live first free s r at =
      let old = r.views_fit id v at live in
      let nums' = nums s r id v at live first in
      let ro = r.roster in
      let free' : get_elem? r.numbers n ≡ some unused = ap (λ ns. get_elem? ns n) (sym nums') ∙ free in
      let ns : Marks = set r.numbers n out in
      let c' : K.Core = K.introduced n r.core in
      let new_id : ℕ = length s.views in
      let owner : ℕ → ℕ = put r.owner n new_id in
      let left : V = parent v n in
      let right : V = child K.just_seen K.blank v n in
      let vs : List V = set s.views id left in
      let long : length vs ≡ new_id = length-set s.views id left in
      let not_first : n ≢ root = not_root r.numbers ro.root_is n unused (λ e. cc) free' in
      let bare = (ro.unused_is n free').0 in
      let trace : Trace = introduces n ∷ r.trace in
      let other : (j : ℕ) (u : V) → Fits K r.trace r.core r.owner r.numbers j u → u.guest ≢ n = λ j u f e. not_free r.trace r.core r.owner r.numbers j u f ro n free' (sym e) in record {
        core = c';
        good = L.new_good r.core n l not_first r.good bare;
        start = r.start;
        started = r.started;
        trace = trace;
        runs = (r.core, r.runs, refl);
        words = L.new_words s.words r.core n l not_first r.good bare r.words;
        homes_are = r.homes_are ∙ sym (L.new_homes r.core n);
        owner = owner;
        numbers = ns;
        roster = record {
          root_is = set_else r.numbers n 32 out (λ z. not_first (sym z)) ∙ ro.root_is;
          one_root = λ m e. ⊎_elim (λ (t : (m ≡ n) × (out ≡ opened)). let x = t.1 in absurd (cc)) (λ t. ro.one_root m t.1) (at_set r.numbers n m out opened e);
          all = length-set r.numbers n out ∙ ro.all;
          unused_is = λ m e. ⊎_elim (λ (t : (m ≡ n) × (out ≡ unused)). let x = t.1 in absurd (cc)) (λ t. let was = ro.unused_is m t.1 in (L.new_others r.core n m t.0 ∙ (was.0 ∙ sym (L.new_unseen r.core n)), was.1)) (at_set r.numbers n m out unused e);
          back_is = λ m ms y e. ⊎_elim (λ (t : (m ≡ n) × (out ≡ back ms y)). let x = t.1 in absurd (cc)) (λ t. let was = ro.back_is m ms y t.1 in (was.0 ∙ sym (L.new_others r.core n m t.0), was.1, L.new_behind r.core n m t.0 not_first was.2)) (at_set r.numbers n m out (back ms y) e);
        };
        views_fit = λ j u e l'. ⊎_elim
            (λ a. ⊎_elim
            (λ (t : (j ≡ id) × (left ≡ u)). subst (λ (z : ℕ × V). Fits K trace c' owner ns z.0 z.1) (λ i. (sym t.0 i, t.1 i)) record {
              small = old.small;
              owned = put_else r.owner n new_id v.guest (other id v old) ∙ old.owned;
              part = old.part ∙ sym (L.new_others r.core n v.guest (other id v old));
              did_is = old.did_is;
              given = λ x. absurd (x first);
              first = λ _. ap (λ z. set z n out) nums';
              numberless = λ x. absurd (x first);
              told = (tt, tt);
            })
            (λ (t : (j ≢ id) × (get_elem? s.views j ≡ some u)). let k = r.views_fit j u t.1 l' in record {
              small = k.small;
              owned = put_else r.owner n new_id u.guest (other j u k) ∙ k.owned;
              part = k.part ∙ sym (L.new_others r.core n u.guest (other j u k));
              did_is = k.did_is;
              given = λ x. set_else r.numbers n u.guest out (other j u k) ∙ k.given x;
              first = λ x. absurd (t.0 (sym k.owned ∙ (ap r.owner (x ∙ sym first) ∙ old.owned)));
              numberless = k.numberless;
              told = k.told;
            })
            (at_set s.views id j left u a))
            (λ (t : (j ≡ length vs) × (right ≡ u)). subst (λ (z : ℕ × V). Fits K trace c' owner ns z.0 z.1) (λ i. (sym t.0 i, t.1 i)) record {
              small = l;
              owned = put_here r.owner n new_id ∙ sym long;
              part = ap K.just_seen (part_first s r id v at live first) ∙ sym (L.new_mine r.core n l not_first r.good bare);
              did_is = sym (ro.unused_is n free').1;
              given = λ _. set_there r.numbers n unused out free';
              first = λ x. absurd (not_first x);
              numberless = λ _. refl;
              told = (tt, tt);
            })
            (at_end vs right u j e);
      }

  pub joins : (id other : ℕ) (v w : V) (m : K.Mine) (x : K.Noted) → v.live ≡ true → v.guest ≡ root → K.Idle v.mine → w.live ≡ true → K.Idle w.mine → get_elem? v.numbers w.guest ≡ some out → Joins (Shows K) id v other w (joined K.merged v w) (nobody m x)
  joins id other v w m₀ x₀ live first idle live' idle' given s r at ne there₀ =
      let g : ℕ = w.guest in
      let both : V = joined K.merged v w in
      let there' : get_elem? s.views other ≡ some w = ⊎_elim (λ (t : (other ≡ id) × (both ≡ w)). absurd (ne t.0)) (λ (t : (other ≢ id) × (get_elem? s.views other ≡ some w)). t.1) (at_set s.views id other both w there₀) in
      let old = r.views_fit id v at live in
      let their = r.views_fit other w there' live' in
      let nums' = nums s r id v at live first in
      let part₁ = part_first s r id v at live first in
      let ro = r.roster in
      let out' : get_elem? r.numbers g ≡ some out = ap (λ ns. get_elem? ns g) (sym nums') ∙ given in
      let ns : Marks = set r.numbers g (back w.mine w.noted) in
      let c' : K.Core = K.informed g r.core in
      let vs : List V = set s.views id both in
      let not_first : g ≢ root = not_root r.numbers ro.root_is g out (λ e. cc) out' in
      let trace : Trace = informs g ∷ r.trace in
      let begun = L.told_begun r.core g their.small r.good in
      let now : both.mine ≡ K.merged (K.mine root r.core) (K.mine g r.core) = (λ i. K.merged (part₁ i) (their.part i)) in record {
        core = c';
        good = L.told_good r.core g their.small not_first r.good (subst K.Idle part₁ idle) (subst K.Idle their.part idle');
        start = r.start;
        started = r.started;
        trace = trace;
        runs = (r.core, r.runs, refl);
        words = L.told_words s.words r.core g r.good r.words;
        homes_are = r.homes_are ∙ sym (L.told_homes r.core g);
        owner = r.owner;
        numbers = ns;
        roster = record {
          root_is = set_else r.numbers g 32 (back w.mine w.noted) (λ z. not_first (sym z)) ∙ ro.root_is;
          one_root = λ m e. ⊎_elim (λ (t : (m ≡ g) × (back w.mine w.noted ≡ opened)). let x = t.1 in absurd (cc)) (λ t. ro.one_root m t.1) (at_set r.numbers g m (back w.mine w.noted) opened e);
          all = length-set r.numbers g (back w.mine w.noted) ∙ ro.all;
          unused_is = λ m e. ⊎_elim (λ (t : (m ≡ g) × (back w.mine w.noted ≡ unused)). let x = t.1 in absurd (cc))
              (λ t. let was = ro.unused_is m t.1 in (L.told_others r.core g m (not_root r.numbers ro.root_is m unused (λ e. cc) t.1) ∙ (was.0 ∙ sym (L.told_unseen r.core g)), was.1)) (at_set r.numbers g m (back w.mine w.noted) unused e);
          back_is = λ m ms y e. ⊎_elim
              (λ (t : (m ≡ g) × (back w.mine w.noted ≡ back ms y)). let x : w.mine ≡ ms = (let z = t.1 in cc) in (
                sym x ∙ (their.part ∙ (ap (λ n. K.mine n r.core) (sym t.0) ∙ sym (L.told_others r.core g m (λ z. not_first (sym t.0 ∙ z))))),
                subst K.Idle x idle',
                subst (λ (n : ℕ). K.Behind n c') (sym t.0) (L.told_new r.core g not_first r.good),
              ))
              (λ t. let was = ro.back_is m ms y t.1 in let far = not_root r.numbers ro.root_is m (back ms y) (λ e. cc) t.1 in (was.0 ∙ sym (L.told_others r.core g m far), was.1, L.told_behind r.core g m far r.good was.2)) (at_set r.numbers g m (back w.mine w.noted) (back ms y) e);
        };
        views_fit = λ j u e l'. ⊎_elim (λ (t : (j ≡ other) × (nobody m₀ x₀ ≡ u)). absurd (true≢false (sym (ap (λ (z : V). z.live) t.1 ∙ l'))))
            (λ (t' : (j ≢ other) × (get_elem? vs j ≡ some u)). ⊎_elim
            (λ (t : (j ≡ id) × (both ≡ u)). subst (λ (z : ℕ × V). Fits K trace c' r.owner ns z.0 z.1) (λ i. (sym t.0 i, t.1 i)) record {
              small = old.small;
              owned = old.owned;
              part = now ∙ (sym (L.told_mine r.core g their.small r.good) ∙ ap (λ n. K.mine n c') (sym first));
              did_is = old.did_is;
              given = λ x. absurd (x first);
              first = λ _. ap (λ z. set z g (back w.mine w.noted)) nums';
              numberless = λ x. absurd (x first);
              told = (subst (λ (z : ℕ × K.Mine × K.Mine). K.Grown z.0 z.1 z.2) (λ i. (sym first i, sym part₁ i, sym now i)) begun.0, subst (λ (z : K.Mine × K.Mine). K.Begun z.0 z.1) (λ i. (sym their.part i, sym now i)) begun.1);
            })
            (λ (t : (j ≢ id) × (get_elem? s.views j ≡ some u)). let k = r.views_fit j u t.1 l' in let far : u.guest ≢ root = λ x. t.0 (sym k.owned ∙ (ap r.owner (x ∙ sym first) ∙ old.owned)) in record {
              small = k.small;
              owned = k.owned;
              part = k.part ∙ sym (L.told_others r.core g u.guest far);
              did_is = k.did_is;
              given = λ x. set_else r.numbers g u.guest (back w.mine w.noted) (λ x. t'.0 (sym k.owned ∙ (ap r.owner x ∙ their.owned))) ∙ k.given x;
              first = λ x. absurd (far x);
              numberless = k.numberless;
              told = k.told;
            })
            (at_set s.views id j both u t'.1))
            (at_set vs other j (nobody m₀ x₀) u e);
      }

  -- the table at the start
  pub opens : (c : K.Core) (words : List ℕ) (slots : List K.Body) → K.Good c → K.IsStart c → K.Words words c → map some slots ≡ K.homes c → ((n : ℕ) → K.mine n c ≡ K.unseen c) → Shows K (opening words slots (opener (K.mine root c) K.blank))
  opens c words slots good is_start shows homes_are bare = let v : V = opener (K.mine root c) K.blank in let ns : Marks = set (replicate guests unused) root opened in record {
    core = c;
    good = good;
    start = c;
    started = is_start;
    trace = [];
    runs = refl;
    words = shows;
    homes_are = homes_are;
    owner = λ _. 0;
    numbers = ns;
    views_fit = seats v ns refl refl;
    roster = record {
      root_is = set_here (replicate guests unused) root opened (omega arith);
      one_root = λ m e. ⊎_elim (λ (x : opened ≡ unused). absurd (cc)) (λ t. t.1) (fresh m opened e);
      all = length-set {A = Given K.Mine K.Noted} (replicate guests unused) root opened;
      unused_is = λ m e. (bare m, refl);
      back_is = λ m x y e. ⊎_elim (λ (z : back x y ≡ unused). absurd (cc)) (λ (t : (back x y ≡ opened) × (m ≡ root)). let z = t.0 in absurd (cc)) (fresh m (back x y) e);
    };
  }
    where
      fresh : (k : ℕ) (g : Given K.Mine K.Noted) → get_elem? (set (replicate guests unused) root opened) k ≡ some g → (g ≡ unused) ⊎ ((g ≡ opened) × (k ≡ root))
      fresh k g e = ⊎_elim (λ (t : (k ≡ root) × (opened ≡ g)). inr (sym t.1, t.0)) (λ (t : (k ≢ root) × (get_elem? (replicate guests unused) k ≡ some g)). inl (sym (all_same 34 unused g k t.1))) (at_set (replicate guests unused) root k opened g e)

      seats : (v : V) (ns : Marks) → v ≡ opener (K.mine root c) K.blank → ns ≡ set (replicate guests unused) root opened → (j : ℕ) (u : V) → get_elem? (v ∷ []) j ≡ some u → u.live ≡ true → Fits K [] c (λ _. 0) ns j u
      seats v ns is is' zero u e l = subst (Fits K [] c (λ _. 0) ns 0) (sym is ∙ some-injective _ _ e) record {
        small = omega arith;
        owned = refl;
        part = refl;
        did_is = refl;
        given = λ x. absurd (x refl);
        first = λ _. sym is';
        numberless = λ x. absurd (x refl);
        told = (tt, tt);
      }
      seats v ns is is' (suc j) u e l = absurd (some-ne-none u (sym e))

  -- with no number out, every other guest is idle and behind the first
  pub all_back : (s : St) (r : Shows K s) (id : ℕ) (v : V) → get_elem? s.views id ≡ some v → v.live ≡ true → v.guest ≡ root → ((n : ℕ) → get_elem? v.numbers n ≢ some out) → AllBack K r.core v.numbers
  all_back s r id v at live first all_in = let ro = r.roster in let nums' = nums s r id v at live first in record {
    rest = λ n l ne. let m = there r.numbers n (let a = ro.all in omega arith) in go n ne m.0 m.1;
    back_is = λ n m y is. let b = ro.back_is n m y (ap (λ ns. get_elem? ns n) (sym nums') ∙ is) in (b.0, b.2);
    unused_is = λ n is. (ro.unused_is n (ap (λ ns. get_elem? ns n) (sym nums') ∙ is)).0;
  }
    where
      go : (n : ℕ) → n ≢ root → (m : Given K.Mine K.Noted) → get_elem? r.numbers n ≡ some m → (K.mine n r.core ≡ K.unseen r.core) ⊎ (K.Idle (K.mine n r.core) × K.Behind n r.core)
      go n ne unused is = inl (r.roster.unused_is n is).0
      go n ne opened is = absurd (ne (r.roster.one_root n is))
      go n ne out is = absurd (all_in n (ap (λ ns. get_elem? ns n) (nums s r id v at live first) ∙ is))
      go n ne (back m y) is = let b = r.roster.back_is n m y is in inr (subst K.Idle b.0 b.1, b.2)

  abbrev Us : Type 0
  Us = Me K.Body V

  -- an event that moves no slot
  pub event : (s : St) (r : Shows K s) (i n id : ℕ) (me : Us) (at : get_elem? s.views id ≡ some me.0) (live : me.0.live ≡ true) (e : K.Deed) (ok : K.Allowed r.core me.0.guest e) (x : K.Noted) (P : K.Core → Type 0) → P r.core
      → K.Words (set s.words i n) (K.after r.core me.0.guest e) → K.homes (K.after r.core me.0.guest e) ≡ K.homes r.core
      → (w : V) × (a : Act K.Body) × Valid s.homes me.1 a × Shows K (stepped s i n id me.1 w a) × (Does K e x P me.0 w × (carried_after me.1 a ≡ me.1))
  event s r i n id me at live e ok x P p words same = (
    seeing K me.0 e (K.after r.core me.0.guest e) x,
    keeps,
    tt,
    moved s r id me.0 at live e ok x (set s.words i n) s.homes words (r.homes_are ∙ sym same),
    (record { core = r.core; good = r.good; part = (r.views_fit id me.0 at live).part; allowed = ok; is = refl; tells = p }, refl),
  )

  -- a compare and exchange: what is to be done where the old word is found, and elsewhere something is noted at most
  pub exchanged : (s : St) (r : Shows K s) (i old new id : ℕ) (me : Us) (at : get_elem? s.views id ≡ some me.0) (x : K.Noted) (then : ℕ → Us → Type 0)
      → (get_or s.words i 0 ≡ old → (w : V) × (a : Act K.Body) × Valid s.homes me.1 a × Shows K (stepped s i new id me.1 w a) × then (get_or s.words i 0) (w, carried_after me.1 a))
      → (get_or s.words i 0 ≢ old → then (get_or s.words i 0) (record me.0 { noted = x }, me.1))
      → (w : V) × (a : Act K.Body) × Valid s.homes me.1 a × Shows K (stepped s i (either (eqb (get_or s.words i 0) old) new (get_or s.words i 0)) id me.1 w a) × then (get_or s.words i 0) (w, carried_after me.1 a)
  exchanged s r i old new id me at x then hit miss = let n : ℕ = get_or s.words i 0 in dite (ℕ_discrete n old)
      (λ e. let y = hit e in (y.0, y.1, y.2, subst (λ b. Shows K (stepped s i (either b new n) id me.1 y.0 y.1)) (sym (eq-eqb n old e)) y.3, y.4))
      (λ ne. (record me.0 { noted = x }, keeps, tt, subst (λ b. Shows K (stepped s i (either b new n) id me.1 (record me.0 { noted = x }) keeps)) (sym (ne_eqb n old ne)) (only_noted s r i id me.1 me.0 x at), miss ne))

  pub compares : (slots id i : ℕ) (me : Us) → me.0.live ≡ true → Allows (Shows K) slots id me i (λ n. n) (compared K (step slots i 0 0 maybe.none) me)
  compares slots id i me live s r deep at small = (me.0, keeps, tt, unmoved s r i id me.1 me.0 at, (refl, (r.views_fit id me.0 at live).told))

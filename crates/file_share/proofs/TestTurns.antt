-- What a guest has in hand after a turn is what it had before.
use Rattle.std.proofs.Common.{◌≡◌, ◌≢◌, ℕ, zero, suc, ◌<◌, List, [], ◌∷◌, ◌++◌, replicate, length, set, true, false, Result, Ok, Err, refl, sym, ap, ◌∙◌, subst, get_or-set_same, get_or-set_other, length-set, ⊎_elim}
use mathlib.Core.Logic.{dite}
use native.Mathlib.Decide.{ℕ_discrete}
use mathlib.Core.Option.{some, some-injective, some-ne-none}
use lib.ListN.{get_elem?}
use Rattle.atomic_table.proofs.Lists.{at_set}
use Rattle.atomic_table.specs.Seated.{TableId}
use Rattle.plain_file.specs.declared.operations.First.{First}
use Rattle.files_core.specs.Files.{no_file}
use Rattle.file_share.proofs.Places.{get_map}
use Rattle.seats.specs.Views.{Given, guests, AllIn, back, opened, out, root, unused}
use Rattle.plain_file.specs.declared.operations.Applied.{Applied}
use Rattle.plain_file.specs.declared.operations.Entry.{Entry}
use Rattle.plain_file.specs.declared.refusals.BoardRefusal.{BoardRefusal}
use Rattle.plain_file.specs.declared.refusals.BoardRefusal.TheVariants as refusals
use Rattle.files_core.specs.Files.{Deed, take_turn, set_size, give_turn}
use Rattle.files_core.specs.Shown.{Shown}
use Rattle.file_share.specs.Table.{Mine, Knows, Refusal, in_list, new_core, nothing_of, only_seen, part, unseen}
use Rattle.file_share.specs.Known.{Known, IsBack, IsDeed, IsIdle, IsShown, Entered, Applies, Left, TookIn, applied_part, given_part, taken_part, parent_pass, child_pass, first_pass}

-- the same pass, which is shown the same but of one file, where it has the same leases and bar
pub record Keeps (f : ℕ) (p q : Known) : Type 0 where
  pub table : q.table ≡ p.table
  pub guest : q.view.guest ≡ p.view.guest
  pub numbers : q.view.numbers ≡ p.view.numbers
  pub count : length q.view.mine.files ≡ length p.view.mine.files
  pub elses : (i : ℕ) → i ≢ f → part q.view i ≡ part p.view i
  pub leases : (part q.view f).leases ≡ (part p.view f).leases
  pub bar : (part q.view f).bar ≡ (part p.view f).bar

keeps_deed : (f : ℕ) (d : Deed) (m : Shown) (p q : Known) → f < length p.view.mine.files → IsDeed f d p q → IsShown f m p.view q.view → m.leases ≡ (part p.view f).leases → m.bar ≡ (part p.view f).bar → Keeps f p q
keeps_deed f d m p q near x shown leases bar =
    let here : part q.view f ≡ m = ap (λ (y : Mine). in_list y.files f) shown ∙ get_or-set_same p.view.mine.files f m unseen near in record {
      table = ap (λ (k : Known). k.table) x.kept;
      guest = ap (λ (v : Knows). v.guest) x.does.is;
      numbers = ap (λ (v : Knows). v.numbers) x.does.is;
      count = ap (λ (y : Mine). length y.files) shown ∙ length-set p.view.mine.files f m;
      elses = λ i ne. ap (λ (y : Mine). in_list y.files i) shown ∙ get_or-set_other p.view.mine.files f i m unseen ne;
      leases = ap (λ (y : Shown). y.leases) here ∙ leases;
      bar = ap (λ (y : Shown). y.bar) here ∙ bar;
    }

keeps_same : (f : ℕ) (p q : Known) → q ≡ p → Keeps f p q
keeps_same f p q e = record {
  table = ap (λ (k : Known). k.table) e;
  guest = ap (λ (k : Known). k.view.guest) e;
  numbers = ap (λ (k : Known). k.view.numbers) e;
  count = ap (λ (k : Known). length k.view.mine.files) e;
  elses = λ i _. ap (λ (k : Known). part k.view i) e;
  leases = ap (λ (k : Known). (part k.view f).leases) e;
  bar = ap (λ (k : Known). (part k.view f).bar) e;
}

keeps_then : (f : ℕ) (p q r : Known) → Keeps f p q → Keeps f q r → Keeps f p r
keeps_then f p q r a b = record { table = b.table ∙ a.table; guest = b.guest ∙ a.guest; numbers = b.numbers ∙ a.numbers; count = b.count ∙ a.count; elses = λ i ne. b.elses i ne ∙ a.elses i ne; leases = b.leases ∙ a.leases; bar = b.bar ∙ a.bar }

keeps_applies : (f : ℕ) (e : Entry) (p q : Known) (r : Result Applied BoardRefusal) → f < length p.view.mine.files → Applies p f e r q → Keeps f p q
keeps_applies f e p q (Ok a) near x = keeps_deed f (set_size e) (applied_part e (part p.view f)) p q near x.deed x.shown refl refl
keeps_applies f e p q (Err (refusals.Unbarred size)) near x = keeps_same f p q x.1
keeps_applies f e p q (Err refusals.Memory) near x = keeps_same f p q x

-- a turn in which something was applied, or not
pub turn_made : (f : ℕ) (e : Entry) (p a b q : Known) (r : Result Applied BoardRefusal) → f < length p.view.mine.files → IsIdle p.view → IsDeed f take_turn p a → Entered f p.view a.view → Applies a f e r b → Left b f q → IsBack p q
turn_made f e p a b q r near idle deed x applied left =
    let in_ : Keeps f p a = keeps_deed f take_turn (taken_part x.more (part p.view f)) p a near deed x.shown refl refl in
    let near_a : f < length a.view.mine.files = subst (λ n. f < n) (sym in_.count) near in
    let mid = keeps_applies f e a b r near_a applied in
    let near_b : f < length b.view.mine.files = subst (λ n. f < n) (sym mid.count) near_a in
    let off = keeps_deed f give_turn (given_part (part b.view f)) b q near_b left.deed left.shown refl refl in
    let all = keeps_then f p b q (keeps_then f p a b in_ mid) off in record {
      table = all.table;
      guest = all.guest;
      numbers = all.numbers;
      idle = λ i. dite (ℕ_discrete i f)
          (λ z. subst (λ n. ((part q.view n).turn ≡ false) × ((part q.view n).leases ≡ 0) × ((part q.view n).bar ≡ false)) (sym z)
          (ap (λ (y : Mine). (in_list y.files f).turn) left.shown ∙ ap (λ (y : Shown). y.turn) (get_or-set_same b.view.mine.files f (given_part (part b.view f)) unseen near_b), all.leases ∙ (idle f).1, all.bar ∙ (idle f).2))
          (λ ne. let e = all.elses i ne in (ap (λ (y : Shown). y.turn) e ∙ (idle i).0, ap (λ (y : Shown). y.leases) e ∙ (idle i).1, ap (λ (y : Shown). y.bar) e ∙ (idle i).2));
    }

pub back_then : (p q r : Known) → IsBack p q → IsBack q r → IsBack p r
back_then p q r a b = record { table = b.table ∙ a.table; guest = b.guest ∙ a.guest; numbers = b.numbers ∙ a.numbers; idle = b.idle }

pub back_same : (p : Known) → IsIdle p.view → IsBack p p
back_same p idle = record { table = refl; guest = refl; numbers = refl; idle = idle }

-- ---- numbers

-- two passes were given out and joined, the second first: every number is in
pub all_in_again : (p a b c d x y : Known) (m n : ℕ) → p.view.guest ≡ root → ((k : ℕ) → get_elem? p.view.numbers k ≡ some out → ⊥) → a ≡ parent_pass p m → b ≡ parent_pass a n → TookIn b y c → TookIn c x d → x.view.guest ≡ m → y.view.guest ≡ n → AllIn d.view
all_in_again p a b c d x y m n first none sa sb jc jd gx gy = (
  ap (λ (k : Known). k.view.guest) jd.is ∙ (ap (λ (k : Known). k.view.guest) jc.is ∙ (ap (λ (k : Known). k.view.guest) sb ∙ (ap (λ (k : Known). k.view.guest) sa ∙ first))),
  λ k is.
      let at_d = sym (ap (λ (z : Known). get_elem? z.view.numbers k) jd.is) ∙ is in
      ⊎_elim (λ (t : (k ≡ x.view.guest) × (back x.view.mine x.view.noted ≡ out)). let e = t.1 in absurd (cc))
      (λ (t : (k ≢ x.view.guest) × (get_elem? c.view.numbers k ≡ some out)). let at_c = sym (ap (λ (z : Known). get_elem? z.view.numbers k) jc.is) ∙ t.1 in
      ⊎_elim (λ (u : (k ≡ y.view.guest) × (back y.view.mine y.view.noted ≡ out)). let e = u.1 in absurd (cc))
      (λ (u : (k ≢ y.view.guest) × (get_elem? b.view.numbers k ≡ some out)). let at_b = sym (ap (λ (z : Known). get_elem? z.view.numbers k) sb) ∙ u.1 in
      ⊎_elim (λ (w : (k ≡ n) × (out ≡ out)). u.0 (w.0 ∙ sym gy))
      (λ (w : (k ≢ n) × (get_elem? a.view.numbers k ≡ some out)). let at_a = sym (ap (λ (z : Known). get_elem? z.view.numbers k) sa) ∙ w.1 in
      ⊎_elim (λ (o : (k ≡ m) × (out ≡ out)). t.0 (o.0 ∙ sym gx)) (λ (o : (k ≢ m) × (get_elem? p.view.numbers k ≡ some out)). none k o.1)
      (at_set p.view.numbers m k out out at_a))
      (at_set a.view.numbers n k out out at_b))
      (at_set b.view.numbers y.view.guest k (back y.view.mine y.view.noted) out at_c))
      (at_set c.view.numbers x.view.guest k (back x.view.mine x.view.noted) out at_d),
)

-- a new pass has nothing in hand
pub child_idle : (p : Known) (n : ℕ) → IsIdle (child_pass p n).view
child_idle p n f = let e = get_map only_seen p.view.mine.files f unseen in (ap (λ (m : Shown). m.turn) e, ap (λ (m : Shown). m.leases) e, ap (λ (m : Shown). m.bar) e)

-- nor has the first
pub first_idle : (t : TableId) (firsts : List First) (leasers : ℕ) → IsIdle (first_pass t firsts leasers).view
first_idle t firsts leasers f = let e = get_map nothing_of (new_core firsts leasers).files f no_file in (ap (λ (m : Shown). m.turn) e, ap (λ (m : Shown). m.leases) e, ap (λ (m : Shown). m.bar) e)

-- it gave no number out
pub first_none : (k : ℕ) → get_elem? (set (replicate {A = Given Mine (List Refusal)} guests unused) root opened) k ≡ some out → ⊥
first_none k is = ⊎_elim (λ (t : (k ≡ root) × (opened ≡ out)). let e = t.1 in absurd (cc)) (λ (t : (k ≢ root) × (get_elem? (replicate guests unused) k ≡ some out)). all_unused guests k t.1) (at_set (replicate guests unused) root k opened out is)
  where
    all_unused : (n k : ℕ) → get_elem? (replicate {A = Given Mine (List Refusal)} n unused) k ≡ some out → ⊥
    all_unused zero k e = some-ne-none out (sym e)
    all_unused (suc n) zero e = let x : unused ≡ out = some-injective unused out e in absurd (cc)
    all_unused (suc n) (suc k) e = all_unused n k e

-- the turn is had after it was taken
pub turn_had : (f : ℕ) (p q : Known) → f < length p.view.mine.files → Entered f p.view q.view → (part q.view f).turn ≡ true
turn_had f p q near x = ap (λ (y : Mine). (in_list y.files f).turn) x.shown ∙ ap (λ (y : Shown). y.turn) (get_or-set_same p.view.mine.files f (taken_part x.more (part p.view f)) unseen near)

-- a turn in which nothing was applied
pub look_made : (f : ℕ) (e : Entry) (p a q : Known) → f < length p.view.mine.files → IsIdle p.view → IsDeed f take_turn p a → Entered f p.view a.view → Left a f q → IsBack p q
look_made f e p a q near idle deed x left = turn_made f e p a a q (Err refusals.Memory) near idle deed x refl left

-- who gave a number out has nothing more in hand
pub parent_idle : (p q : Known) (n : ℕ) → q ≡ parent_pass p n → IsIdle p.view → IsIdle q.view
parent_idle p q n e idle = subst (λ (k : Known). IsIdle k.view) (sym e) idle

-- lists of one and of four that were pushed
pub one_pushed : (x : First) (a b : List First) → a ≡ [] → b ≡ a ++ x ∷ [] → length b ≡ 1
one_pushed x a b ea eb = ap (λ (l : List First). length l) (eb ∙ ap (λ (l : List First). l ++ x ∷ []) ea)

pub four_pushed : (x : First) (a b c d e : List First) → a ≡ [] → b ≡ a ++ x ∷ [] → c ≡ b ++ x ∷ [] → d ≡ c ++ x ∷ [] → e ≡ d ++ x ∷ [] → length e ≡ 4
four_pushed x a b c d e ea eb ec ed ee = ap (λ (l : List First). length l)
    (ee ∙ ap (λ (l : List First). l ++ x ∷ []) (ed ∙ ap (λ (l : List First). l ++ x ∷ []) (ec ∙ ap (λ (l : List First). l ++ x ∷ []) (eb ∙ ap (λ (l : List First). l ++ x ∷ []) ea))))

-- a pass that was split off is of the table, and has nothing in hand
pub split_table : (t : TableId) (p q r : Known) (n : ℕ) → p.table ≡ t → q ≡ parent_pass p n → r ≡ child_pass p n → (q.table ≡ t) × (r.table ≡ t) × IsIdle r.view
split_table t p q r n is kept given = (ap (λ (k : Known). k.table) kept ∙ is, ap (λ (k : Known). k.table) given ∙ is, subst (λ (k : Known). IsIdle k.view) (sym given) (child_idle p n))

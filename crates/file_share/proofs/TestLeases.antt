-- What calls leave in the hand of a pass, and which numbers are out.
use Rattle.std.proofs.Common.{◌≡◌, ◌≢◌, ◌∙◌, ap, sym, subst, refl, ℕ, zero, suc, ◌+◌, ◌-◌, ◌<◌, Bool, true, false, List, [], ◌∷◌, length, ⊎_elim}
use mathlib.Core.Option.{some}
use lib.ListN.{get_elem?}
use Rattle.atomic_table.proofs.Lists.{at_set}
use Rattle.atomic_table.specs.Seated.{TableId}
use Rattle.seats.specs.Views.{back, out}
use Rattle.plain_file.specs.declared.operations.First.{First}
use Rattle.files_core.specs.Files.{Deed, FileDeed, take_turn, give_turn, lease, note_size, unlease, on}
use Rattle.files_core.specs.Shown.{Shown}
use Rattle.file_share.specs.Table.{Knows, Mine, part, in_list, merged_files}
use Rattle.file_share.specs.Known.{Known, IsDeed, IsIdle, IsShown, Entered, Left, Looked, IsLeased, IsUnleased, TookIn, taken_part, given_part, noted_part, leased_part, unleased_part, first_pass, parent_pass}
use Rattle.file_share.specs.Turns.{HasOf}
use Rattle.file_share.proofs.Boarding.{Changed, changed, part_here, part_else, count_same, table_same}
use Rattle.file_share.proofs.TestTurns.{first_none}

-- ---- one file's part after a call

module _ (t : TableId) (g f : ℕ) (turn : Bool) (leases : ℕ) (bar : Bool) (p q : Known) (h : HasOf t g f turn leases bar p) where
  has_near : f < length p.view.mine.files
  has_near = subst (λ n. f < n) (sym h.wide) h.near

  moved : (ds : List FileDeed) (m : Shown) → Changed p q f m ds → HasOf t g f m.turn m.leases m.bar q
  moved ds m c = let here = part_here p q f m ds c in record {
    table = table_same p q f m ds c ∙ h.table;
    guest = c.guest ∙ h.guest;
    may = subst (λ n. n < q.view.mine.leasers) (sym c.guest) (subst (λ n. p.view.guest < n) (sym (ap (λ (y : Mine). y.leasers) c.shown)) h.may);
    near = h.near;
    wide = count_same p q f m ds c ∙ h.wide;
    has_turn = ap (λ (y : Shown). y.turn) here;
    has_leases = ap (λ (y : Shown). y.leases) here;
    has_bar = ap (λ (y : Shown). y.bar) here;
    others = λ i ne. let e = part_else p q f m ds c i ne in let o = h.others i ne in (ap (λ (y : Shown). y.turn) e ∙ o.0, ap (λ (y : Shown). y.leases) e ∙ o.1, ap (λ (y : Shown). y.bar) e ∙ o.2);
  }

  one : (d : Deed) (m : Shown) → IsDeed f d p q → IsShown f m p.view q.view → HasOf t g f m.turn m.leases m.bar q
  one d m deed shown = moved (on f d ∷ []) m (changed p q f d m has_near deed shown)

  with_hands : (turn' : Bool) (leases' : ℕ) (bar' : Bool) (m : Shown) → m.turn ≡ turn' → m.leases ≡ leases' → m.bar ≡ bar' → HasOf t g f m.turn m.leases m.bar q → HasOf t g f turn' leases' bar' q
  with_hands turn' leases' bar' m a b c k = record { table = k.table; guest = k.guest; may = k.may; near = k.near; wide = k.wide; has_turn = k.has_turn ∙ a; has_leases = k.has_leases ∙ b; has_bar = k.has_bar ∙ c; others = k.others }

  pub has_entered : IsDeed f take_turn p q → Entered f p.view q.view → HasOf t g f true leases bar q
  has_entered deed x = let m = taken_part x.more (part p.view f) in with_hands true leases bar m refl h.has_leases h.has_bar (one take_turn m deed x.shown)

  pub has_looked : (z : ℕ) → Looked p f z q → HasOf t g f turn leases bar q
  has_looked z x = let m = noted_part z (part p.view f) in with_hands turn leases bar m h.has_turn h.has_leases h.has_bar (one note_size m x.deed x.shown)

  pub has_left : Left p f q → HasOf t g f false leases bar q
  has_left x = let m = given_part (part p.view f) in with_hands false leases bar m refl h.has_leases h.has_bar (one give_turn m x.deed x.shown)

  pub has_leased : (z : ℕ) → IsLeased p f z q → HasOf t g f turn (leases + 1) bar q
  has_leased z x = let m = noted_part z (leased_part (part p.view f)) in with_hands turn (leases + 1) bar m h.has_turn (ap (λ n. n + 1) h.has_leases) h.has_bar
      (moved (on f note_size ∷ on f lease ∷ []) m (record {
        near = has_near;
        kept = x.look.kept ∙ ap (λ (k : Known). record k { view = q.view }) x.deed.kept;
        guest = ap (λ (v : Knows). v.guest) x.look.does.is ∙ ap (λ (v : Knows). v.guest) x.deed.does.is;
        noted = ap (λ (v : Knows). v.noted) x.look.does.is ∙ ap (λ (v : Knows). v.noted) x.deed.does.is;
        shown = x.shown;
        did = ap (λ (v : Knows). v.did) x.look.does.is ∙ ap (λ (v : Knows). on f note_size ∷ v.did) x.deed.does.is;
      }))

  pub has_unleased : IsUnleased p f q → HasOf t g f turn (leases - 1) bar q
  has_unleased x = let m = unleased_part (part p.view f) in with_hands turn (leases - 1) bar m h.has_turn (ap (λ n. n - 1) h.has_leases) h.has_bar (one unlease m x.deed x.shown)

-- ---- what is had by who gives numbers out and takes them in

merged_else : (ms ns : List Shown) (f : ℕ) → in_list (merged_files ms ns) f ≡ record (in_list ms f) { seen = (in_list (merged_files ms ns) f).seen }
merged_else [] ns f = refl
merged_else (m ∷ ms) [] f = refl
merged_else (m ∷ ms) (n ∷ ns) zero = refl
merged_else (m ∷ ms) (n ∷ ns) (suc f) = merged_else ms ns f

pub joined_idle : (p o q : Known) → TookIn p o q → IsIdle p.view → IsIdle q.view
joined_idle p o q took idle i = let e = ap (λ (k : Known). part k.view i) took.is ∙ merged_else p.view.mine.files o.view.mine.files i in
    (ap (λ (y : Shown). y.turn) e ∙ (idle i).0, ap (λ (y : Shown). y.leases) e ∙ (idle i).1, ap (λ (y : Shown). y.bar) e ∙ (idle i).2)

-- ---- numbers

-- which numbers are out
abbrev pub Outs : (ℕ → Type 0) → Known → Type 0
Outs P p = (k : ℕ) → get_elem? p.view.numbers k ≡ some out → P k

pub first_outs : (t : TableId) (firsts : List First) (leasers : ℕ) (p : Known) → p ≡ first_pass t firsts leasers → Outs (λ k. ⊥) p
first_outs t firsts leasers p e k is = first_none k (sym (ap (λ (z : Known). get_elem? z.view.numbers k) e) ∙ is)

pub split_outs : (P Q : ℕ → Type 0) (p q : Known) (n : ℕ) → q ≡ parent_pass p n → Q n → ((k : ℕ) → P k → Q k) → Outs P p → Outs Q q
split_outs P Q p q n kept here more outs k is = ⊎_elim (λ (x : (k ≡ n) × (out ≡ out)). subst Q (sym x.0) here) (λ (x : (k ≢ n) × (get_elem? p.view.numbers k ≡ some out)). more k (outs k x.1))
    (at_set p.view.numbers n k out out (sym (ap (λ (z : Known). get_elem? z.view.numbers k) kept) ∙ is))

pub join_outs : (P Q : ℕ → Type 0) (p o q : Known) (n : ℕ) → TookIn p o q → o.view.guest ≡ n → ((k : ℕ) → k ≢ n → P k → Q k) → Outs P p → Outs Q q
join_outs P Q p o q n took guest less outs k is = ⊎_elim (λ (x : (k ≡ o.view.guest) × (back o.view.mine o.view.noted ≡ out)). let e = x.1 in absurd (cc)) (λ (x : (k ≢ o.view.guest) × (get_elem? p.view.numbers k ≡ some out)). less k (λ e. x.0 (e ∙ sym guest)) (outs k x.1))
    (at_set p.view.numbers o.view.guest k (back o.view.mine o.view.noted) out (sym (ap (λ (z : Known). get_elem? z.view.numbers k) took.is) ∙ is))

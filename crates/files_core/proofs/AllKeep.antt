-- Each deed keeps all files good.
use Rattle.std.proofs.Common.{◌≡◌, ◌≢◌, ◌⊎◌, ℕ, ◌<◌, List, length, set, Option, Some, sym, ap, ◌∙◌, subst, ⊎_elim, inl, inr, arith, length-set, ◌≤◌, IfSome}
use Rattle.files_core.specs.Files.{FileState, no_file, file, Deed, take_turn, set_size, give_turn, lease, note_size, unlease, set_bar, clear_bar, May, made, Freely, FileDeed, Allowed, after, row}
use Rattle.files_core.specs.Good.{GoodFile, GoodFiles}
use Rattle.files_core.proofs.Places.{at_put}
use Rattle.files_core.proofs.Keeps.{same_guest, not_none, file_keeps}

-- of what each guest has at most one, it has at most one where one file's is given back, stays, or is new and the only one
alone_put : (of : FileState → Option ℕ) (cs : List FileState) (f : ℕ) (c : FileState) → f < length cs
    → ((g : ℕ) → of c ≡ Some g → (of (file cs f) ≡ Some g) ⊎ ((i : ℕ) → of (file cs i) ≢ Some g))
    → ((i j g : ℕ) → of (file cs i) ≡ Some g → of (file cs j) ≡ Some g → i ≡ j)
    → (i j g : ℕ) → of (file (set cs f c) i) ≡ Some g → of (file (set cs f c) j) ≡ Some g → i ≡ j
alone_put of cs f c near new alone i j g p q = ⊎_elim
    (λ s. ⊎_elim (λ t. s.0 ∙ sym t.0) (λ t. other i j s.0 (sym (ap of s.1) ∙ p) (sym (ap of t.1) ∙ q)) (at_put cs f j c no_file near))
    (λ s. ⊎_elim (λ t. sym (other j i t.0 (sym (ap of t.1) ∙ q) (sym (ap of s.1) ∙ p))) (λ t. alone i j g (sym (ap of s.1) ∙ p) (sym (ap of t.1) ∙ q)) (at_put cs f j c no_file near))
    (at_put cs f i c no_file near)
  where
    other : (a b : ℕ) → a ≡ f → of c ≡ Some g → of (file cs b) ≡ Some g → a ≡ b
    other a b here has there = ⊎_elim (λ was. here ∙ alone f b g was there) (λ free. absurd (free b there)) (new g has)

module _ (guests : ℕ) (cs : List FileState) (g : ℕ) (l : g < guests) (good : GoodFiles guests cs) where
  turn_new : (f : ℕ) (d : Deed) → May (file cs f) g d → Freely cs g d → (x : ℕ) → (made (file cs f) g d).turn ≡ Some x → ((file cs f).turn ≡ Some x) ⊎ ((i : ℕ) → (file cs i).turn ≢ Some x)
  turn_new f take_turn a free x e = inr (subst (λ (n : ℕ). (i : ℕ) → (file cs i).turn ≢ Some n) (same_guest g x e) free)
  turn_new f (set_size y) a free x e = inl e
  turn_new f give_turn a free x e = absurd (not_none x e)
  turn_new f lease a free x e = inl e
  turn_new f note_size a free x e = inl e
  turn_new f unlease a free x e = inl e
  turn_new f set_bar a free x e = inl e
  turn_new f clear_bar a free x e = inl e

  bar_new : (f : ℕ) (d : Deed) → May (file cs f) g d → Freely cs g d → (x : ℕ) → (made (file cs f) g d).bar ≡ Some x → ((file cs f).bar ≡ Some x) ⊎ ((i : ℕ) → (file cs i).bar ≢ Some x)
  bar_new f take_turn a free x e = inl e
  bar_new f (set_size y) a free x e = inl e
  bar_new f give_turn a free x e = inl e
  bar_new f lease a free x e = inl e
  bar_new f note_size a free x e = inl e
  bar_new f unlease a free x e = inl e
  bar_new f set_bar a free x e = inr (subst (λ (n : ℕ). (i : ℕ) → (file cs i).bar ≢ Some n) (same_guest g x e) free)
  bar_new f clear_bar a free x e = absurd (not_none x e)

  pub files_keep : (d : FileDeed) → Allowed cs g d → GoodFiles guests (after cs g d)
  files_keep d a = let c = made (file cs d.at) g d.deed in record {
    files_ok = λ i few. ⊎_elim
        (λ s. subst (λ (x : FileState). GoodFile guests x) (sym s.1) (file_keeps guests (file cs d.at) g l (good.files_ok d.at a.known) d.deed a.may))
        (λ s. subst (λ (x : FileState). GoodFile guests x) (sym s.1) (good.files_ok i (let n = length-set cs d.at c in omega arith)))
        (at_put cs d.at i c no_file a.known);
    one_turn = alone_put (λ x. x.turn) cs d.at c a.known (turn_new d.at d.deed a.may a.freely) good.one_turn;
    one_bar = alone_put (λ x. x.bar) cs d.at c a.known (bar_new d.at d.deed a.may a.freely) good.one_bar;
  }

pub lease_holds : (guests g f z : ℕ) (cs : List FileState) → g < guests → f < length cs → GoodFiles guests cs → (row (file cs f) g).noted ≡ Some z → z ≤ (file cs f).size
lease_holds guests g f z cs l near good is = (subst (λ (o : Option ℕ). IfSome o (λ x. (x ≤ (file cs f).size) × (0 < (row (file cs f) g).leases))) is ((good.files_ok f near).rows_ok g l).noted).0

-- What becomes of the sizes that a board has noted of a file.
use Rattle.std.proofs.Common.{◌≡◌, ◌∙◌, ap, sym, refl, subst, ℕ, zero, suc, ◌<◌, Bool, true, false, List, [], ◌∷◌, ◌++◌, length, map, get_or, Some, None, inl, inr, arith}
use Rattle.std.specs.Prelude.{IfSome, slice_get}
use Rattle.std.proofs.lemmas.Grind.{common_steps}
use Rattle.plain_file.specs.declared.operations.Entry.{Entry}
use Rattle.plain_file.specs.declared.operations.First.{First}
use Rattle.plain_file.specs.Board.{Note, FileView}
use Rattle.plain_file.specs.Turns.{closed, leased_file}
use Rattle.plain_file.specs.Sound.{IsSoundFile, IsFresh}
use Rattle.guest_io.specs.Notes.{ClosesNotes, KeepsNotes, SameNotes}

-- ---- under the file's turn

map-at : (long : ℕ) (ns : List Note) (k : ℕ) (n : Note) → slice_get ns k ≡ Some n → (k < length (map (closed long) ns)) × (get_or (map (closed long) ns) k n ≡ closed long n)
map-at long [] k n e = absurd cc
map-at long (m ∷ ns) zero n e = let same : m ≡ n = cc in (omega arith, ap (closed long) same)
map-at long (m ∷ ns) (suc k) n e = let x = map-at long ns k n e in (omega (arith, x.0), x.1)

closed-none : (long : ℕ) (n : Note) → n.upper ≡ None → closed long n ≡ record n { upper = Some long }
closed-none long n e = rw e refl

-- a note that got its upper end is between its ends, as the file is sound
closed-fresh : (guest : ℕ) (plain : Bool) (f g : FileView) (long k : ℕ) (n : Note) → g.notes ≡ map (closed long) f.notes → IsSoundFile guest plain g → slice_get f.notes k ≡ Some n → n.upper ≡ None → IsFresh g.first g.history n.lower long n.size
closed-fresh guest plain f g long k n notes sound at none =
    let x = map-at long f.notes k n at in
    let here = sound.notes k n (subst (λ (l : List Note). k < length l) (sym notes) x.0) in
    let found : get_or g.notes k n ≡ record n { upper = Some long } = ap (λ (l : List Note). get_or l k n) notes ∙ x.1 ∙ closed-none long n none in
    subst (λ (m : Note). IfSome m.upper (λ upper. IsFresh g.first g.history m.lower upper m.size)) found here

pub closes-by : (guest : ℕ) (plain : Bool) (f g : FileView) (more : List Entry) (e : Entry) → g.notes ≡ map (closed (length (f.history ++ more))) f.notes → g.history ≡ (f.history ++ more) ++ e ∷ [] → IsSoundFile guest plain g → ClosesNotes f g
closes-by guest plain f g more e notes history sound k n at none = (length (f.history ++ more), ap (λ (l : List Entry). length l) history ∙ grind (arith, common_steps), closed-fresh guest plain f g (length (f.history ++ more)) k n notes sound at none)

pub keeps-by : (guest : ℕ) (plain : Bool) (f g : FileView) (more : List Entry) → g.notes ≡ map (closed (length (f.history ++ more))) f.notes → g.history ≡ f.history ++ more → IsSoundFile guest plain g → KeepsNotes f g
keeps-by guest plain f g more notes history sound k n at none =
    inr (subst (λ (l : List Entry). IsFresh g.first g.history n.lower (length l) n.size) (sym history) (closed-fresh guest plain f g (length (f.history ++ more)) k n notes sound at none))

-- ---- under a lease

note-front : (ns : List Note) (m : Note) (k : ℕ) (n : Note) → slice_get ns k ≡ Some n → slice_get (ns ++ m ∷ []) k ≡ Some n
note-front [] m k n e = absurd cc
note-front (x ∷ ns) m zero n e = e
note-front (x ∷ ns) m (suc k) n e = note-front ns m k n e

pub last-note : (ns : List Note) (n : Note) → slice_get (ns ++ n ∷ []) (length ns) ≡ Some n
last-note [] n = refl
last-note (m ∷ ns) n = last-note ns n

pub same-leased : (keeps : Bool) (z : ℕ) (f : FileView) → SameNotes f (leased_file keeps z f)
same-leased true z f k n at = note-front f.notes (record { size = z; lower = length f.history; upper = None }) k n at
same-leased false z f k n at = at

-- ---- between two leases

fresh-as : (first first' : First) (h h' : List Entry) (lower upper z : ℕ) → first' ≡ first → h' ≡ h → IsFresh first h lower upper z → IsFresh first' h' lower upper z
fresh-as first first' h h' lower upper z e d x = subst (λ (l : List Entry). IsFresh first' l lower upper z) (sym d) (subst (λ (a : First). IsFresh a h lower upper z) (sym e) x)

pub closes-between : (f f' g g' : FileView) → SameNotes f f' → ClosesNotes f' g → g'.first ≡ g.first → g'.history ≡ g.history → ClosesNotes f g'
closes-between f f' g g' same closes first history k n at none =
    let (place, last, fresh) = closes k n (same k n at) none in
    (place, ap (λ (l : List Entry). length l) history ∙ last, fresh-as g.first g'.first g.history g'.history n.lower place n.size first history fresh)

pub keeps-between : (f f' g g' : FileView) → SameNotes f f' → KeepsNotes f' g → SameNotes g g' → g'.first ≡ g.first → g'.history ≡ g.history → KeepsNotes f g'
keeps-between f f' g g' same keeps after first history k n at none = elim (keeps k n (same k n at) none) [
  | inl yet ↦ inl (after k n yet)
  | inr fresh ↦ inr (subst (λ (l : List Entry). IsFresh g'.first g'.history n.lower (length l) n.size) (sym history) (fresh-as g.first g'.first g.history g'.history n.lower (length g.history) n.size first history fresh))
]

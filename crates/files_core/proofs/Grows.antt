-- Histories only grow.
use Rattle.std.proofs.Common.{ℕ, ◌<◌, List, [], ◌∷◌, length, Option, Some, None, refl, sym, subst, ⊎_elim}
use Rattle.std.proofs.lemmas.List.{append-nil}
use Rattle.plain_file.specs.declared.operations.Entry.{Entry}
use Rattle.files_core.specs.Files.{FileState, no_file, file, with_entry, Deed, take_turn, set_size, give_turn, lease, note_size, unlease, set_bar, clear_bar, made, FileDeed, after}
use Rattle.files_core.specs.Laws.{Begins}
use Rattle.files_core.proofs.Places.{at_put}

same : {A : Type 0} (xs : List A) → Begins xs xs
same xs = ([], append-nil xs)

with_grows : (h : List Entry) (o : Option Entry) → Begins h (with_entry h o)
with_grows h None = same h
with_grows h (Some e) = (e ∷ [], refl)

made_grows : (c : FileState) (g : ℕ) (d : Deed) → Begins c.history (made c g d).history
made_grows c g take_turn = same c.history
made_grows c g (set_size e) = same c.history
made_grows c g give_turn = with_grows c.history c.applied
made_grows c g lease = same c.history
made_grows c g note_size = same c.history
made_grows c g unlease = same c.history
made_grows c g set_bar = same c.history
made_grows c g clear_bar = same c.history

pub files_grow : (cs : List FileState) (g : ℕ) (d : FileDeed) → d.at < length cs → (f : ℕ) → Begins (file cs f).history (file (after cs g d) f).history
files_grow cs g d near f = ⊎_elim
    (λ s. subst (λ (x : FileState × ℕ). Begins (file cs x.1).history x.0.history) (λ i. (sym s.1 i, sym s.0 i)) (made_grows (file cs d.at) g d.deed))
    (λ s. subst (λ (x : FileState). Begins (file cs f).history x.history) (sym s.1) (same (file cs f).history))
    (at_put cs d.at f (made (file cs d.at) g d.deed) no_file near)

-- The looks at one guest more.
use Rattle.std.proofs.Common.{◌≡◌, ◌∙◌, ap, sym, refl, subst, ℕ, zero, suc, ◌+◌, ◌≤◌, inl, inr, List, [], ◌∷◌, ◌++◌, length, slice_get, Some, length-append, arith}
use Rattle.std.proofs.lemmas.Option.{none-some, slice_get_within}
use Rattle.std.proofs.lemmas.Bool.{cases_lt}
use Rattle.dax_script.specs.declared.scripts.Script.{Script}
use Rattle.dax_script.specs.Asks.{calls_of}
use Rattle.dax_audit.specs.declared.looks.Look.{Look}
use Rattle.transcript_text.specs.declared.transcripts.GuestPart.{GuestPart}
use Rattle.transcript_text.specs.declared.transcripts.Transcript.{Transcript}
use Rattle.dax_audit.specs.Tables.{IsLook, AreLooks, AreLooksTo}

get_front : {X : Type 0} (xs : List X) (y : X) (i : ℕ) (x : X) → slice_get xs i ≡ Some x → slice_get (xs ++ y ∷ []) i ≡ Some x
get_front [] y i x h = absurd (none-some x h)
get_front (z ∷ xs) y zero x h = h
get_front (z ∷ xs) y (suc i) x h = get_front xs y i x h

get_last : {X : Type 0} (xs : List X) (y : X) → slice_get (xs ++ y ∷ []) (length xs) ≡ Some y
get_last [] y = refl
get_last (z ∷ xs) y = get_last xs y

pub looks_more : (s : Script) (t : Transcript) (n : ℕ) (looks : List Look) (look : Look) (item : GuestPart) → AreLooksTo s t n looks → slice_get t.guests n ≡ Some item → IsLook (calls_of s n) item.lines look → AreLooksTo s t (n + 1) (looks ++ look ∷ [])
looks_more s t n looks look item before at is = record {
  many = omega (arith, length-append looks (look ∷ []), before.many);
  each = λ g part small there. elim (cases_lt g n) [
    | inl below ↦ let row = before.each g part below there in (row.0, get_front looks look g row.0 row.1, row.2)
    | inr above ↦
        let e : n ≡ g = omega arith in
        let same : item ≡ part = (let f : Some item ≡ Some part = sym at ∙ ap (λ k. slice_get t.guests k) e ∙ there in cc) in
        let here : slice_get (looks ++ look ∷ []) g ≡ Some look = ap (λ k. slice_get (looks ++ look ∷ []) k) (sym (before.many ∙ e)) ∙ get_last looks look in
        (look, here, subst (λ k. IsLook (calls_of s k) part.lines look) e (subst (λ (p : GuestPart). IsLook (calls_of s n) p.lines look) same is))
  ];
}

pub looks_all : (s : Script) (t : Transcript) (n : ℕ) (looks : List Look) → AreLooksTo s t n looks → length t.guests ≤ n → AreLooks s t looks
looks_all s t n looks h all = record { each = λ g part at. let small = slice_get_within t.guests g part at in h.each g part (omega arith) at }

pub looks_none : (s : Script) (t : Transcript) → AreLooksTo s t 0 []
looks_none s t = record { many = refl; each = λ g part small at. absurd (omega (arith, small)) }

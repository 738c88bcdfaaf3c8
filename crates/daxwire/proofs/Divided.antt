-- An input cut at the line that parts a script from its transcript.
use Rattle.std.proofs.Common.{◌≡◌, ◌∙◌, ap, sym, refl, subst, ℕ, ◌+◌, ◌≤◌, List, [], ◌∷◌, ◌++◌, length, take, Bool, true, false, Option, Some, None, option_map, bytes_eq, append_assoc, append-nil, length-append, take_at, arith}
use Rattle.std.specs.List.{join_with_byte}
use Rattle.std.proofs.lemmas.List.Splits.{join_with_byte-slice_split}
use Rattle.plain_text.specs.Words.{parts, line_end}
use Rattle.daxwire.specs.AuditText.{Texts, behind, divider, texts_round, texts_of}

-- a text is its lines with line ends between them
pub rejoined : (text : List ℕ) → join_with_byte line_end (parts line_end text) ≡ text
rejoined text = join_with_byte-slice_split line_end text

-- a text behind its first line
pub with_first : (text line rest : List ℕ) (next : List ℕ) (others : List (List ℕ)) → parts line_end text ≡ line ∷ parts line_end rest → parts line_end rest ≡ next ∷ others → text ≡ line ++ line_end ∷ rest
with_first text line rest next others cut more =
    sym (rejoined text) ∙ ap (join_with_byte line_end) cut ∙ ap (λ ls. join_with_byte line_end (line ∷ ls)) more
    ∙ ap (λ ls. line ++ line_end ∷ join_with_byte line_end ls) (sym more) ∙ ap (λ t. line ++ line_end ∷ t) (rejoined rest)

-- what was passed and what is left say the input's texts together
pub record IsCutAt (input rest : List ℕ) (passed : ℕ) : Type 0 where
  pub texts : texts_of input ≡ option_map (behind (take passed input)) (texts_of rest)
  pub whole : input ≡ take passed input ++ rest
  pub within : passed + length rest ≡ length input

nothing_before : (o : Option Texts) → o ≡ option_map (behind []) o
nothing_before None = refl
nothing_before (Some t) = refl

pub cut_at_start : (input : List ℕ) → IsCutAt input input 0
cut_at_start input = record { texts = nothing_before (texts_of input); whole = refl; within = omega arith }

behind_nothing : (front transcript : List ℕ) → behind front (record { script = []; transcript = transcript }) ≡ record { script = front; transcript = transcript }
behind_nothing front transcript = ap (λ s. record { script = s; transcript = transcript }) (append-nil front)

-- the divider's line, by the lines of what is left
divider_first : (rest line : List ℕ) (ls : List (List ℕ)) → parts line_end rest ≡ line ∷ ls → bytes_eq line divider ≡ true → texts_of rest ≡ Some (record { script = []; transcript = join_with_byte line_end ls })
unfolding texts_of texts_round
divider_first rest line ls cut is = ap texts_round cut ∙ rw is refl

-- another line
other_first : (rest line : List ℕ) (ls : List (List ℕ)) → parts line_end rest ≡ line ∷ ls → bytes_eq line divider ≡ false → texts_of rest ≡ option_map (behind (line ++ line_end ∷ [])) (texts_round ls)
unfolding texts_of texts_round
other_first rest line ls cut is = ap texts_round cut ∙ rw is refl

-- the divider is the last line, or has a line end
pub divided_last : (input rest : List ℕ) (passed : ℕ) (line : List ℕ) → IsCutAt input rest passed → parts line_end rest ≡ line ∷ [] → bytes_eq line divider ≡ true
    → texts_of input ≡ Some (record { script = take passed input; transcript = [] })
divided_last input rest passed line at cut is = at.texts ∙ ap (option_map (behind (take passed input))) (divider_first rest line [] cut is) ∙ ap Some (behind_nothing (take passed input) [])

pub divided_within : (input rest : List ℕ) (passed : ℕ) (line after : List ℕ) → IsCutAt input rest passed → parts line_end rest ≡ line ∷ parts line_end after → bytes_eq line divider ≡ true
    → texts_of input ≡ Some (record { script = take passed input; transcript = after })
divided_within input rest passed line after at cut is =
    at.texts ∙ ap (option_map (behind (take passed input))) (divider_first rest line (parts line_end after) cut is)
    ∙ ap Some (behind_nothing (take passed input) (join_with_byte line_end (parts line_end after)) ∙ ap (λ t. record { script = take passed input; transcript = t }) (rejoined after))

-- no line is the divider
pub undivided : (input rest : List ℕ) (passed : ℕ) (line : List ℕ) → IsCutAt input rest passed → parts line_end rest ≡ line ∷ [] → bytes_eq line divider ≡ false → texts_of input ≡ None
unfolding texts_round
undivided input rest passed line at cut is = at.texts ∙ ap (option_map (behind (take passed input))) (other_first rest line [] cut is)

behind_both : (front more : List ℕ) (o : Option Texts) → option_map (behind front) (option_map (behind more) o) ≡ option_map (behind (front ++ more)) o
behind_both front more None = refl
behind_both front more (Some t) = ap (λ s. Some (record t { script = s })) (sym (append_assoc front more t.script))

-- a line was passed
pub line_passed : (input rest : List ℕ) (passed : ℕ) (line after next : List ℕ) (others : List (List ℕ)) → IsCutAt input rest passed → parts line_end rest ≡ line ∷ parts line_end after → parts line_end after ≡ next ∷ others
    → bytes_eq line divider ≡ false → IsCutAt input after (passed + (length line + 1))
unfolding texts_of
line_passed input rest passed line after next others at cut more is =
    let begun : rest ≡ (line ++ line_end ∷ []) ++ after = with_first rest line after next others cut more ∙ sym (append_assoc line (line_end ∷ []) after) in
    let front = take passed input ++ (line ++ line_end ∷ []) in
    let whole : input ≡ front ++ after = at.whole ∙ ap (λ r. take passed input ++ r) begun ∙ sym (append_assoc (take passed input) (line ++ line_end ∷ []) after) in
    let long : length front ≡ passed + (length line + 1) =
    omega (arith, at.within, ap length at.whole, length-append (take passed input) rest, length-append (take passed input) (line ++ line_end ∷ []), length-append line (line_end ∷ [])) in
    let taken : take (passed + (length line + 1)) input ≡ front = ap (take (passed + (length line + 1))) whole ∙ take_at front after (passed + (length line + 1)) long in
    record {
      texts =
          at.texts ∙ ap (option_map (behind (take passed input))) (other_first rest line (parts line_end after) cut is)
          ∙ behind_both (take passed input) (line ++ line_end ∷ []) (texts_round (parts line_end after))
          ∙ ap (λ f. option_map (behind f) (texts_round (parts line_end after))) (sym taken);
      whole = whole ∙ ap (λ f. f ++ after) (sym taken);
      within = omega (arith, at.within, ap length begun, length-append (line ++ line_end ∷ []) after, length-append line (line_end ∷ []));
    }

use Rattle.std.proofs.Common.{◌∙◌, ap, sym, ◌+◌, ℕ, List, length, take, Option, Some}
use Rattle.std.specs.List.{position}
use Rattle.std.specs.Option.{option_map}
use Rattle.plain_text.specs.Words.{is_byte}
use Rattle.plain_text.proofs.FirstPlaces.{near_found, near_passed}
use Rattle.plain_text.proofs.cuts.near_place_of.Goals as goal

pub returns-in-Some-clause-value : goal.returns-in-Some-clause-value
returns-in-Some-clause-value c =
    let test = is_byte c.args.separator in
    sym (near_found test c.args.bytes.now c.min.result c.in-Some.at (ap (position test) (sym c.split_at.ensures.front) ∙ sym c.place_one_by_one.ensures.value ∙ c.in-Some.is))

pub returns-in_default-place_of-clause-value : goal.returns-in_default-place_of-clause-value
returns-in_default-place_of-clause-value c =
    let test = is_byte c.args.separator in
    let front : ℕ = length (take c.min.result c.args.bytes.now) in
    let passed = near_passed test c.args.bytes.now c.min.result (ap (position test) (sym c.split_at.ensures.front) ∙ sym c.place_one_by_one.ensures.value ∙ c.in_default.is) in
    let behind = ap (position test) (sym c.split_at.ensures.back) ∙ sym c.place_of.ensures.value ∙ c.in_default-place_of.is in
    sym (passed ∙ ap (λ (o : Option ℕ). option_map (λ i. front + i) o) behind)

pub returns-clause-value : goal.returns-clause-value
returns-clause-value c =
    let test = is_byte c.args.separator in
    let front : ℕ = length (take c.min.result c.args.bytes.now) in
    let passed = near_passed test c.args.bytes.now c.min.result (ap (position test) (sym c.split_at.ensures.front) ∙ sym c.place_one_by_one.ensures.value ∙ c.in_default.is) in
    let behind = ap (position test) (sym c.split_at.ensures.back) ∙ sym c.place_of.ensures.value ∙ c.in-Some-place_of.is in
    ap (λ (xs : List ℕ). Some (length xs + c.in-Some-place_of.at)) c.split_at.ensures.front ∙ sym (passed ∙ ap (λ (o : Option ℕ). option_map (λ i. front + i) o) behind)

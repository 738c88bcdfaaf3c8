use Rattle.std.proofs.Common.{◌≡◌, ◌∙◌, ◌<◌, ◌^◌, ap, sym, length, Some, arith}
use Rattle.std.proofs.lemmas.List.{length-map}
use Rattle.page_map.specs.Board.{MapView}
use Rattle.page_map.specs.Plain.{pages_of}
use Rattle.page_map.proofs.Keeping.{length-pages_of}
use Rattle.page_map.proofs.maps.PageMapMapBoard.pages.Goals as goal

pub overflow_cast-result : goal.overflow_cast-result
overflow_cast-result c =
    let few : length c.self.inside.table.items < 2 ^ 32 = rw length-pages_of at c.self.invariant.pages.few in
    record { fits = omega arith }

pub returns : goal.returns
returns c =
    let kept = c.self.inside.parts.items in
    let table = c.self.inside.table.items in
    let e : c.len.result ≡ length table = omega arith in
    e ∙ sym (length-pages_of kept table) ∙ sym (length-map (pages_of kept table) (λ p. Some p)) ∙ ap (λ (v : MapView). length v.table) c.self.view_is

use Rattle.std.proofs.Common.{◌≡◌, ◌∙◌, ap, sym, refl, true, false}
use Rattle.std.specs.List.{list_any}
use Rattle.page_map.specs.Board.{is_moved, is_at_chunk, is_chunk_of, placed_in, known_files}
use Rattle.page_map.specs.Logs.{is_writable}
use Rattle.range_share.specs.Boards.{board_of, hands_of}
use Rattle.range_share.proofs.BoardsMaps.{moves_told, may_is, files_known, has_span_is, sets}
use Rattle.range_share.proofs.boards.SeatMapMapBoard.may_set.Goals as goal

pub returns-then-not-is_at_chunk-clause-answer : goal.returns-then-not-is_at_chunk-clause-answer
returns-then-not-is_at_chunk-clause-answer c =
    let p = c.args.self.now.pass in
    let s = c.args.span.now in
    let n = files_known p c.files.result c.args.self.now.table.now.slots c.files.ensures (ap (λ t. t.slots) c.args.self.now.own) c.sound.ensures.sizes.1 in
    let at : is_at_chunk (known_files (board_of p)) s ≡ false = ap (λ k. is_at_chunk k s) (sym n) ∙ (sym c.is_at_chunk.ensures ∙ c.if-not-is_at_chunk.true) in
    sym (may_is p s false (is_moved (hands_of p.view).moves s.moffset s.len) (is_writable s.mode) (list_any (is_chunk_of s) (placed_in (hands_of p.view).tree (board_of p).ranges.logs)) at refl refl refl)

pub returns-then-is_moved-clause-answer : goal.returns-then-is_moved-clause-answer
returns-then-is_moved-clause-answer c =
    let p = c.args.self.now.pass in
    let s = c.args.span.now in
    let n = files_known p c.files.result c.args.self.now.table.now.slots c.files.ensures (ap (λ t. t.slots) c.args.self.now.own) c.sound.ensures.sizes.1 in
    let at : is_at_chunk (known_files (board_of p)) s ≡ true = ap (λ k. is_at_chunk k s) (sym n) ∙ (sym c.is_at_chunk.ensures ∙ c.if-not-is_at_chunk.false) in
    let moved : is_moved (hands_of p.view).moves s.moffset s.len ≡ true = ap (λ o. is_moved o s.moffset s.len) (sym (moves_told p c.moved.result c.sound.ensures.showing c.moved.ensures)) ∙ (sym c.is_moved.ensures ∙ c.if-is_moved.true) in
    sym (may_is p s true true (is_writable s.mode) (list_any (is_chunk_of s) (placed_in (hands_of p.view).tree (board_of p).ranges.logs)) at moved refl refl)

pub returns-then-is_moved-clause-held : goal.returns-then-is_moved-clause-held
returns-then-is_moved-clause-held c may = (sets c.args.self.now.pass c.args.span.now c.sound.ensures.showing (sym (returns-then-is_moved-clause-answer c))).held

pub returns-then-is_written-clause-answer : goal.returns-then-is_written-clause-answer
returns-then-is_written-clause-answer c =
    let p = c.args.self.now.pass in
    let s = c.args.span.now in
    let n = files_known p c.files.result c.args.self.now.table.now.slots c.files.ensures (ap (λ t. t.slots) c.args.self.now.own) c.sound.ensures.sizes.1 in
    let at : is_at_chunk (known_files (board_of p)) s ≡ true = ap (λ k. is_at_chunk k s) (sym n) ∙ (sym c.is_at_chunk.ensures ∙ c.if-not-is_at_chunk.false) in
    let moved : is_moved (hands_of p.view).moves s.moffset s.len ≡ false = ap (λ o. is_moved o s.moffset s.len) (sym (moves_told p c.moved.result c.sound.ensures.showing c.moved.ensures)) ∙ (sym c.is_moved.ensures ∙ c.if-is_moved.false) in
    let any = sym (has_span_is p s c.has_span.result c.has_span.ensures) in
    sym (may_is p s true false true c.has_span.result at moved (sym c.is_written.ensures ∙ c.if-is_written.true) any)

pub returns-then-is_written-clause-held : goal.returns-then-is_written-clause-held
returns-then-is_written-clause-held c may = (sets c.args.self.now.pass c.args.span.now c.sound.ensures.showing (sym (returns-then-is_written-clause-answer c) ∙ may)).held

pub returns-else-is_written-clause-answer : goal.returns-else-is_written-clause-answer
returns-else-is_written-clause-answer c =
    let p = c.args.self.now.pass in
    let s = c.args.span.now in
    let n = files_known p c.files.result c.args.self.now.table.now.slots c.files.ensures (ap (λ t. t.slots) c.args.self.now.own) c.sound.ensures.sizes.1 in
    let at : is_at_chunk (known_files (board_of p)) s ≡ true = ap (λ k. is_at_chunk k s) (sym n) ∙ (sym c.is_at_chunk.ensures ∙ c.if-not-is_at_chunk.false) in
    let moved : is_moved (hands_of p.view).moves s.moffset s.len ≡ false = ap (λ o. is_moved o s.moffset s.len) (sym (moves_told p c.moved.result c.sound.ensures.showing c.moved.ensures)) ∙ (sym c.is_moved.ensures ∙ c.if-is_moved.false) in
    c.if-is_written.false ∙ sym (may_is p s true false false (list_any (is_chunk_of s) (placed_in (hands_of p.view).tree (board_of p).ranges.logs)) at moved (sym c.is_written.ensures ∙ c.if-is_written.false) refl)

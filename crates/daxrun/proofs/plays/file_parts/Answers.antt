use Rattle.std.proofs.Common.{◌≡◌, ◌∙◌, ap, sym, subst, ℕ, ◌+◌, ◌<◌, ◌++◌, List, [], ◌∷◌, length, take, slice_get, Some, arith, length-append}
use Rattle.std.specs.List.{AllByRecursion}
use Rattle.std.proofs.lemmas.Iterator.Consumers.{YieldsList-turn}
use Rattle.std.proofs.lemmas.Iterator.Adapters.{YieldsList-from_vec}
use Rattle.transcript_text.specs.declared.transcripts.FilePart.{FilePart}
use Rattle.transcript_text.specs.TranscriptReading.{IsPrintableFile}
use Rattle.guest_run.specs.Runs.{part_of, parts_from}
use Rattle.guest_run.proofs.Places.{at_index, take_more, take_count, all_push}
use Rattle.guest_threads.specs.declared.tellings.FileTold.{FileTold}
use Rattle.daxrun.proofs.Playing.{parts_more, part_told}
use Rattle.daxrun.proofs.plays.file_parts.Goals as goal

pub loop-one-preserved : goal.loop-one-preserved
loop-one-preserved c =
    let b = c.into_iter-one-iterator.ensures.into_iter_gives in
    let vec = c.into_vec-one-items.result in
    let items = vec.items in
    let from = YieldsList-from_vec {s = c.into_iter-one-iterator.result} items b.0 (b.1 ∙ vec.ok.0) in
    let t = YieldsList-turn from c.loop-one.yielded c.loop-one.one-iterator c.loop-one.yielded_by c.next.result c.next.new.self c.in-Some.one c.in-Some.is c.next.ensures.steps in
    let one = c.in-Some.one in
    let k = length c.loop-one.yielded in
    let inv = c.loop-one.invariant in
    let lines = c.args.lines.now in
    let same : items ≡ c.args.told = c.into_vec-one-items.ensures in
    let at : slice_get c.args.told k ≡ Some one = ap (λ (l : List FileTold). slice_get l k) (sym same) ∙ at_index items k one t.0 t.1 in
    let f = c.index-lines-number.result in
    let lt : c.loop-one.number < length lines = (let n = inv.number in let near = t.0 in let many = c.requires.many in let len = ap (λ (l : List FileTold). length l) same in omega (arith, n, near, many, len)) in
    let line : slice_get lines k ≡ Some f = ap (λ (n : ℕ). slice_get lines n) (sym inv.number) ∙ at_index lines c.loop-one.number f lt c.index-lines-number.is in
    let counted : k ≡ 0 + length (take k lines) = (let z = take_count lines k f line in omega (arith, z)) in
    let longer : length (c.loop-one.yielded ++ one ∷ []) ≡ k + 1 = omega (arith, length-append c.loop-one.yielded (one ∷ [])) in
    record {
      number = (let n = inv.number in omega (arith, n, longer));
      parts = λ h logs told.
          let is : c.in_ok-part.part ≡ part_of h logs (0 + length (take k lines)) f = c.in_ok-part.ensures.value ∙ (part_told h logs k f one (told.1 k one at) ∙ ap (λ (n : ℕ). part_of h logs n f) counted) in
          c.in_ok-push.ensures.ok ∙ ((λ j. inv.parts h logs told j ++ is j ∷ []) ∙ (sym (ap (parts_from h logs 0) (take_more lines k f line) ∙ parts_more h logs 0 (take k lines) f) ∙ ap (λ (n : ℕ). parts_from h logs 0 (take n lines)) (sym longer)));
      printable = subst (λ (xs : List FilePart). AllByRecursion IsPrintableFile xs) (sym c.in_ok-push.ensures.ok) (all_push IsPrintableFile c.loop-one.parts c.in_ok-part.part inv.printable c.in_ok-part.ensures.printable);
    }

use Rattle.std.proofs.Common.{◌≡◌, ◌+◌, length, get_or, take, refl, sym, ◌∙◌, ap, arith}
use Rattle.fuse_codec.specs.declared.replies.Dirent.{Dirent}
use Rattle.fuse_codec.specs.Dirents.{entry_len, dirents_len, fitting}
use Rattle.fuse_codec.proofs.LongestPrefix.{no_len, dirents_len_more, count_more, count_stops, count_end}
use Rattle.fuse_codec.proofs.dirents.fitting.Goals as goal

pub loop-one-init : goal.loop-one-init
loop-one-init c = record { count = refl; within = omega arith; len = sym no_len; so_far = ap (λ k. fitting k c.args.names.now) (omega arith) }

pub returns-then-size-used-clause-prefix : goal.returns-then-size-used-clause-prefix
returns-then-size-used-clause-prefix c =
    let n : c.len-len.result ≡ entry_len (length (get_or c.args.names.now c.loop-one.one-index c.one-item.result).name) = c.len-len.ensures.value ∙ ap (λ (d : Dirent). entry_len (length d.name)) c.one-item.is in
    ap (λ i. take i c.args.names.now) c.loop-one.invariant.count ∙ count_stops c.args.names.now c.args.size c.loop-one.used c.loop-one.one-index c.one-item.result _ c.loop-one-test.true (omega (arith, n, c.if-size-used.true)) c.loop-one.invariant.so_far

pub returns-then-size-used-clause-len : goal.returns-then-size-used-clause-len
returns-then-size-used-clause-len c = c.loop-one.invariant.len ∙ ap (λ i. dirents_len (take i c.args.names.now)) (sym c.loop-one.invariant.count) ∙ ap dirents_len (returns-then-size-used-clause-prefix c)

pub loop-one-preserved : goal.loop-one-preserved
loop-one-preserved c =
    let n : c.len-len.result ≡ entry_len (length (get_or c.args.names.now c.loop-one.one-index c.one-item.result).name) = c.len-len.ensures.value ∙ ap (λ (d : Dirent). entry_len (length d.name)) c.one-item.is in
    record {
      count = ap (λ k. k + 1) c.loop-one.invariant.count;
      within = omega (arith, c.if-size-used.false, c.loop-one.invariant.within);
      len = omega (arith, n, c.loop-one.invariant.len, dirents_len_more c.args.names.now c.loop-one.one-index c.one-item.result c.loop-one-test.true);
      so_far = rw n (count_more c.args.names.now c.args.size c.loop-one.used c.loop-one.one-index c.one-item.result _ c.loop-one-test.true (omega (arith, n, c.if-size-used.false)) c.loop-one.invariant.so_far);
    }

pub returns-clause-prefix : goal.returns-clause-prefix
returns-clause-prefix c = ap (λ i. take i c.args.names.now) c.loop-one.invariant.count ∙ count_end c.args.names.now c.args.size c.loop-one.used c.loop-one.one-index _ c.loop-one-test.false c.loop-one.invariant.so_far

pub returns-clause-len : goal.returns-clause-len
returns-clause-len c = c.loop-one.invariant.len ∙ ap (λ i. dirents_len (take i c.args.names.now)) (sym c.loop-one.invariant.count) ∙ ap dirents_len (returns-clause-prefix c)

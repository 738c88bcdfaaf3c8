use Rattle.std.proofs.Common.{◌<◌, ◌+◌, ◌/◌, ◌∙◌, refl, subst, length, arith, ℕ}
use Rattle.window_access.specs.Access.{IsPartlyStored, touched}
use Rattle.window_access.proofs.Storing.{nothing_applied, on_err, store_all, store_more, store_part, touched_page}
use Rattle.window_access.proofs.stores.store.Goals as goal

pub loop-k-init : goal.loop-k-init
loop-k-init g c = record { can = c.requires.can; applied = nothing_applied (g.F.FileBoard.board c.args.files.now) }

pub overflow_add-first : goal.overflow_add-first
overflow_add-first g c =
    let less : c.loop-k.k < touched c.args.moffset (length c.args.bytes.now) = subst (λ (n : ℕ). c.loop-k.k < n) c.touched-k-end.ensures c.loop-k-test.true in
    let page = touched_page c.args.moffset (length c.args.bytes.now) c.loop-k.k less in
    omega (arith, page.1)

pub store_in_page-requires-clause-to : goal.store_in_page-requires-clause-to
store_in_page-requires-clause-to g c =
    let less : c.loop-k.k < touched c.args.moffset (length c.args.bytes.now) = subst (λ (n : ℕ). c.loop-k.k < n) c.touched-k-end.ensures c.loop-k-test.true in
    (touched_page c.args.moffset (length c.args.bytes.now) c.loop-k.k less).1

pub store_in_page-requires-clause-some : goal.store_in_page-requires-clause-some
store_in_page-requires-clause-some g c =
    let less : c.loop-k.k < touched c.args.moffset (length c.args.bytes.now) = subst (λ (n : ℕ). c.loop-k.k < n) c.touched-k-end.ensures c.loop-k-test.true in
    (touched_page c.args.moffset (length c.args.bytes.now) c.loop-k.k less).0

pub returns-in_err-store_in_page-clause-err : goal.returns-in_err-store_in_page-clause-err
returns-in_err-store_in_page-clause-err g c =
    let less : c.loop-k.k < touched c.args.moffset (length c.args.bytes.now) = subst (λ (n : ℕ). c.loop-k.k < n) c.touched-k-end.ensures c.loop-k-test.true in
    on_err c.from_residual.result (IsPartlyStored (g.F.FileBoard.board c.args.files.now) c.args.map.now c.args.moffset c.args.bytes.now (g.F.FileBoard.board c.store_in_page.new.files))
    (store_part (g.F.FileBoard.board c.args.files.now) (g.F.FileBoard.board c.store_in_page.new.files) c.args.map.now c.args.moffset c.args.bytes.now c.loop-k.k less (c.in_err-store_in_page.ensures.err ∙ c.loop-k.invariant.applied))

pub loop-k-preserved : goal.loop-k-preserved
loop-k-preserved g c =
    let less : c.loop-k.k < touched c.args.moffset (length c.args.bytes.now) = subst (λ (n : ℕ). c.loop-k.k < n) c.touched-k-end.ensures c.loop-k-test.true in
    record {
      can = c.store_in_page.ensures.can;
      applied = store_more (g.F.FileBoard.board c.args.files.now) (g.F.FileBoard.board c.loop-k.files) (g.F.FileBoard.board c.store_in_page.new.files) c.args.map.now c.args.moffset c.args.bytes.now c.loop-k.k (c.args.moffset / 4096 + c.loop-k.k) refl less c.loop-k.invariant.applied c.in_ok-store_in_page.ensures.ok;
    }

pub returns-clause-ok : goal.returns-clause-ok
returns-clause-ok g c =
    store_all (g.F.FileBoard.board c.args.files.now) (g.F.FileBoard.board c.loop-k.files) c.args.map.now c.args.moffset c.args.bytes.now c.loop-k.k (omega (arith, c.touched-k-end.ensures, c.loop-k.auto.k-end, c.loop-k-test.false)) c.loop-k.invariant.applied

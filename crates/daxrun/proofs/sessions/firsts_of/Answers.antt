use Rattle.std.proofs.Common.{◌≡◌, ◌∙◌, ap, ℕ, length, take, arith}
use Rattle.std.proofs.Math.Seq.{take-length}
use Rattle.daxrun.specs.Session.{firsts_of}
use Rattle.daxrun.proofs.sessions.firsts_of.Goals as goal

pub returns : goal.returns
returns c =
    let fs = c.args.files.now in
    let n : c.loop-file.file-index ≡ length fs = omega arith in
    c.from_vec.ensures ∙ c.loop-file.invariant ∙ ap (λ (m : ℕ). firsts_of (take m fs)) n ∙ ap firsts_of (take-length fs)

use Rattle.std.proofs.Common.{◌≡◌, ◌∙◌, ap, length, take, replicate, arith}
use Rattle.std.proofs.lemmas.List.{take-replicate}
use Rattle.fuse_codec.specs.Dirents.{filler}
use Rattle.fuse_codec.proofs.DirentLaws.{put_pieces, clean_dirent}
use Rattle.fuse_codec.proofs.dirents.put_dirent.Goals as goal

pub returns-clause-text : goal.returns-clause-text
returns-clause-text c =
    let n : c.filler.result ≡ filler (length c.args.one.now.name) = c.filler.ensures.value ∙ ap (λ xs. filler (length xs)) c.as_slice-name.ensures.value in
    let fill : take c.filler.result (replicate 7 0) ≡ replicate (filler (length c.args.one.now.name)) 0 = take-replicate c.filler.result 7 0 (omega (arith, c.filler.ensures.small)) ∙ ap (λ k. replicate k 0) n in
    put_pieces c.args.one.now c.args.out.now.items _ _ _ _ _ _ c.head_of.ensures.clean c.as_slice-name.ensures.value fill c.put_in_room.ensures.text c.put_in_room-2.ensures.text c.put_in_room-3.ensures.text

pub returns-clause-spelled : goal.returns-clause-spelled
returns-clause-spelled c = clean_dirent c.args.one.now c.as_slice-name.ensures.name c.head_of.ensures.fits

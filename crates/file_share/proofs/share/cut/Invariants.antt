use Rattle.file_share.proofs.share.cut.Given as goal

abbrev pub ghosts-cut_as : goal.ghosts-cut_as
ghosts-cut_as a = record { guest = a.guest }

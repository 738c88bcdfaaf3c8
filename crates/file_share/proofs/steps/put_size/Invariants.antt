use Rattle.file_share.proofs.steps.put_size.Given as goal

abbrev pub ghosts-put_size_of : goal.ghosts-put_size_of
ghosts-put_size_of a = record { entry = a.entry.now }

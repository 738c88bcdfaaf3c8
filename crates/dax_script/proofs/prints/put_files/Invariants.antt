use Rattle.std.proofs.Common.{◌≡◌, ◌++◌, map, take}
use Rattle.std.specs.List.{flat_map}
use Rattle.plain_text.specs.Printed.{line}
use Rattle.dax_script.specs.ScriptPrinted.{file_words}
use Rattle.dax_script.proofs.prints.put_files.Given as goal

abbrev pub invariant-loop-file : goal.invariant-loop-file
invariant-loop-file l = l.out.items ≡ l.fn.out.items ++ flat_map line (map file_words (take l.file-index l.files))

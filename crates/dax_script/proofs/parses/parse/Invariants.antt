use Rattle.std.proofs.Common.{◌≡◌, ◌≤◌, ◌+◌, length}
use Rattle.plain_text.specs.Words.{parts, line_end}
use Rattle.dax_script.specs.ScriptText.{script_from, script_of}
use Rattle.dax_script.proofs.parses.parse.Given as goal

-- what the lines read so far and those of the rest say together, and that lines can be counted
abbrev pub invariant-loop-after : goal.invariant-loop-after
invariant-loop-after l = (script_from l.line l.reading (parts line_end l.rest) ≡ script_of l.text) × (l.line + length l.rest ≤ length l.text + 1)

abbrev pub decreases-loop-after : goal.decreases-loop-after
decreases-loop-after l = length l.rest

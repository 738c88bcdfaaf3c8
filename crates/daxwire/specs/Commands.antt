-- Which command the words of a command line are.
use Rattle.std.specs.Prelude.{ℕ, List, [], ◌∷◌, Option, Some, None, codes, if◌then◌else◌}
use Rattle.std.specs.Str.{bytes_eq}
use Rattle.daxwire.specs.declared.commands.Command.{Command}
use Rattle.daxwire.specs.declared.commands.Command.TheVariants as commands

-- the command of a name
unfoldable pub command_named : List ℕ → Option Command
command_named name =
    if bytes_eq name (codes "show") then Some commands.Show
    else if bytes_eq name (codes "serve") then Some commands.Serve
    else if bytes_eq name (codes "ring") then Some commands.Ring
    else if bytes_eq name (codes "audit") then Some commands.Audit
    else None

-- the command that words are: one word, its name
abbrev pub command_of : List (List ℕ) → Option Command
command_of [] = None
command_of (w ∷ []) = command_named w
command_of (w ∷ v ∷ ws) = None

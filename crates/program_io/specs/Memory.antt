-- What a source and a sink in memory mean.
use Rattle.std.specs.Prelude.{ℕ, List}
use Rattle.program_io.specs.declared.calls.Calls.{Calls}

-- a source in memory: the bytes still to come, and its calls
pub record SourceView : Type 0 where
  pub rest : List ℕ
  pub calls : Calls

-- a sink in memory: the bytes taken, and its calls
pub record SinkView : Type 0 where
  pub held : List ℕ
  pub calls : Calls

-- The source and the sink in memory as contracts see them: the bytes, the numbers of the calls that are to fail, and the counts of calls and of faults.
use Rattle.std.specs.Prelude.{ℕ, List}

pub record SourceInMemory : Type 0 where
  pub left : List ℕ
  pub failing : List ℕ
  pub calls : ℕ
  pub faults : ℕ

-- `room` is how many more bytes are taken
pub record SinkInMemory : Type 0 where
  pub taken : List ℕ
  pub room : ℕ
  pub failing : List ℕ
  pub calls : ℕ
  pub faults : ℕ

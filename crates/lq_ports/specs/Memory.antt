-- Ports in memory as values.
use Rattle.std.specs.Prelude.{ℕ, List}

-- a source in memory
pub record SourceState : Type 0 where
  -- the bytes that it has left
  pub left : List ℕ
  -- how many bytes a call gives at most
  pub at_most : ℕ
  -- the calls that fail, counted from 1
  pub failing : List ℕ
  -- how many calls were made
  pub calls : ℕ
  -- how many of them failed
  pub faults : ℕ

-- a sink in memory
pub record SinkState : Type 0 where
  -- the bytes that it holds
  pub held : List ℕ
  -- how many bytes a call takes at most
  pub at_most : ℕ
  -- the calls that fail, counted from 1
  pub failing : List ℕ
  -- how many calls were made
  pub calls : ℕ
  -- how many of them failed
  pub faults : ℕ

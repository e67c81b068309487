-- What waits until it is written.
use Rattle.std.specs.Prelude.{ℕ, Bool, List}

-- the bytes of lines, the most bytes that may wait, how many lines were lost since the last one that was kept, how many in all,
-- whether somebody writes, and the millisecond in which the last write began
pub record Queued : Type 0 where
  pub waiting : List ℕ
  pub most : ℕ
  pub lost : ℕ
  pub lost_in_all : ℕ
  pub is_written : Bool
  pub begun_at : ℕ

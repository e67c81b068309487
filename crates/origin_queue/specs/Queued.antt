-- What a queue knows of those who wait.
use Rattle.std.specs.Prelude.{ℕ, Bool, not, nat_eq, List}
use Rattle.std.specs.List.{filter, list_any}
use Rattle.origin_queue.specs.declared.queue.QueueBounds.{QueueBounds}

pub record Queued : Type 0 where
  pub bounds : QueueBounds
  -- the permits that are with fetches that go, or kept for those that are called
  pub out : ℕ
  -- how many places were given
  pub given : ℕ
  -- the numbers of those who wait, in the order of asking
  pub waiting : List ℕ
  -- of those who are called, and have neither taken their permit nor left
  pub called : List ℕ

-- this number is among those
abbrev pub stands : ℕ → List ℕ → Bool
stands number places = list_any (λ other. nat_eq other number) places

-- those but this number
abbrev pub without : ℕ → List ℕ → List ℕ
without number places = filter (λ other. not (nat_eq other number)) places

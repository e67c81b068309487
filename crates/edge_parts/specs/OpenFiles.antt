-- How many descriptors a server may need, and for how many connections a limit leaves room.
use Rattle.std.specs.Prelude.{◌≡◌, ◌≤◌, ◌<◌, ◌+◌, ◌*◌, ◌==◌, ℕ, min, max, if◌then◌else◌}
use Rattle.edge_parts.specs.declared.open_files.Numbers.{Numbers}
use Rattle.edge_parts.specs.declared.server_options.ServerOptions.{ServerOptions}

-- these are the numbers that are asked for
pub record AreOf (options : ServerOptions) (numbers : Numbers) : Type 0 where
  pub connections_are : numbers.connections ≡ options.at_once.connections
  pub threads_are : numbers.threads ≡ options.at_once.threads
  pub workers_are : numbers.workers ≡ options.pages.workers
  pub fetches_are : numbers.fetches ≡ options.pages.fetches

-- how many pages hold a thread at once, among so many connections: no more than there may be threads that serve, and as many
-- that go on with clients who were waited for
abbrev pub holding : Numbers → ℕ → ℕ
holding numbers connections = min connections (2 * numbers.threads)

-- what so many connections may need: 32 of the process itself; the socket of each; and of each that waits for fetches a fetch's
-- socket and two by which the wait ends: so of each worker where a page holds its thread, else of each page
abbrev pub needed : Numbers → ℕ → ℕ
needed numbers connections = if numbers.fetches == 1 then 32 + connections + 3 * numbers.workers * holding numbers connections else 32 + connections + 3 * connections

-- the most connections that may be open with this limit: no more than are asked for, and each has room; but one in any case
pub record IsRoom (numbers : Numbers) (limit : ℕ) (room : ℕ) : Type 0 where
  pub one : 1 ≤ room
  pub asked : room ≤ max numbers.connections 1
  pub fits : 1 < room → needed numbers room ≤ limit
  pub most : room < numbers.connections → limit < needed numbers (room + 1)

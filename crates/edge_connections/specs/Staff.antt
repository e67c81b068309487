-- When one more thread is wanted for one kind of work, and when it is started.
use Rattle.std.specs.Prelude.{ℕ, Bool, ◌≡◌, ◌+◌, ◌-◌, ◌*◌, ◌^◌, ◌<◌, ◌≤◌, min, true, false, None, Some, IfSome, IsTrue, IsFalse}
use Rattle.edge_connections.specs.declared.staff.Staff.{Staff}

-- no thread yet
abbrev pub nobody : ℕ → Bool → Staff
nobody most wanted = record { threads = 0; most = most; busy = 0; wanted = wanted; failed_at = None }

-- one more thread is at work
abbrev pub begun : Staff → Staff
begun staff = record staff { busy = min (staff.busy + 1) (2 ^ 16 - 1) }

-- one fewer is
abbrev pub ended : Staff → Staff
ended staff = record staff { busy = staff.busy - 1 }

-- not all threads that there may be are at work
abbrev pub HasSpare : Staff → Type 0
HasSpare staff = staff.busy < staff.most

-- fewer than three quarters of the threads that there may be are at work
abbrev pub HasReserve : Staff → Type 0
HasReserve staff = staff.busy * 4 < staff.most * 3

-- one more thread is wanted: all existing ones are at work, there may be more, and none was asked for
pub record WantsThread (staff : Staff) : Type 0 where
  pub quiet : IsFalse staff.wanted
  pub busy : staff.threads ≤ staff.busy
  pub few : staff.threads < staff.most

-- one more thread is to be started at this millisecond: one was asked for, and if the last one could not be started, a
-- second has passed
pub record IsDue (staff : Staff) (now : ℕ) : Type 0 where
  pub wanted : IsTrue staff.wanted
  pub rested : IfSome staff.failed_at (λ at. at + 1000 ≤ now)

-- a thread that was asked for is counted
abbrev pub counted : Staff → Staff
counted staff = record staff { wanted = false; threads = min (staff.threads + 1) (2 ^ 16 - 1); failed_at = None }

-- a thread that was counted could not be started at this millisecond, and is wanted still
abbrev pub uncounted : Staff → ℕ → Staff
uncounted staff now = record staff { wanted = true; threads = staff.threads - 1; failed_at = Some now }

-- there is no thread for work that one is wanted for
pub record Lacks (staff : Staff) : Type 0 where
  pub wanted : IsTrue staff.wanted
  pub none : staff.threads ≡ 0

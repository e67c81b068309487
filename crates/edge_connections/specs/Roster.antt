-- When connections may be accepted, when one more thread is wanted, and when failed accepts end a server.
use Rattle.std.specs.Prelude.{ℕ, ◌≡◌, ◌+◌, ◌-◌, ◌*◌, ◌^◌, ◌<◌, ◌≤◌, min, max, Bool, ◌||◌, false, true}
use Rattle.edge_connections.specs.declared.accept.AcceptFault.{AcceptFault}
use Rattle.edge_connections.specs.declared.accept.AcceptFault.TheVariants as accept_fault
use Rattle.edge_connections.specs.declared.roster.Capacity.{Capacity}
use Rattle.edge_connections.specs.declared.roster.Roster.{Roster}
use Rattle.edge_connections.specs.Staff as staff

-- before any accept: there is no connection, and the first thread is wanted
abbrev pub opened : ℕ → Capacity → Roster
opened count capacity = record {
  left = count;
  begun = 0;
  failed = 0;
  pause = 1;
  resting = false;
  stopped = false;
  held = 0;
  room = max capacity.connections 1;
  accepting = staff.nobody capacity.threads true;
  resuming = staff.nobody capacity.threads false;
}

-- this many accepts have failed since the last that succeeded, so no more are made
abbrev pub HasFailed : Roster → Type 0
HasFailed roster = 16 ≤ roster.failed

-- a thread may accept: there is an accept left to be made, they haven't failed, and the server wasn't stopped
pub record IsOpen (roster : Roster) : Type 0 where
  pub left : 0 < roster.left
  pub failed : roster.failed < 16
  pub goes_on : roster.stopped ≡ false

-- there is room for one more connection, even if each accept that was begun succeeds
abbrev pub HasRoom : Roster → Type 0
HasRoom roster = roster.held + roster.begun < roster.room

-- no accept is under way, and each connection has ended
pub record IsEmpty (roster : Roster) : Type 0 where
  pub accepted : roster.begun ≡ 0
  pub ended : roster.held ≡ 0

-- nobody is accepted any longer
pub record IsClosed (roster : Roster) : Type 0 where
  pub over : ¬ (IsOpen roster)
  pub accepted : roster.begun ≡ 0

-- nothing is left to be done
pub record IsDone (roster : Roster) : Type 0 where
  pub over : ¬ (IsOpen roster)
  pub empty : IsEmpty roster

-- one of the accepts that were left has been begun
abbrev pub begun : Roster → Roster
begun roster = record roster { left = roster.left - 1; begun = min (roster.begun + 1) (2 ^ 32 - 1) }

-- it has failed, and is still to be made
abbrev pub given_back : Roster → Roster
given_back roster = record roster { left = min (roster.left + 1) (2 ^ 64 - 1); begun = roster.begun - 1 }

-- and nobody accepts until a pause is over; the next one is twice as long, up to a second
abbrev pub paused : Roster → Roster
paused roster = record (given_back roster) { pause = min (roster.pause * 2) 1000; resting = true }

-- and the failure counts
abbrev pub failed_once : Roster → Roster
failed_once roster = record (paused roster) { failed = min (roster.failed + 1) (2 ^ 32 - 1) }

-- open connections hold what the accept lacked
pub record IsHeld (roster : Roster) (fault : AcceptFault) : Type 0 where
  pub lacked : fault ≡ accept_fault.Exhausted
  pub some_are_open : 0 < roster.held

-- no pause follows: one is under way, or the accept was ended with the server
abbrev pub is_no_failure : Roster → Bool
is_no_failure roster = roster.resting || roster.stopped

-- no more accepts are begun
abbrev pub stopped : Roster → Roster
stopped roster = record roster { stopped = true }

-- the pause is over
abbrev pub after_pause : Roster → Roster
after_pause roster = record roster { resting = false }

-- it has succeeded: there is one more connection, which one more thread serves, and failures are counted from 0 again,
-- the next pause being the shortest
abbrev pub succeeded : Roster → Roster
succeeded roster = record roster { begun = roster.begun - 1; failed = 0; pause = 1; held = min (roster.held + 1) (2 ^ 32 - 1); accepting = staff.begun roster.accepting }

-- one thread fewer serves what it accepted
abbrev pub has_served : Roster → Roster
has_served roster = record roster { accepting = staff.ended roster.accepting }

-- one more thread goes on with a connection that was parked
abbrev pub resumed : Roster → Roster
resumed roster = record roster { resuming = staff.begun roster.resuming }

-- one fewer does
abbrev pub rested : Roster → Roster
rested roster = record roster { resuming = staff.ended roster.resuming }

-- a connection has ended
abbrev pub let_go : Roster → Roster
let_go roster = record roster { held = roster.held - 1 }

-- one more thread is asked for, for either work
abbrev pub asked_to_accept : Roster → Roster
asked_to_accept roster = record roster { accepting = record roster.accepting { wanted = true } }

abbrev pub asked_to_resume : Roster → Roster
asked_to_resume roster = record roster { resuming = record roster.resuming { wanted = true } }

-- it is counted
abbrev pub counted_to_accept : Roster → Roster
counted_to_accept roster = record roster { accepting = staff.counted roster.accepting }

abbrev pub counted_to_resume : Roster → Roster
counted_to_resume roster = record roster { resuming = staff.counted roster.resuming }

-- it could not be started at this millisecond
abbrev pub not_accepting : Roster → ℕ → Roster
not_accepting roster now = record roster { accepting = staff.uncounted roster.accepting now }

abbrev pub not_resuming : Roster → ℕ → Roster
not_resuming roster now = record roster { resuming = staff.uncounted roster.resuming now }

-- there are accepts to be made, and no thread that makes them
pub record LacksAccepting (roster : Roster) : Type 0 where
  pub may_accept : IsOpen roster
  pub none : staff.Lacks roster.accepting

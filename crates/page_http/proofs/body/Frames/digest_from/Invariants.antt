-- What was hashed, with the frames that are left, is the whole.
use Rattle.std.proofs.Common.{◌≡◌, ℕ, ◌-◌, List, ◌++◌, drop, length}
use Rattle.sha2.specs.Hashers.{Holds256}
use Rattle.edge_types.specs.Pieces.{joined}
use Rattle.page_http.specs.Frames.{frames_in}
use Rattle.page_http.proofs.body.Frames.digest_from.Given as goal

abbrev pub invariant-loop-frame : goal.invariant-loop-frame
invariant-loop-frame l =
    (m : List ℕ) × Holds256 l.hasher m × (m ++ joined (drop l.next (frames_in l.self)) ≡ joined (drop l.first (frames_in l.self)))

abbrev pub decreases-loop-frame : goal.decreases-loop-frame
decreases-loop-frame l = length (frames_in l.self) - l.next

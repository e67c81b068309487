use Rattle.std.proofs.Common.{◌≡◌}
use Rattle.surrogate_headers.specs.Cut.{parts_left}
use Rattle.surrogate_headers.specs.Control.{directives_among, control_of}
use Rattle.surrogate_headers.specs.Found.{settled}
use Rattle.surrogate_headers.proofs.surrogate_control.control.Given as goal

-- what was found and the parts to come give what the whole value gives
abbrev pub invariant-loop-part : goal.invariant-loop-part
invariant-loop-part l = settled l.found l.device (directives_among (parts_left l.part-iterator)) ≡ control_of l.value l.device

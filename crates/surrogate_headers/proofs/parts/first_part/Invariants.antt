use Rattle.std.proofs.Common.{◌≡◌, false, take, drop}
use Rattle.surrogate_headers.specs.Cut.{parts_from}
use Rattle.surrogate_headers.proofs.PartsLemmas.{onto}
use Rattle.surrogate_headers.proofs.parts.first_part.Given as goal

-- the part so far, before what is left of it
abbrev pub invariant-loop-i : goal.invariant-loop-i
invariant-loop-i l = onto (take l.i l.value) (parts_from l.quoted (drop l.i l.value)) ≡ parts_from false l.value

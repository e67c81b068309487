use Rattle.std.proofs.Common.{◌≡◌, ◌++◌, drop}
use Rattle.esi_vars.specs.Values.{substituted}
use Rattle.esi_vars.proofs.part.substitute.Given as goal

abbrev pub invariant-loop-part : goal.invariant-loop-part
invariant-loop-part l = l.text.items ++ substituted l.request (drop l.part-index l.parts) ≡ substituted l.request l.parts

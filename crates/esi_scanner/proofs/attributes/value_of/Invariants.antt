use Rattle.std.proofs.Common.{◌≡◌, drop}
use Rattle.esi_scanner.specs.Tag.{value_of}
use Rattle.esi_scanner.proofs.attributes.value_of.Given as goal

abbrev pub invariant-loop-attribute : goal.invariant-loop-attribute
invariant-loop-attribute l = value_of l.name l.attributes ≡ value_of l.name (drop l.attribute-index l.attributes)

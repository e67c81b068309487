use Rattle.std.proofs.Common.{◌≡◌, drop}
use Rattle.template_check.specs.Chosen.{is_chosen}
use Rattle.template_check.proofs.chosen.is_chosen.Given as goal

abbrev pub invariant-loop-part : goal.invariant-loop-part
invariant-loop-part l = is_chosen (drop l.part-index l.parts) ≡ is_chosen l.parts

use Rattle.std.proofs.Common.{◌≡◌}
use Rattle.std.specs.Option.{option_copied}
use Rattle.std.specs.List.{list_any}
use Rattle.esi_vars.specs.Field.{names_language, parts_between}
use Rattle.esi_vars.specs.Shown.{parts_left}
use Rattle.esi_vars.proofs.FieldLemmas.{len_left}
use Rattle.esi_vars.proofs.language.language_value.Given as goal

abbrev pub invariant-loop-rest : goal.invariant-loop-rest
invariant-loop-rest l = list_any (names_language l.language) (parts_left 44 (option_copied l.rest)) ≡ list_any (names_language l.language) (parts_between 44 l.field)

abbrev pub decreases-loop-rest : goal.decreases-loop-rest
decreases-loop-rest l = len_left l.rest

use Rattle.std.proofs.Common.{◌≡◌}
use Rattle.std.specs.Option.{option_copied}
use Rattle.esi_vars.specs.Field.{named, query_value}
use Rattle.esi_vars.specs.Shown.{parts_left}
use Rattle.esi_vars.proofs.FieldLemmas.{len_left}
use Rattle.esi_vars.proofs.query.query_value.Given as goal

abbrev pub invariant-loop-rest : goal.invariant-loop-rest
invariant-loop-rest l = named l.name (parts_left 38 (option_copied l.rest)) ≡ query_value l.name l.field

abbrev pub decreases-loop-rest : goal.decreases-loop-rest
decreases-loop-rest l = len_left l.rest

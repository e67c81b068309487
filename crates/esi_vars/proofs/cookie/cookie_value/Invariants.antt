use Rattle.std.proofs.Common.{◌≡◌, map}
use Rattle.std.specs.Option.{option_copied}
use Rattle.edge_types.specs.Blanks.{trimmed}
use Rattle.esi_vars.specs.Field.{named, cookie_value}
use Rattle.esi_vars.specs.Shown.{parts_left}
use Rattle.esi_vars.proofs.FieldLemmas.{len_left}
use Rattle.esi_vars.proofs.cookie.cookie_value.Given as goal

abbrev pub invariant-loop-rest : goal.invariant-loop-rest
invariant-loop-rest l = named l.name (map trimmed (parts_left 59 (option_copied l.rest))) ≡ cookie_value l.name l.field

abbrev pub decreases-loop-rest : goal.decreases-loop-rest
decreases-loop-rest l = len_left l.rest

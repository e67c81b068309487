use Rattle.std.proofs.Common.{◌≡◌, ◌≤◌, ◌++◌, drop}
use Rattle.template_check.specs.Warned.{warnings_from}
use Rattle.template_check.proofs.warned.token_warnings.Given as goal

abbrev pub invariant-loop-token : goal.invariant-loop-token
invariant-loop-token l = record { few : l.depth ≤ l.token-index; so_far : l.found.items ++ warnings_from l.depth l.text (drop l.token-index l.tokens) ≡ warnings_from 0 l.text l.tokens }

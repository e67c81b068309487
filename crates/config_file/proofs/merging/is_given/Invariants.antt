use Rattle.std.proofs.Common.{◌≡◌, length, map, string_bytes}
use Rattle.config_file.specs.Merging.{is_given}
use Rattle.config_file.proofs.merging.is_given.Given as goal

abbrev pub invariant-loop-word : goal.invariant-loop-word
invariant-loop-word l = is_given (map string_bytes l.rest) (string_bytes l.fn.setting.subject) ≡ is_given (map string_bytes l.fn.line) (string_bytes l.fn.setting.subject)

abbrev pub decreases-loop-word : goal.decreases-loop-word
decreases-loop-word l = length l.rest

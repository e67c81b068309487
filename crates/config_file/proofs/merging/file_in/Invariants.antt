use Rattle.std.proofs.Common.{◌≡◌, length, map, string_bytes}
use Rattle.config_file.specs.Merging.{file_in}
use Rattle.config_file.proofs.merging.file_in.Given as goal

abbrev pub invariant-loop-word : goal.invariant-loop-word
invariant-loop-word l = file_in (map string_bytes l.rest) ≡ file_in (map string_bytes l.fn.line)

abbrev pub decreases-loop-word : goal.decreases-loop-word
decreases-loop-word l = length l.rest

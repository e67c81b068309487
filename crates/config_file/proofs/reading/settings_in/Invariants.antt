use Rattle.std.proofs.Common.{◌≡◌, map, Ok}
use Rattle.config_file.specs.Reading.{after, shown_file}
use Rattle.config_file.proofs.reading.settings_in.Given as goal

abbrev pub invariant-loop-index : goal.invariant-loop-index
invariant-loop-index l = after l.names (map (λ line. line.now) l.lines) l.index ≡ Ok (shown_file l.file)

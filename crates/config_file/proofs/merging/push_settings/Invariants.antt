use Rattle.std.proofs.Common.{◌≡◌, ◌++◌, map, take, string_bytes}
use Rattle.std.specs.List.{flat_map}
use Rattle.config_file.specs.Merging.{left_of}
use Rattle.config_file.proofs.merging.push_settings.Given as goal

abbrev pub invariant-loop-setting : goal.invariant-loop-setting
invariant-loop-setting l = map string_bytes l.all.items ≡ map string_bytes l.initial.all.items ++ flat_map (left_of (map string_bytes l.line)) (take l.setting-index l.settings)

use Rattle.std.proofs.Common.{◌≡◌, ◌++◌, map, take, string_bytes}
use Rattle.config_file.specs.Writing.{behind_text}
use Rattle.config_file.proofs.writing.push_behind.Given as goal

abbrev pub invariant-loop-word : goal.invariant-loop-word
invariant-loop-word l = string_bytes l.text ≡ string_bytes l.initial.text ++ behind_text (map (λ word. word.now) (take l.word-index l.words))

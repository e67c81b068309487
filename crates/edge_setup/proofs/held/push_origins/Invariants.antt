use Rattle.std.proofs.Common.{◌≡◌, ◌++◌, map, take, string_bytes}
use Rattle.edge_setup.specs.Held.{rows_text}
use Rattle.edge_setup.proofs.held.push_origins.Given as goal

abbrev pub invariant-loop-word : goal.invariant-loop-word
invariant-loop-word l = string_bytes l.text ≡ string_bytes l.initial.text ++ rows_text (map (λ word. word.now) (take l.word-index l.words))

use Rattle.std.proofs.Common.{◌≡◌, length, map, string_bytes}
use Rattle.toml.specs.View.{items_view}
use Rattle.config_file.specs.Lines.{words_behind, words_of}
use Rattle.config_file.proofs.line.words_of.Given as goal

abbrev pub invariant-loop-left : goal.invariant-loop-left
invariant-loop-left l = words_behind l.fn.subject (map string_bytes l.words.items) (items_view l.left) ≡ words_of l.fn.subject (items_view l.fn.elements)

abbrev pub decreases-loop-left : goal.decreases-loop-left
decreases-loop-left l = length l.left

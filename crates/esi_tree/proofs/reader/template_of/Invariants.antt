use Rattle.std.proofs.Common.{◌≡◌, drop}
use Rattle.esi_tree.specs.State.{state_of}
use Rattle.esi_tree.specs.Reading.{read_from, tree_of_tokens}
use Rattle.esi_tree.proofs.reader.template_of.Given as goal

abbrev pub invariant-loop-token : goal.invariant-loop-token
invariant-loop-token l = read_from l.text (drop l.token-index l.tokens) (state_of l.reader) ≡ tree_of_tokens l.text l.tokens

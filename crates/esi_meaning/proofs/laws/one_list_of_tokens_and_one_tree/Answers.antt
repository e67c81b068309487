use Rattle.esi_meaning.proofs.TextLemmas.{one_list_of_tokens, one_tree_of_tokens}
use Rattle.esi_meaning.proofs.laws.one_list_of_tokens_and_one_tree.Goals as goal

pub returns-clause-tokens : goal.returns-clause-tokens
returns-clause-tokens c = one_list_of_tokens

pub returns-clause-tree : goal.returns-clause-tree
returns-clause-tree c = one_tree_of_tokens

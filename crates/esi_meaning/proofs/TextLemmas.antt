-- A text has one list of tokens at most, and that list one tree.
use Rattle.esi_scanner.proofs.Theorems.{spells-once}
use Rattle.esi_tree.specs.Items.{items_of}
use Rattle.esi_tree.proofs.Theorems.{one-tree}
use Rattle.esi_meaning.specs.Laws.{OneListOfTokens, OneTreeOfTokens}

pub one_list_of_tokens : OneListOfTokens
one_list_of_tokens text tokens others one other = spells-once text tokens others one other

pub one_tree_of_tokens : OneTreeOfTokens
one_tree_of_tokens text tokens t u one other = one-tree t u (items_of text tokens) one other

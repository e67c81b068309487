use Rattle.std.proofs.Common.{◌≡◌, true, cond, map, Some, None, sym, ◌∙◌, ap}
use Rattle.std.specs.List.{list_any}
use Rattle.esi_tree.specs.Tree as tree
use Rattle.esi_tree.specs.Shown.{branch_of, branch_row}
use Rattle.esi_tree.specs.Reading.{AnElement, is_when, choose_of}
use Rattle.esi_tree.proofs.AnyLemmas.{any_map}
use Rattle.esi_tree.proofs.open_element.choose_of.Goals as goal

pub returns-then-has_when : goal.returns-then-has_when
returns-then-has_when c =
    let branches = c.args.branches.items in
    let found : list_any (λ branch. is_when (branch_of branch)) branches ≡ true = ap (list_any (λ branch. is_when (branch_of branch))) (sym c.as_slice.ensures.value) ∙ sym c.has_when.ensures ∙ c.if-has_when.true in
    let read : Some (AnElement (tree.Choose (branch_row (map branch_of branches)))) ≡ choose_of (map branch_of branches) = ap (λ b. cond b (Some (AnElement (tree.Choose (branch_row (map branch_of branches))))) None) (sym (any_map is_when branch_of branches ∙ found)) in
    ap Some c.choose.ensures ∙ read

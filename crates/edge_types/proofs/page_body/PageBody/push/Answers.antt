use Rattle.std.proofs.Common.{◌≢◌, length, rules, [], ap, ◌∙◌}
use Rattle.std.proofs.lemmas.List.Elements.{All-push}
use Rattle.edge_types.specs.Pieces.{IsPiece}
use Rattle.edge_types.proofs.PieceLemmas.{joined-pushed}
use Rattle.edge_types.proofs.page_body.PageBody.push.Goals as goal

pub invariant_of-self-2 : goal.invariant_of-self-2
invariant_of-self-2 c =
    let some : c.args.piece ≢ [] = λ e. c.if-added-eq0.false (c.len-added.ensures ∙ ap length e) in
    (joined-pushed c.self.inside.pieces.items c.push.new.self.items c.args.piece c.self.inside.len c.len-added.result c.in-Some.len c.self.invariant.0 c.len-added.ensures c.in_ok-push.ensures.items (search rules), rw c.in_ok-push.ensures.items (All-push IsPiece c.self.inside.pieces.items c.args.piece c.self.invariant.1 some))

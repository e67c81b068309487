use Rattle.std.proofs.Common.{ap, sym, ◌∙◌, ℕ, List}
use Rattle.surrogate_headers.specs.Control.{control_of}
use Rattle.edge_case.specs.Case.{device}
use Rattle.edge_case.proofs.AcceptableLemmas.{got_from_none, got_from_copies}
use Rattle.edge_case.proofs.entry.Got.answer_at.Goals as goal

pub returns : goal.returns
returns c =
    got_from_copies c.got.result _ _ _ _ _ c.in_ok-content_type.content_type c.in_ok-body.body c.control-control.result
    (c.in_ok-content_type.ensures ∙ c.lent_or_empty.ensures)
    c.in_ok-body.ensures
    (c.control-control.ensures ∙ ap (λ (d : List ℕ). control_of c.lent_or_empty-2.result.now d) c.own_device.ensures ∙ ap (λ (v : List ℕ). control_of v device) c.lent_or_empty-2.ensures)
    c.got.ensures.limits c.got.ensures.value

pub returns-then-self-gt-MAX_STATUS : goal.returns-then-self-gt-MAX_STATUS
returns-then-self-gt-MAX_STATUS c = sym (got_from_none _ _ _ _ _ c.if-self-gt-MAX_STATUS.true)

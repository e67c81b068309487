use Rattle.std.proofs.Common.{List, ℕ, Some, ap, ◌∙◌, arith}
use Rattle.esi_vars.specs.Shown.{shown_next, shown_written}
use Rattle.esi_vars.proofs.PartsLemmas.{search_goes_on, search_finds, search_fails, rest_shorter, unclosed}
use Rattle.esi_vars.proofs.part.next_reference.Goals as goal

pub returns-in_err-find_byte-clause-value : goal.returns-in_err-find_byte-clause-value
returns-in_err-find_byte-clause-value c = ap shown_next c.from_residual.ensures ∙ unclosed _ c.in_err-find_byte.ensures.value

pub returns-in_err-step-clause-value : goal.returns-in_err-step-clause-value
returns-in_err-step-clause-value c =
    ap shown_next c.from_residual-in_err-step.ensures ∙ search_fails _ _ c.search.at c.search.invariant.1 c.split_at.ensures.back c.in_err-step.ensures.value

pub returns-in-Some-clause-value : goal.returns-in-Some-clause-value
returns-in-Some-clause-value c =
    ap (λ (before : List ℕ). Some (record { before = before; written = shown_written c.in-Some.written; rest = c.in-Some.rest.now })) c.split_at-in-Some.ensures.front
    ∙ search_finds _ _ _ c.search.at c.in_ok-step.step _ _ c.search.invariant.1 c.split_at.ensures.back c.split_at-in-search.ensures.back c.in_ok-step.ensures.value c.in-Some.ensures

pub returns-in-Some-clause-shorter : goal.returns-in-Some-clause-shorter
returns-in-Some-clause-shorter c =
    omega (arith, rest_shorter c.split_at-in-search.result.1.now (shown_written c.in-Some.written) c.in-Some.rest.now c.in-Some.ensures, c.split_at.ensures.back_len, c.split_at-in-search.ensures.back_len)

pub search-preserved : goal.search-preserved
search-preserved c = (
  omega (arith, c.in_ok-step.ensures.within, c.split_at.ensures.back_len),
  search_goes_on _ _ _ c.search.at c.in_ok-step.step c.search.invariant.1 c.split_at.ensures.back c.split_at-in-search.ensures.back c.in_ok-step.ensures.value c.in_default.ensures,
)

use Rattle.std.proofs.Common.{◌≡◌, drop}
use Rattle.std.specs.List.{list_any, list_all}
use Rattle.esi_expr.specs.Shown.{conj_of, neg_of, test_of}
use Rattle.esi_expr.specs.Truth.{holds, conj_holds, neg_holds}
use Rattle.esi_expr.proofs.expr.+truth.Given as goal

abbrev pub invariant-Expr::holds_by-loop-one : goal.invariant-Expr::holds_by-loop-one
invariant-Expr::holds_by-loop-one l =
    holds l.request (test_of l.self) ≡ list_any (λ one. conj_holds l.request (conj_of one)) (drop l.one-index l.one-items)

abbrev pub invariant-Conjunction::holds_by-loop-one : goal.invariant-Conjunction::holds_by-loop-one
invariant-Conjunction::holds_by-loop-one l =
    conj_holds l.request (conj_of l.self) ≡ list_all (λ one. neg_holds l.request (neg_of one)) (drop l.one-index l.one-items)

use Rattle.std.proofs.Common.{◌+◌, ◌*◌, length, map}
use Rattle.esi_expr.specs.Shown.{any_of, all_of, conj_of, neg_of}
use Rattle.esi_expr.specs.Tree.{And, Or}
use Rattle.esi_expr.specs.Reading.{conj_with, test_with, neg_at}
use Rattle.esi_expr.proofs.ReadingLemmas.{Underway}
use Rattle.esi_expr.proofs.reading.+reading.Given as goal

-- One parenthesis or `!` counts for more than the readers between two of them.
abbrev pub decreases-negation_at : goal.decreases-negation_at
decreases-negation_at l = 5 * l.nesting

abbrev pub decreases-conjunction_at : goal.decreases-conjunction_at
decreases-conjunction_at l = 5 * l.nesting + 1

abbrev pub decreases-test_at : goal.decreases-test_at
decreases-test_at l = 5 * l.nesting + 2

abbrev pub decreases-group_at : goal.decreases-group_at
decreases-group_at l = 5 * l.nesting + 3

abbrev pub decreases-not_at : goal.decreases-not_at
decreases-not_at l = 5 * l.nesting + 3

abbrev pub decreases-nested_at : goal.decreases-nested_at
decreases-nested_at l = 5 * l.nesting + 4

abbrev pub invariant-conjunction_at-loop-behind : goal.invariant-conjunction_at-loop-behind
invariant-conjunction_at-loop-behind l =
    Underway And 38 (neg_at l.nesting) (all_of (neg_of l.first) (map neg_of l.more.items)) l.rest (conj_with (neg_at l.nesting) l.text)

abbrev pub decreases-conjunction_at-loop-behind : goal.decreases-conjunction_at-loop-behind
decreases-conjunction_at-loop-behind l = length l.rest

abbrev pub invariant-test_at-loop-behind : goal.invariant-test_at-loop-behind
invariant-test_at-loop-behind l =
    Underway Or 124 (conj_with (neg_at l.nesting)) (any_of (conj_of l.first) (map conj_of l.more.items)) l.rest (test_with (neg_at l.nesting) l.text)

abbrev pub decreases-test_at-loop-behind : goal.decreases-test_at-loop-behind
decreases-test_at-loop-behind l = length l.rest

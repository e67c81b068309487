-- What was written, with the values that are left behind it, is the whole.
use Rattle.std.proofs.Common.{◌≡◌, ◌++◌, length, flat_map}
use Rattle.std.specs.List.{join_by}
use Rattle.page_http.specs.Head.{values_of}
use Rattle.page_http.proofs.field.joined_values.Given as goal

abbrev pub invariant-loop-value : goal.invariant-loop-value
invariant-loop-value l =
    l.joined.items ++ flat_map (λ value. l.separator ++ value) (values_of l.name l.left)
    ≡ join_by (λ value. value) l.separator (values_of l.name l.fields)

abbrev pub decreases-loop-value : goal.decreases-loop-value
decreases-loop-value l = length l.left

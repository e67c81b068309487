-- What was taken, with what is to be taken of the lines that are left, is the whole.
use Rattle.std.proofs.Common.{◌≡◌, ℕ, List, ◌++◌, length, map, filter}
use Rattle.page_http.specs.Cookies.{is_member}
use Rattle.page_http.specs.NamedLines.{copy_of, lines_named}
use Rattle.page_http.specs.declared.field.Field.{Field}
use Rattle.page_http.proofs.named_lines.lines_named.Given as goal

abbrev pub invariant-loop-left : goal.invariant-loop-left
invariant-loop-left l =
    l.lines.items ++ map copy_of (filter (λ (field : Field). is_member l.names field.name.now) l.left)
    ≡ lines_named l.names l.fields

abbrev pub decreases-loop-left : goal.decreases-loop-left
decreases-loop-left l = length l.left

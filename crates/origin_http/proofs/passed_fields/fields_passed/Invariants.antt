-- What was taken, with what is to be taken of the lines that are left, is the whole.
use Rattle.std.proofs.Common.{◌≡◌, ℕ, List, ◌++◌, map, filter}
use Rattle.http_header.specs.FieldValue.{FieldValue}
use Rattle.origin_http.specs.Passing.{field_of, fields_passed, is_passed}
use Rattle.origin_http.proofs.passed_fields.fields_passed.Given as goal

abbrev pub invariant-loop-name : goal.invariant-loop-name
invariant-loop-name l =
    l.passed.items ++ map field_of (filter (λ (line : List ℕ × FieldValue). is_passed l.rules l.is_template line.0) l.name-iterator)
    ≡ fields_passed l.rules l.is_template l.fields

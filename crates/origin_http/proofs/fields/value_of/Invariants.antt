-- What was written, with the lines that are left, is the whole.
use Rattle.std.proofs.Common.{◌≡◌, ◌++◌, flat_map, codes}
use Rattle.http_header.specs.FieldValue.{FieldValue}
use Rattle.http_header.specs.Token.{lowercase}
use Rattle.origin_http.specs.Fetches.{value_of}
use Rattle.origin_http.proofs.fields.value_of.Given as goal

abbrev pub invariant-loop-line : goal.invariant-loop-line
invariant-loop-line l =
    l.value.items ++ flat_map (λ (line : FieldValue). codes ", " ++ line.bytes) l.line-iterator
    ≡ value_of (lowercase l.name) l.fields

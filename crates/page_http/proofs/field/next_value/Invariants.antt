-- No line before this one has the name.
use Rattle.std.proofs.Common.{◌≡◌, drop}
use Rattle.page_http.specs.Head.{values_of}
use Rattle.page_http.proofs.field.next_value.Given as goal

abbrev pub invariant-loop-i : goal.invariant-loop-i
invariant-loop-i l = values_of l.name (drop l.i l.fields) ≡ values_of l.name l.fields

-- What adds the fields that are left adds all of them.
use Rattle.std.proofs.Common.{map, length, Result}
use Rattle.http.specs.Request.{builder_result}
use Rattle.http.specs.declared.error.Error.{Error}
use Rattle.http.specs.declared.request.Parts.{Parts}
use Rattle.origin_http.specs.Asking.{Adds, line_of}
use Rattle.origin_http.proofs.request.with_fields.Given as goal

abbrev pub invariant-loop-fields : goal.invariant-loop-fields
invariant-loop-fields l =
    (built : Result Parts Error) → Adds (map line_of l.fields) (builder_result l.request) built → Adds (map line_of l.fn.fields) (builder_result l.fn.request) built

abbrev pub decreases-loop-fields : goal.decreases-loop-fields
decreases-loop-fields l = length l.fields

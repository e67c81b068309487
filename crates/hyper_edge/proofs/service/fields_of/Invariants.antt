-- What was read, with the lines that are left, is the whole.
use Rattle.std.proofs.Common.{◌≡◌, ◌++◌, map}
use Rattle.hyper_edge.specs.Lines.{line, line_of, lines_of}
use Rattle.hyper_edge.proofs.service.fields_of.Given as goal

abbrev pub invariant-loop-name : goal.invariant-loop-name
invariant-loop-name l = map line l.fields.items ++ map line_of l.name-iterator ≡ lines_of l.headers

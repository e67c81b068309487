-- The values that were read, with those that are left to be read, are all of them.
use Rattle.std.proofs.Common.{◌≡◌, map, take, drop, length}
use Rattle.std.specs.Option.{option_copied}
use Rattle.edge_case.specs.Document.{field_words}
use Rattle.edge_case.specs.Reading.{fields_at}
use Rattle.edge_case.proofs.Headings.{with_values}
use Rattle.edge_case.proofs.heading.fields_at.Given as goal

abbrev pub invariant-loop-i : goal.invariant-loop-i
invariant-loop-i l = record {
  reads : with_values (take l.i (map option_copied l.values)) (fields_at (drop l.i field_words) l.rest) ≡ fields_at field_words l.text;
  count : length l.values ≡ length field_words;
}

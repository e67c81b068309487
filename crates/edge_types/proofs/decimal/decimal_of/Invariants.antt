use Rattle.std.proofs.Common.{◌≡◌, ◌+◌, min, true, take}
use Rattle.std.specs.List.{list_all}
use Rattle.std.specs.Char.{is_ascii_digit}
use Rattle.std.specs.Str.Parse.{digits_value}
use Rattle.edge_types.proofs.decimal.decimal_of.Given as goal

abbrev pub invariant-loop-digit : goal.invariant-loop-digit
invariant-loop-digit l = record {
  total : l.total ≡ min (digits_value 10 (take l.digit-index l.text)) (l.most + 1);
  digits : list_all is_ascii_digit (take l.digit-index l.text) ≡ true;
}

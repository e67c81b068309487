use Rattle.std.proofs.Common.{◌≡◌, take}
use Rattle.std.specs.Io.KnownBytes.{Appends}
use Rattle.template_check.specs.Positions.{position_of}
use Rattle.template_check.specs.Report.{warning_lines}
use Rattle.template_check.proofs.reporting.print_warnings.Given as goal

abbrev pub invariant-loop-warned : goal.invariant-loop-warned
invariant-loop-warned g l = record {
  counted : l.position ≡ position_of l.text l.at;
  written : Appends (g.W.Write.contents l.initial.writer) (g.W.Write.contents l.writer) (warning_lines l.name l.text (take l.warned-index l.found));
}

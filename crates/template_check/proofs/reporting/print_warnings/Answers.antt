use Rattle.template_check.proofs.PositionLemmas.{at_start}
use Rattle.template_check.proofs.ReportLemmas.{none_yet, one_more}
use Rattle.template_check.proofs.reporting.print_warnings.Goals as goal

pub loop-warned-init : goal.loop-warned-init
loop-warned-init g c = record { counted = at_start c.args.text.now; written = none_yet _ c.args.name.now c.args.text.now c.args.found.now }

pub loop-warned-preserved : goal.loop-warned-preserved
loop-warned-preserved g c = record {
  counted = c.position_from-position.ensures;
  written = one_more _ _ _ c.args.name.now c.args.text.now c.args.found.now c.loop-warned.warned-index _ c.position_from-position.result c.loop-warned-test.true c.position_from-position.ensures c.loop-warned.invariant.written c.in_ok-print_warning.ensures;
}

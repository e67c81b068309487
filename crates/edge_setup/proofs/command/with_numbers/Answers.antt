use Rattle.std.proofs.Common.{◌∙◌, fold, sym, ap, ap₂, arith}
use Rattle.std.proofs.lemmas.List.{take_all}
use Rattle.clap.specs.Words.{app_of, with_rule}
use Rattle.edge_setup.specs.Numbers.{numbers, with_number}
use Rattle.edge_setup.proofs.NumberLemmas.{fold_next}
use Rattle.edge_setup.proofs.command.with_numbers.Goals as goal

pub loop-number-preserved : goal.loop-number-preserved
loop-number-preserved c = (
  c.in_ok-command.ensures.app ∙ ap₂ with_rule c.loop-number.invariant.0 c.arg.ensures.rule
      ∙ sym (fold_next with_number (app_of c.args.command) numbers c.loop-number.number-index _ c.loop-number-test.true),
  c.in_ok-command.ensures.local ∙ c.loop-number.invariant.1,
)

pub returns-clause-app : goal.returns-clause-app
returns-clause-app c =
    let from = c.loop-number-test.false in
    c.loop-number.invariant.0 ∙ ap (fold with_number (app_of c.args.command)) (take_all c.loop-number.number-index numbers (omega (arith, from)))

use Rattle.std.proofs.Common.{◌∙◌, fold, sym, ap, ap₂, arith}
use Rattle.std.proofs.lemmas.List.{take_all}
use Rattle.clap.specs.Words.{app_of, with_rule}
use Rattle.edge_setup.specs.Options.{flag_options, with_flag}
use Rattle.edge_setup.proofs.NumberLemmas.{fold_next}
use Rattle.edge_setup.proofs.command.with_flags.Goals as goal

pub loop-flag-preserved : goal.loop-flag-preserved
loop-flag-preserved c = (
  c.in_ok-command.ensures.app ∙ ap₂ with_rule c.loop-flag.invariant.0 c.arg.ensures.rule
      ∙ sym (fold_next with_flag (app_of c.args.command) flag_options c.loop-flag.flag-index _ c.loop-flag-test.true),
  c.in_ok-command.ensures.local ∙ c.loop-flag.invariant.1,
)

pub returns-clause-app : goal.returns-clause-app
returns-clause-app c =
    let from = c.loop-flag-test.false in
    c.loop-flag.invariant.0 ∙ ap (fold with_flag (app_of c.args.command)) (take_all c.loop-flag.flag-index flag_options (omega (arith, from)))

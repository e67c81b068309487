use Rattle.std.proofs.Common.{◌∙◌, ap, ap₂}
use Rattle.std.proofs.lemmas.Result.{IfOk-weaker}
use Rattle.clap.specs.Words.{app_of, with_rule}
use Rattle.edge_setup.proofs.case.with_run.Goals as goal

pub returns-clause-app : goal.returns-clause-app
returns-clause-app c =
    let one = c.in_ok-command.ensures.app ∙ ap (with_rule (app_of c.args.command)) c.option-order.ensures.rule in
    let two = c.in_ok-command-2.ensures.app ∙ ap₂ with_rule one c.ahead_option-ahead.ensures.rule in
    let three = c.in_ok-command-3.ensures.app ∙ ap₂ with_rule two c.arg-levels.ensures.rule in
    IfOk-weaker c.with_option-4.result _ _ (λ more is. is ∙ ap₂ with_rule three c.flag-why.ensures.rule) c.with_option-4.ensures.app

pub returns-clause-local : goal.returns-clause-local
returns-clause-local c =
    IfOk-weaker c.with_option-4.result _ _ (λ more is. is ∙ c.in_ok-command-3.ensures.local ∙ c.in_ok-command-2.ensures.local ∙ c.in_ok-command.ensures.local) c.with_option-4.ensures.local

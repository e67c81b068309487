use Rattle.std.proofs.Common.{sym, ◌∙◌}
use Rattle.template_check.proofs.WarnedLemmas.{name-fine, name-idle}
use Rattle.template_check.proofs.warned.name_warning.Goals as goal

pub returns-in-Some-2 : goal.returns-in-Some-2
returns-in-Some-2 c = name-fine c.args.name.now _ _ (sym c.in_ok-page.ensures ∙ c.in-Some.is) (sym c.in_ok-resolve.ensures ∙ c.in-Some-2.is)

pub returns : goal.returns
returns c = name-idle c.args.name.now _ (sym c.in_ok-page.ensures ∙ c.in-Some.is) (sym c.in_ok-resolve.ensures ∙ c.in-None.is)

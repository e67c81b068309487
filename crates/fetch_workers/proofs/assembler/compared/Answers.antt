use Rattle.std.proofs.Common.{◌∙◌, sym, ap, map, List}
use Rattle.fetch_workers.specs.declared.log.Own.{Own}
use Rattle.fetch_workers.proofs.FailedLegs.{leg_of_page}
use Rattle.fetch_workers.proofs.assembler.compared.Goals as goal

pub returns-clause-failed_leg : goal.returns-clause-failed_leg
returns-clause-failed_leg c =
    let known = c.in_ok-failed_leg.ensures _ c.in_ok-outcome.ensures.standing in
    let same = c.is.ensures c.if-not-is.false in
    let own = c.is_log_of.ensures c.if-not-is_log_of.false in
    leg_of_page c.told.new.page _ _ _ _ _ _ known same (sym own ∙ ap (λ (xs : List Own). map (λ (o : Own). o.answer) xs) c.as_slice.ensures.value ∙ sym c.in_ok-log.ensures.answers)

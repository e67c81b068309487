use Rattle.std.proofs.Common.{◌∙◌, sym, ap, ℕ, Option, option_and_then}
use Rattle.answer_board.specs.Board.{answer_at}
use Rattle.plan_runner.proofs.Targets.{missing_is, found_is}
use Rattle.plan_runner.proofs.leg.asked.Goals as goal

pub returns-in-Some-prepared : goal.returns-in-Some-prepared
returns-in-Some-prepared c = found_is c.args.board.now c.filled.ensures.sound c.args.url _ _ c.in-Some.ensures c.in-Some-prepared.ensures

pub returns-in-None-prepared : goal.returns-in-None-prepared
returns-in-None-prepared c =
    let slots = c.args.board.now.slots in
    missing_is c.args.board.now c.filled.ensures.sound c.args.url (ap (λ (o : Option ℕ). option_and_then (answer_at slots) o) (sym c.in-Some.ensures) ∙ sym c.in-None-prepared.ensures)

pub returns-in-None : goal.returns-in-None
returns-in-None c =
    let slots = c.args.board.now.slots in
    missing_is c.args.board.now c.filled.ensures.sound c.args.url (ap (λ (o : Option ℕ). option_and_then (answer_at slots) o) (sym c.in-None.ensures))

use Rattle.std.proofs.Common.{refl}
use Rattle.plan_runner.proofs.Boards.{first_opened, whole_first, legal_first}
use Rattle.plan_runner.proofs.page.Page.accept.Goals as goal

pub invariant_of-result : goal.invariant_of-result
invariant_of-result c = record {
  sound = c.in_ok-open.ensures.sound;
  levels = c.requires.levels;
  legal = legal_first c.args.request c.args.url c.open.new.self (first_opened c.new-board.result c.open.new.self c.args.url _ c.new-board.ensures c.in_ok-open.ensures.ok);
  board_is = whole_first c.args.request c.args.levels c.args.url c.args.ahead c.open.new.self (first_opened c.new-board.result c.open.new.self c.args.url _ c.new-board.ensures c.in_ok-open.ensures.ok);
  stage_is = refl;
  leg_is = tt;
}

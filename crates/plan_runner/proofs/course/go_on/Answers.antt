use Rattle.std.proofs.Common.{◌∙◌, sym}
use Rattle.plan_machine.specs.Machine.{start}
use Rattle.answer_board.specs.Board.{log_of}
use Rattle.plan_runner.specs.Shown.{shown_machine}
use Rattle.plan_runner.proofs.Courses.{too_many, at_end}
use Rattle.plan_runner.proofs.LastLegs.{failed_page, waits_going}
use Rattle.plan_runner.proofs.course.go_on.Goals as goal

pub returns-in-Waits : goal.returns-in-Waits
returns-in-Waits c =
    let h = c.requires.running in
    let r = c.args.setting.now.request.now in
    let b = c.args.setting.now.board.now in
    let told = rw c.in-Waits.is at c.in_ok-level.ensures.told in
    record {
      running = record {
        tree = h.tree;
        head = h.head;
        page = h.page;
        stands = c.in_ok-level.ensures.stands _ h.stands;
        placed = c.in_ok-level.ensures.placed;
        ready = c.in_ok-level.ensures.ready;
        going = waits_going r (log_of b) (shown_machine b c.advance.new.progress.machine) c.in-Waits.level c.in-Waits.missing told c.in_ok-level.ensures.ready;
      };
      waits = told;
    }

pub returns-in-TooMany : goal.returns-in-TooMany
returns-in-TooMany c =
    let h = c.requires.running in (
      too_many c.args.setting.now.request.now c.args.levels c.args.url.now c.args.setting.now.board.now c.advance.new.progress h.tree h.head h.page (c.in_ok-level.ensures.stands _ h.stands)
          (rw c.in-TooMany.is at c.in_ok-level.ensures.told) _ c.saturating_add-progress.ensures,
      λ e. absurd (cc),
    )

pub returns-in_ok-outcome-in-End : goal.returns-in_ok-outcome-in-End
returns-in_ok-outcome-in-End c =
    let h = c.requires.running in
    let r = c.args.setting.now.request.now in
    let b = c.args.setting.now.board.now in
    let shown_is = c.in_ok-outcome-in-End.ensures.shown h.tree h.head h.page in (
      at_end r c.args.levels c.args.url.now b c.advance.new.progress h.tree h.head h.page (c.in_ok-level.ensures.stands _ h.stands)
          (rw c.in-End.is at c.in_ok-level.ensures.told) _ shown_is _ c.in_ok-outcome-in-End.ensures.steps,
      λ e. failed_page r b c.args.levels c.args.url.now h.tree h.head h.page c.advance.new.progress.machine
          (c.in_ok-level.ensures.fails (start c.args.levels c.args.url.now h.tree) h.stands (λ failed. let going = h.going in absurd (cc))) _ c.in_ok-outcome-in-End.ensures.last (sym shown_is ∙ e),
    )

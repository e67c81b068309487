use Rattle.plan_runner.proofs.Same.{told_after, over_after}
use Rattle.plan_runner.proofs.events.run_events.Goals as goal

pub returns-clause-told : goal.returns-clause-told
returns-clause-told c =
    let a = c.args in
    let found = c.in_ok-into_page_with in
    let told = c.told_after-told in
    told_after a.table.now a.running.events.now a.url a.request a.running.ahead a.running.levels c.in_ok-hand.hand told.result found.field-0.1 told.new.hand.page found.field-0.0 c.in_ok-hand.ensures found.ensures.told told.ensures.ran found.ensures.page

pub returns-clause-over_the_table : goal.returns-clause-over_the_table
returns-clause-over_the_table c =
    let a = c.args in
    let found = c.in_ok-into_page_with in
    let told = c.told_after-told in
    over_after a.table.now a.running.events.now a.url a.request a.running.ahead a.running.levels c.in_ok-hand.hand told.result found.field-0.1 told.new.hand.page found.field-0.0 c.in_ok-hand.ensures found.ensures.told told.ensures.ran found.ensures.page told.ensures.over_the_table

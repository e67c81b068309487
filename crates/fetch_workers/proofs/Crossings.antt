-- Workers may share a desk: what lies there may cross threads.
use denote.RattleType.{RattleType}
use denote.Param.Send.{IsSend, IsSync, sendable}
use denote.Param.SendFields.{declared_send}
use Rattle.std.proofs.Crossing
use Rattle.std.proofs.MapsCrossing
use Rattle.edge_types.proofs.page_url.PageUrl.TheSendSync as PageUrl
use Rattle.edge_types.proofs.request.Request.TheSendSync as Request
use Rattle.answer_sources.proofs.Crossings.{prepared_send}
use Rattle.answer_sources.specs.declared.answers.Answers.{Ghosts}
use Rattle.answer_board.specs.contracts.board.Board as board
use Rattle.plan_runner.proofs.advance.Progress.TheSendSync as Progress
use Rattle.plan_runner.proofs.page.Stage.TheSendSync as Stage
use Rattle.plan_runner.specs.contracts.page.Page as page
use Rattle.fetch_workers.proofs.desk.SetAside.TheSendSync as SetAside
use Rattle.fetch_workers.specs.contracts.desk.Desk as desk
use Rattle.fetch_workers.specs.contracts.shared_desk.SharedDesk as shared_desk
use Rattle.fetch_workers.specs.contracts.page_in_progress.UnderWay as under_way
use Rattle.fetch_workers.specs.contracts.page_in_progress.Work as work
use Rattle.fetch_workers.specs.contracts.page_in_progress.PageInProgress as page_in_progress
use Rattle.fetch_workers.proofs.concurrent_worker.Flights.TheSendSync as Flights
use Rattle.fetch_workers.proofs.wanted_page.WantedPage.TheSendSync as WantedPage
use Rattle.fetch_workers.proofs.page_in_progress.Posted.TheSendSync as Posted

board_send : IsSend board.the_row
board_send = search (PageUrl.the_send, prepared_send, MapsCrossing.crosses, Crossing.crosses, sendable) depth 60 fits 20000

page_send : IsSend page.the_row
page_send = search (
  PageUrl.the_send,
  Request.the_field_send,
  board_send,
  Progress.the_field_send,
  Stage.the_field_send,
  Crossing.crosses,
  sendable,
) depth 60 fits 20000

desk_send : IsSend desk.the_row
desk_send = search (page_send, SetAside.the_send, Crossing.crosses, sendable) depth 60 fits 20000

pub shared_desk_send : IsSend shared_desk.the_row
shared_desk_send = search (desk_send, Crossing.crosses, sendable) depth 60 fits 20000

pub shared_desk_sync : IsSync shared_desk.the_row
shared_desk_sync = search (desk_send, Crossing.crosses, sendable) depth 60 fits 20000

ruleset under_way_crosses = (
  shared_desk_send,
  Flights.the_send,
  Flights.the_field_send,
  SetAside.the_send,
  WantedPage.the_send,
  WantedPage.the_field_send,
  PageUrl.the_send,
  Request.the_field_send,
  Crossing.crosses,
  sendable,
)

under_way_send : (R F : RattleType) → IsSend R → IsSend F → IsSend (under_way.the_row R F)
under_way_send R F r f = declared_send (under_way.the_type R F) (
  search (under_way_crosses) depth 60 fits 20000,
  (
    search (under_way_crosses) depth 60 fits 20000,
    (
      search (under_way_crosses) depth 60 fits 20000,
      (
        search (under_way_crosses) depth 60 fits 20000,
        (
          search (under_way_crosses) depth 60 fits 20000,
          (
            search (under_way_crosses) depth 60 fits 20000,
            tt,
          ),
        ),
      ),
    ),
  ),
)

ruleset works_cross = (under_way_send, Posted.the_send, Posted.the_field_send, Crossing.crosses, sendable)

work_send : (R S F : RattleType) (source : Ghosts S.Denot R.Denot) → IsSend R → IsSend S → IsSend F → IsSend (work.the_row R S F source)
work_send R S F source r s f = declared_send (work.the_type R S F source) (
  search (works_cross) depth 60 fits 20000,
  (
    search (works_cross) depth 60 fits 20000,
    tt,
  ),
)

-- whoever goes on with a page may be another thread, where its source and what that has in flight may cross threads
pub page_in_progress_send : (R S F : RattleType) (source : Ghosts S.Denot R.Denot) → IsSend R → IsSend S → IsSend F → IsSend (page_in_progress.the_row R S F source)
page_in_progress_send R S F source r s f = declared_send (page_in_progress.the_type R S F source) (
  search (work_send R S F source r s f, Crossing.crosses, sendable) depth 60 fits 20000,
  tt,
)

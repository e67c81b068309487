-- A page crosses threads, where its source does, and what that has in flight.
use denote.RattleType.{RattleType}
use denote.Param.Send.{IsSend, IsSync, sendable}
use Rattle.std.proofs.Crossing
use Rattle.answer_sources.specs.declared.answers.Answers.{Ghosts}
use Rattle.fetch_workers.proofs.Crossings.{page_in_progress_send}
use Rattle.fetch_workers.specs.contracts.page_in_progress.PageInProgress as page_in_progress
use Rattle.page_readers.proofs.page_time.FetchesInTime.TheSendSync as FetchesInTime
use Rattle.page_readers.proofs.page_time.WithinTime.TheSendSync as WithinTime
use Rattle.page_readers.specs.contracts.page_time.FetchesInTime as fetches_in_time
use Rattle.page_readers.specs.contracts.page_time.WithinTime as within_time
use Rattle.page_readers.specs.contracts.page_time.WithinTimeAnswers.TheImpl as in_time

-- one that has a limit of time
pub timed_page_send : (R S F : RattleType) (source : Ghosts S.Denot R.Denot) → IsSend R → IsSend S → IsSync S → IsSend F
    → IsSend (page_in_progress.the_row R (within_time.the_row S) (fetches_in_time.the_row F) (in_time.ghosts R S source in_time.no_dict))
timed_page_send R S F source r s y f =
    page_in_progress_send R (within_time.the_row S) (fetches_in_time.the_row F) (in_time.ghosts R S source in_time.no_dict) r
    (search (WithinTime.the_send, s, y, Crossing.crosses, sendable))
    (search (FetchesInTime.the_send, f, Crossing.crosses, sendable))

use denote.Exit.{no}
use denote.Param.{param}
use denote.Param.Send.{param_send, arg_send}
use Rattle.hyper_edge.proofs.Crossings.{timed_page_send}
use Rattle.hyper_edge.proofs.serving.serve_io.Goals as goal

pub serve_io-requires-send-V-Page : goal.serve_io-requires-send-V-Page
serve_io-requires-send-V-Page g c κs within =
    param_send _ _ (arg_send _ no _ (timed_page_send (param 0 g.row.R) (param 2 g.row.S) (param 3 g.row.S-InFlight) g.S.Answers
    c.type_bounds.send-R c.type_bounds.send-S c.type_bounds.sync-S c.type_bounds.send-S-InFlight))

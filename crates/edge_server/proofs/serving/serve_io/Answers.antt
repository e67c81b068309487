-- The connection that the call gives is the one that the HTTP library made, which may be polled.
use Rattle.std.proofs.Common.{sym}
use borrow.Author.Called.{ensures-at}
use Rattle.edge_server.proofs.serving.serve_io.Goals as goal

pub serve_one-requires-clause-opened : goal.serve_one-requires-clause-opened
serve_one-requires-clause-opened g c κs within io handover connection opened = (ensures-at opened.1.said-raw.1.1.0 (sym opened.1.said-raw.1.1.1)).1.1.1

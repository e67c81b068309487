-- What is made ready of the answers of sources may cross threads.
use denote.Param.Send.{IsSend, sendable}
use Rattle.std.proofs.Crossing
use Rattle.std.proofs.MapsCrossing
use Rattle.edge_types.proofs.shared_answer.SharedAnswer.TheSendSync as SharedAnswer
use Rattle.edge_types.proofs.shared_bytes.SharedBytes.TheSendSync as SharedBytes
use Rattle.esi_expr.proofs.expr.Negation.TheLaws.TheKnot
use Rattle.esi_expr.proofs.expr.Operand.TheSendSync as Operand
use Rattle.esi_tree.proofs.parts.Parts.TheSendSync as Parts
use Rattle.plan_compiler.proofs.inline.Inline.TheSendSync as Inline
use Rattle.plan_compiler.proofs.inline_urls.InlineUrls.TheSendSync as InlineUrls
use Rattle.plan_compiler.proofs.leg.Leg.TheSendSync as Leg
use Rattle.plan_compiler.specs.contracts.prepared.Prepared as prepared

pub prepared_send : IsSend prepared.the_row
prepared_send = search (
  SharedAnswer.the_send,
  SharedAnswer.the_sync,
  SharedBytes.the_send,
  SharedBytes.the_sync,
  Parts.the_send,
  Parts.the_sync,
  Leg.the_send,
  Leg.the_sync,
  Inline.the_send,
  Inline.the_sync,
  InlineUrls.the_field_send,
  InlineUrls.the_field_sync,
  Operand.the_field_send,
  Operand.the_field_sync,
  MapsCrossing.crosses,
  Crossing.crosses,
  TheKnot.crosses,
  sendable,
) depth 60 fits 20000

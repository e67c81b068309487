use Rattle.std.proofs.Common.{◌<◌, length, arith}
use Rattle.edge_case.proofs.Writes.{pieces_more, pieces_part, piece_is, on_any}
use Rattle.edge_case.proofs.writing.write_body.Goals as goal
use Rattle.edge_case.proofs.writing.write_body.Goals.{in-Some+in_ok-write_bytes, in_default}

pub returns-in_err-write_bytes-clause-err : goal.returns-in_err-write_bytes-clause-err
returns-in_err-write_bytes-clause-err g c =
    on_any c.from_residual.result _ (pieces_part _ _ _ c.args.body.now c.loop-at.at c.in-Some.piece.now (omega arith) c.in-Some.ensures.value c.loop-at.invariant c.in_err-write_bytes.ensures.err)

pub loop-at-preserved : goal.loop-at-preserved
loop-at-preserved g c =
    let below : c.loop-at.at < length c.args.body.now = omega arith in
    elim c.match-piece.branch [
      | in-Some+in_ok-write_bytes w ↦ rw w.writer-is (pieces_more _ _ _ c.args.body.now c.loop-at.at w.in-Some.piece.now below w.in-Some.ensures.value c.loop-at.invariant w.in_ok-write_bytes.ensures.ok)
      | in_default w ↦ absurd (piece_is c.args.body.now c.loop-at.at below w.in_default.ensures.value)
    ]

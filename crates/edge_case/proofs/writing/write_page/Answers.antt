use Rattle.std.proofs.lemmas.Result.{on_err_weaker}
use Rattle.edge_types.specs.Pieces.{joined}
use Rattle.edge_case.proofs.Writes.{part_front, part_behind, on_any}
use Rattle.edge_case.proofs.writing.write_page.Goals as goal

pub returns-in_err-write_bytes-clause-err : goal.returns-in_err-write_bytes-clause-err
returns-in_err-write_bytes-clause-err g c =
    on_any c.from_residual.result _ (part_front _ _ c.args.line.now (joined c.args.body.now) c.in_err-write_bytes.ensures.err)

pub returns-clause-err : goal.returns-clause-err
returns-clause-err g c =
    on_err_weaker c.write_body.result (part_behind _ _ _ c.args.line.now (joined c.args.body.now) c.in_ok-write_bytes.ensures.ok) c.write_body.ensures.err

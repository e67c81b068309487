use Rattle.edge_case.proofs.Writes.{upto_more}
use Rattle.edge_case.proofs.writing.write_bytes.Goals as goal

pub loop-rest-preserved : goal.loop-rest-preserved
loop-rest-preserved g c =
    rw c.split_at.ensures.back (upto_more _ _ _ c.args.bytes.now c.loop-rest.rest.now c.in-Ok.n c.loop-rest.invariant c.in-Ok.ensures.bytes)

use Rattle.access_log.proofs.LogText.{line}
use Rattle.access_log.proofs.queue.LineQueue.tell_lost.Goals as goal

pub keep-requires : goal.keep-requires
keep-requires c = line c.as_bytes.result.now c.as_bytes.ensures.ascii

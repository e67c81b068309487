use Rattle.access_log.proofs.LogText.{joined, line}
use Rattle.access_log.proofs.queue.LineQueue.tell.Goals as goal

pub keep-requires : goal.keep-requires
keep-requires c = line c.as_bytes.result.now c.as_bytes.ensures.ascii

pub keep-requires-2 : goal.keep-requires-2
keep-requires-2 c =
    let report = line c.as_bytes-2.result.now c.as_bytes-2.ensures.ascii in
    let last = line c.as_bytes-3.result.now c.as_bytes-3.ensures.ascii in
    rw (c.as_slice.ensures.value, c.in_ok-extend_from_slice.ensures.items, c.in_ok-text.ensures.items) (joined c.as_bytes-2.result.now c.as_bytes-3.result.now report last)

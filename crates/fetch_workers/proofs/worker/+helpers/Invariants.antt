use Rattle.std.proofs.Common.{◌+◌, ◌*◌}
use Rattle.fetch_workers.proofs.worker.+helpers.Given as goal

-- a worker's thread is started by the worker before it
abbrev pub decreases-helper : goal.decreases-helper
decreases-helper g l = 2 * l.others

abbrev pub decreases-Worker::work_in : goal.decreases-Worker::work_in
decreases-Worker::work_in g l = 2 * l.others + 1

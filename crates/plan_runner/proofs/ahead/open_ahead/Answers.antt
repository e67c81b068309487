use Rattle.plan_runner.proofs.Walks.{none_by}
use Rattle.plan_runner.proofs.ahead.open_ahead.Goals as goal

pub returns-then-room-eq0-clause-opens : goal.returns-then-room-eq0-clause-opens
returns-then-room-eq0-clause-opens c = λ s answer here filled. none_by c.args.filled.now.request.now c.args.filled.now.levels s.depth answer c.args.board.now c.args.room c.if-room-eq0.true

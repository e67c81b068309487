use Rattle.fetch_workers.specs.Given.{AllOwn}
use Rattle.fetch_workers.proofs.worker.Worker.reach.Given as goal

abbrev pub invariant-loop : goal.invariant-loop
invariant-loop g l =
    (goal.iterator-loop g).can_next l.iterator' × (goal.iterator-loop g).is_finite l.iterator' × AllOwn (g.S.Answers.gives l.self.source.now) l.mine.items

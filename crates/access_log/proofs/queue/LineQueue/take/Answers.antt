use Rattle.std.proofs.Common.{◌≡◌, ◌+◌, ◌++◌, drop, take, sym, subst, arith}
use Rattle.std.proofs.lemmas.Grind.{common_steps}
use Rattle.access_log.specs.Text.{IsLogText}
use Rattle.access_log.proofs.LogText.{after, front}
use Rattle.access_log.proofs.queue.LineQueue.take.Goals as goal

pub as_text-requires : goal.as_text-requires
as_text-requires c =
    let count = c.min-count.result in
    let waiting = drop c.self.inside.start c.self.inside.bytes.items in
    let is : take count (c.copy_from_slice.new.self ++ drop count c.args.chunk.now) ≡ take count waiting = grind (arith, common_steps) in
    subst IsLogText (sym is) (front count waiting c.self.invariant.1)

pub invariant_of-self : goal.invariant_of-self
invariant_of-self c =
    let start = c.self.inside.start in
    let count = c.min-count.result in
    let bytes = c.self.inside.bytes.items in
    let is : drop (start + count) bytes ≡ drop count (drop start bytes) = grind (arith, common_steps) in
    (omega arith, subst IsLogText (sym is) (after count (drop start bytes) c.self.invariant.1))

pub returns-clause-ascii : goal.returns-clause-ascii
returns-clause-ascii c =
    let count = c.min-count.result in
    let waiting = drop c.self.inside.start c.self.inside.bytes.items in
    let is : c.as_text.result.now ≡ take count waiting = grind (arith, common_steps) in
    subst IsLogText (sym is) (front count waiting c.self.invariant.1)

use Rattle.std.proofs.Common.{◌≡◌, ◌++◌, codes, append_assoc}
use Rattle.std.proofs.lemmas.Result.{IfOk-weaker}
use Rattle.access_log.specs.Clock.{log_time}
use Rattle.access_log.proofs.Printable.{front, rest, text}
use Rattle.access_log.proofs.clock.push_log_time.Goals as goal

pub push-requires-7 : goal.push-requires-7
push-requires-7 c = (front 8 _ (rest 17 c.args.date.now (text c.args.date.now c.requires))).each

pub returns : goal.returns
returns c =
    IfOk-weaker c.push-8.result (λ _. c.push-8.new.self ≡ c.push-7.new.self ++ codes " +0000") (λ _. c.push-8.new.self ≡ c.args.line.now ++ log_time c.args.date.now)
    (λ _ last.
    rw (last, c.in_ok-push-7.ensures, c.in_ok-push-6.ensures, c.in_ok-push-5.ensures, c.in_ok-push-4.ensures, c.in_ok-push-3.ensures, c.in_ok-push-2.ensures, c.in_ok-push.ensures)
    (simp append_assoc))
    c.push-8.ensures

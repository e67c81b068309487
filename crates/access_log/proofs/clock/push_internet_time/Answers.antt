use Rattle.std.proofs.Common.{◌≡◌, ◌++◌, codes, append_assoc}
use Rattle.std.proofs.lemmas.Result.{IfOk-weaker}
use Rattle.access_log.specs.Clock.{internet_time}
use Rattle.access_log.proofs.Printable.{front, rest, text}
use Rattle.access_log.proofs.clock.push_internet_time.Goals as goal

pub push-requires-5 : goal.push-requires-5
push-requires-5 c = (front 8 _ (rest 17 c.args.date.now (text c.args.date.now c.requires))).each

pub returns : goal.returns
unfolding internet_time
returns c =
    IfOk-weaker c.push-6.result (λ _. c.push-6.new.self ≡ c.push-5.new.self ++ codes "Z") (λ _. c.push-6.new.self ≡ c.args.line.now ++ internet_time c.args.date.now)
    (λ _ last.
    rw (last, c.in_ok-push-5.ensures, c.in_ok-push-4.ensures, c.in_ok-push-3.ensures, c.in_ok-push-2.ensures, c.in_ok-push.ensures, c.month_number-month.ensures)
    (simp append_assoc))
    c.push-6.ensures

-- What a failure and an answer make of later requests.
use Rattle.std.specs.Prelude.{◌≡◌, ℕ, nat_lt, IsTrue, IsFalse, None, Some, if◌then◌else◌}
use Rattle.edge_types.specs.Answered.{Answered}
use Rattle.fragment_cache.specs.Times.{second_after}
use Rattle.failed_answers.specs.Rest.{Failures, failing, noted, rests_after}

-- Within the rest of a URL its failing answer is given again, and from the end of the rest on the URL is asked.
abbrev pub RestsWhole : Type 0
RestsWhole = (failures : Failures) (answer : Answered) (since now : ℕ) → IsTrue (rests_after answer.reply)
    → failing (noted failures answer since) answer.url now ≡ (if nat_lt now (second_after since failures.rest) then Some answer else None)

-- A URL with any other answer is asked, whatever it has answered before.
abbrev pub AnswerEndsRest : Type 0
AnswerEndsRest = (failures : Failures) (answer : Answered) (since now : ℕ) → IsFalse (rests_after answer.reply)
    → failing (noted failures answer since) answer.url now ≡ None

-- What a failure and an answer make of later requests.
use Rattle.std.proofs.Common.{◌≡◌, ℕ, Bool, cond, List, None, option_and_then, refl, ◌∙◌, ap}
use Rattle.edge_types.specs.Answered.{Answered}
use Rattle.fragment_cache.specs.Machine.{Entry, Entries, entry_of, others, stored, fresh, answer_before}
use Rattle.fragment_cache.specs.Times.{second_after}
use Rattle.fragment_cache.proofs.LookupLemmas.{bytes_itself, entry_of-others}
use Rattle.failed_answers.specs.Rest.{until, failing, with_entries, put_first, shelf_of, forgotten}
use Rattle.failed_answers.specs.Law.{RestsWhole, AnswerEndsRest}

-- the answer that was put first is found until its end
fresh-stored : (capacity : ℕ) (answer : Answered) (end now : ℕ) (entries : Entries)
    → fresh (stored capacity answer.url (until answer end) entries) answer.url now ≡ answer_before now end answer
fresh-stored capacity answer end now entries = rw (bytes_itself answer.url) refl

fresh-others : (url : List ℕ) (now : ℕ) (entries : Entries) → fresh (others url entries) url now ≡ None
fresh-others url now entries =
    ap (option_and_then (λ (e : Entry). answer_before now e.expiry e.answer))
    (entry_of-others url entries url ∙ ap (λ (b : Bool). cond b None (entry_of entries url)) (bytes_itself url))

pub rests_whole : RestsWhole
rests_whole failures answer since now rests =
    ap (λ (b : Bool). failing (cond b (with_entries failures (put_first answer (second_after since failures.rest) (shelf_of failures))) (forgotten failures answer.url)) answer.url now) rests
    ∙ fresh-stored failures.capacity answer (second_after since failures.rest) now failures.entries

pub answer_ends_rest : AnswerEndsRest
answer_ends_rest failures answer since now rests =
    ap (λ (b : Bool). failing (cond b (with_entries failures (put_first answer (second_after since failures.rest) (shelf_of failures))) (forgotten failures answer.url)) answer.url now) rests
    ∙ fresh-others answer.url now failures.entries

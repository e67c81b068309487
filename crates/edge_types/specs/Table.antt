-- What origins answer, all together: at most one answer for each URL.
use Rattle.std.specs.Prelude.{◌≡◌, ◌≢◌, ℕ, Bool, bytes_eq, List, find, All, AllPairs, Option, Some, None}
use Rattle.edge_types.specs.declared.answer.Reply.{Reply}
use Rattle.edge_types.specs.declared.answer.Reply.TheVariants.{Failed}
use Rattle.edge_types.specs.Answered.{Answered}

-- the answer is one of this URL
abbrev pub is_of : List ℕ → Answered → Bool
is_of url answer = bytes_eq answer.url url

-- the answer of a URL
abbrev pub answer_of : List Answered → List ℕ → Option Answered
answer_of table url = find (is_of url) table

abbrev pub reply_in : Option Answered → Reply
reply_in (Some answer) = answer.reply
reply_in None = Failed

-- the reply of a URL: one that isn't there can't be fetched
abbrev pub reply_of : List Answered → List ℕ → Reply
reply_of table url = reply_in (answer_of table url)

-- no URL is answered twice
abbrev pub IsTable : List Answered → Type 0
IsTable answers = AllPairs (λ earlier later. earlier.url ≢ later.url) answers

-- the table gives each logged URL the reply that was logged for it
abbrev pub Agrees : List Answered → List Answered → Type 0
Agrees log table = All (λ answer. reply_of table answer.url ≡ answer.reply) log

-- What is remembered of URLs that failed, and for how long each rests. Our profile.
use Rattle.std.specs.Prelude.{ℕ, Bool, true, ◌&&◌, not, nat_eq, List, [], Option, if◌then◌else◌}
use Rattle.edge_types.specs.declared.answer.Reply.{Reply}
use Rattle.edge_types.specs.declared.answer.Reply.TheVariants.{Failed, Got}
use Rattle.edge_types.specs.Answered.{Answered}
use Rattle.fragment_cache.specs.Machine.{Entry, Shelf, fresh, others, stored}
use Rattle.fragment_cache.specs.Times.{second_after, is_failing}

-- A URL rests after this reply: its origin fails, as where a failing origin is bridged. 508 says something of who asked, and not of the URL.
abbrev pub rests_after : Reply → Bool
rests_after Failed = true
rests_after (Got head control body) = is_failing (Got head control body) && not (nat_eq head.status 508)

-- the answers that failed, that of the latest failure first, each until the second from which its URL is asked again; how many there may be; and for how many seconds a URL rests
pub record Failures : Type 0 where
  pub entries : List (List ℕ × Entry)
  pub capacity : ℕ
  pub rest : ℕ

-- no URL has failed yet
abbrev pub nothing_failed : ℕ → Failures
nothing_failed rest = record { entries = []; capacity = 1024; rest = rest }

-- the answer of a URL that rests
abbrev pub failing : Failures → List ℕ → ℕ → Option Answered
failing failures url now = fresh failures.entries url now

-- an answer with which its URL failed, until this second
abbrev pub until : Answered → ℕ → Entry
until answer end = record { answer = answer; expiry = end }

-- this answer first, in place of an older one of its URL, else of the last one where there are as many as may be
abbrev pub put_first : Answered → ℕ → Shelf → Shelf
put_first answer end shelf = record shelf { entries = stored shelf.capacity answer.url (until answer end) shelf.entries }

-- the URL doesn't rest any longer
abbrev pub without : List ℕ → Shelf → Shelf
without url shelf = record shelf { entries = others url shelf.entries }

abbrev pub with_entries : Failures → Shelf → Failures
with_entries failures shelf = record failures { entries = shelf.entries; capacity = shelf.capacity }

abbrev pub shelf_of : Failures → Shelf
shelf_of failures = record { entries = failures.entries; capacity = failures.capacity }

abbrev pub forgotten : Failures → List ℕ → Failures
forgotten failures url = with_entries failures (without url (shelf_of failures))

-- an answer has come: its URL rests from now on, or doesn't rest any longer
abbrev pub noted : Failures → Answered → ℕ → Failures
noted failures answer now = if rests_after answer.reply then with_entries failures (put_first answer (second_after now failures.rest) (shelf_of failures)) else forgotten failures answer.url

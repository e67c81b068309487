-- What a page's source gives, where the page has a limit of time.
use Rattle.std.specs.Prelude.{◌≡◌, ◌⊎◌, ℕ, min, List, Option, Some, None}
use Rattle.std.proofs.Common.{inl, inr}
use Rattle.edge_types.specs.Answered.{Answered}
use Rattle.edge_types.specs.declared.answer.Reply.TheVariants.{Failed}

-- what the source gives, or a failed answer, as for a URL that can't be fetched
abbrev pub GivesInTime : (List ℕ → Answered → Type 0) → List ℕ → Answered → Type 0
GivesInTime gives url answer = gives url answer ⊎ ((answer.url ≡ url) × (answer.reply ≡ Failed))

-- either names the URL
abbrev pub names_url : (gives : List ℕ → Answered → Type 0) → ((url : List ℕ) (answer : Answered) → gives url answer → answer.url ≡ url) → (url : List ℕ) (answer : Answered) → GivesInTime gives url answer → answer.url ≡ url
names_url gives named url answer (inl given) = named url answer given
names_url gives named url answer (inr failed) = failed.0

-- the earlier of two times, in nanoseconds; None is never
abbrev pub earlier_of : Option ℕ → Option ℕ → Option ℕ
earlier_of None other = other
earlier_of (Some one) None = Some one
earlier_of (Some one) (Some other) = Some (min one other)

-- Answers that a source gave.
use Rattle.std.specs.Prelude.{ℕ, List, All}
use Rattle.edge_types.specs.Answered.{Answered}
use Rattle.fetch_workers.specs.declared.log.Own.{Own}

-- each of these answers was given for the URL that it names
abbrev pub AllGiven : (List ℕ → Answered → Type 0) → List Answered → Type 0
AllGiven gives answers = All (λ (a : Answered). gives a.url a) answers

-- and so was each that a worker posted
abbrev pub AllOwn : (List ℕ → Answered → Type 0) → List Own → Type 0
AllOwn gives own = All (λ (o : Own). gives o.answer.url o.answer) own

-- What a page in progress has posted.
use Rattle.std.specs.Prelude.{ℕ, List}
use Rattle.edge_types.specs.Answered.{Answered}
use Rattle.fetch_workers.specs.Given.{AllOwn}
use Rattle.fetch_workers.specs.declared.log.Own.{Own}

-- each answer that was posted was given for the URL that it names
pub record AreGiven (gives : List ℕ → Answered → Type 0) (own : List Own) : Type 0 where
  pub all : AllOwn gives own

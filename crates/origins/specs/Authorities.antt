-- Whose fetches are counted.
use Rattle.std.specs.Prelude.{ℕ, List, map}
use Rattle.fetch_outcomes.specs.declared.origin_tally.OriginTally.{OriginTally}
use Rattle.origins.specs.declared.notes.CountedOrigin.{CountedOrigin}

-- the authorities whose fetches are counted, in order
abbrev pub counted : List CountedOrigin → List (List ℕ)
counted origins = map (λ (origin : CountedOrigin). origin.authority.items) origins

-- the authorities of tallies, in order
abbrev pub told : List OriginTally → List (List ℕ)
told tallies = map (λ (tally : OriginTally). tally.authority.items) tallies

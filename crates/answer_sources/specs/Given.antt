-- What a table gives as a source.
use Rattle.std.specs.Prelude.{◌≡◌, ℕ, List}
use Rattle.edge_types.specs.Answered.{Answered}
use Rattle.edge_types.specs.Table.{reply_of}

-- what a table has for a URL: one that isn't there can't be fetched
abbrev pub replied : List Answered → List ℕ → Answered
replied table url = record { url = url; reply = reply_of table url }

-- a table gives exactly that
abbrev pub GivenByTable : List Answered → List ℕ → Answered → Type 0
GivenByTable table url answer = answer ≡ replied table url

-- By which ways answers came.
use Rattle.std.specs.Prelude.{◌≡◌, List, [], ◌∷◌, length}
use Rattle.edge_types.specs.Answered.{Answered}
use Rattle.answer_sources.specs.Ways.{counted, no_way}
use Rattle.answer_sources.specs.declared.given.Way.{Way}
use Rattle.answer_sources.specs.declared.given.WayCounts.{WayCounts}

abbrev pub counted_all : WayCounts → List Way → WayCounts
counted_all counts [] = counts
counted_all counts (first ∷ ways) = counted_all (counted first counts) ways

abbrev pub counts_of : List Way → WayCounts
counts_of ways = counted_all no_way ways

-- each of these answers came by one way, and they are counted so
abbrev pub AreWaysOf : List Answered → WayCounts → Type 0
AreWaysOf log counts = (ways : List Way) × (length ways ≡ length log) × (counts ≡ counts_of ways)

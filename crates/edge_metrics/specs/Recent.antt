-- What a server did of late.
use Rattle.std.specs.Prelude.{ℕ, ◌-◌, List, length, drop}

-- the last elements, up to so many
abbrev pub last_of : {X : Type 0} → ℕ → List X → List X
last_of n xs = drop (length xs - n) xs

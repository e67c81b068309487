-- The two halves of a text, around a byte.
use Rattle.std.specs.Prelude.{ℕ, ◌+◌, ◌==◌, List, take, drop, position, Option}
use Rattle.std.specs.Option.{option_map}
use Rattle.std.specs.Borrow.{Bor}

-- what is before the first of this byte, and what is after it, if there is one
unfoldable pub around : ℕ → List ℕ → Option (List ℕ × List ℕ)
around mark text = option_map (λ n. (take n text, drop (n + 1) text)) (position (λ b. b == mark) text)

-- what the reader of the code lends
abbrev pub lent_pair : Bor (List ℕ) × Bor (List ℕ) → List ℕ × List ℕ
lent_pair pair = (pair.0.now, pair.1.now)

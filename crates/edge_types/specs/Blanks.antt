-- Blanks, and a text without those at its ends.
use Rattle.std.specs.Prelude.{◌≡◌, ℕ, Bool, true, ◌||◌, ◌==◌, List, [], ◌∷◌, reverse, if◌then◌else◌}
use Rattle.std.specs.List.{list_all}
use Rattle.std.specs.Str.{byte}

-- a space or a tab
abbrev pub is_blank : ℕ → Bool
is_blank b = b == byte " " || b == byte "\t"

-- each byte of the text is a blank
abbrev pub AreBlank : List ℕ → Type 0
AreBlank text = list_all is_blank text ≡ true

-- the text from its first byte on that isn't a blank
abbrev pub skip_blanks : List ℕ → List ℕ
skip_blanks [] = []
skip_blanks (b ∷ bs) = if is_blank b then skip_blanks bs else b ∷ bs

-- the text without the blanks at its ends
unfoldable pub trimmed : List ℕ → List ℕ
trimmed text = reverse (skip_blanks (reverse (skip_blanks text)))

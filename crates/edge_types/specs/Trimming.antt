-- What is left of a text without the blanks at its ends, stated without a search.
use Rattle.std.specs.Prelude.{◌≡◌, ◌↔◌, ℕ, false, List, [], ◌∷◌, ◌++◌}
use Rattle.edge_types.specs.Blanks.{is_blank, AreBlank, trimmed}

-- the text is this one with blanks on both sides, and it neither begins nor ends with one
pub record IsTrimmed (text middle : List ℕ) : Type 0 where
  pub left : List ℕ
  pub right : List ℕ
  pub whole : text ≡ left ++ (middle ++ right)
  pub left_blank : AreBlank left
  pub right_blank : AreBlank right
  pub begins : (first : ℕ) (rest : List ℕ) → middle ≡ first ∷ rest → is_blank first ≡ false
  pub ends : (front : List ℕ) (last : ℕ) → middle ≡ front ++ last ∷ [] → is_blank last ≡ false

-- A trimmed text is what is between the blanks at its ends, and nothing else is.
abbrev pub TrimsTexts : Type 0
TrimsTexts = (text middle : List ℕ) → (trimmed text ≡ middle) ↔ IsTrimmed text middle

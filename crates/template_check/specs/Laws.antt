-- What lines and columns are, without walking; and how far tests are read.
use Rattle.std.specs.Prelude.{◌≡◌, ◌↔◌, ℕ, ◌+◌, ◌==◌, List, [], ◌∷◌, ◌++◌, take, length, min, Some, if◌then◌else◌}
use Rattle.std.specs.Str.{byte}
use Rattle.esi_expr.specs.Tree.{Test}
use Rattle.esi_expr.specs.Reading.{read_test}
use Rattle.esi_expr.specs.declared.stop.Wanted.TheVariants.{Operator}
use Rattle.template_check.specs.Positions.{position_of}
use Rattle.template_check.specs.Stops.{stop_of}

-- the bytes before a place
abbrev pub before : List ℕ → ℕ → List ℕ
before text place = take (min place (length text)) text

-- how many line feeds there are
abbrev pub line_feeds : List ℕ → ℕ
line_feeds [] = 0
line_feeds (b ∷ bs) = if b == byte "\n" then line_feeds bs + 1 else line_feeds bs

-- the bytes have no line feed
abbrev pub IsOneLine : List ℕ → Type 0
IsOneLine bytes = line_feeds bytes ≡ 0

-- the line is one more than the line feeds before the place
abbrev pub LineIsCounted : Type 0
LineIsCounted = (text : List ℕ) (place : ℕ) → (position_of text place).line ≡ line_feeds (before text place) + 1

-- the column is one more than the bytes before the place, if they are one line
abbrev pub FirstLineIsCounted : Type 0
FirstLineIsCounted = (text : List ℕ) (place : ℕ) → IsOneLine (before text place) → (position_of text place).column ≡ length (before text place) + 1

-- and otherwise than those after the last line feed before it
abbrev pub ColumnIsCounted : Type 0
ColumnIsCounted =
    (text : List ℕ) (place : ℕ) (lines line : List ℕ) → before text place ≡ lines ++ byte "\n" ∷ line → IsOneLine line → (position_of text place).column ≡ length line + 1

-- a text can be read as a test
pub record IsTest (text : List ℕ) : Type 0 where
  pub test : Test
  pub is : read_test text ≡ Some test

-- a text can be read as a test exactly if reading it stops at its end, after a test
abbrev pub TestsAreReadToTheirEnd : Type 0
TestsAreReadToTheirEnd = (text : List ℕ) → (stop_of text ≡ (Operator, [])) ↔ IsTest text

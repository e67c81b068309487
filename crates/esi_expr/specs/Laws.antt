-- Laws of tests, over the definitions alone.
use Rattle.std.specs.Prelude.{◌≡◌, ◌↔◌, ℕ, List, Some}
use Rattle.esi_expr.specs.Tree.{Test}
use Rattle.esi_expr.specs.Reading.{read_test}
use Rattle.esi_expr.specs.Spelling.{IsTest}

-- what is read is what is spelled
abbrev pub ReadsTests : Type 0
ReadsTests = (text : List ℕ) (one : Test) → (read_test text ≡ Some one) ↔ IsTest one text

-- a text is at most one test
abbrev pub TestsAreOne : Type 0
TestsAreOne = (text : List ℕ) (one other : Test) → IsTest one text → IsTest other text → one ≡ other

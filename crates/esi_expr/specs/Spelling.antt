-- Which texts spell which test: the operators are those of the ESI Language Specification 1.0, "Expressions" and
-- "Operators"; their rank, the operands and the limits are our profile.
use Rattle.std.specs.Prelude.{◌≡◌, ℕ, ◌+◌, ◌≤◌, max, true, List, ◌++◌, codes}
use Rattle.std.specs.List.{AllPass}
use Rattle.edge_types.specs.WhiteSpace.{is_ws}
use Rattle.esi_vars.specs.Reference.{is_quoted_byte, IsReference}
use Rattle.esi_expr.specs.declared.expr.Comparison.{Comparison}
use Rattle.esi_expr.specs.declared.expr.Comparison.TheVariants as comparison
use Rattle.esi_expr.specs.declared.expr.Operand.{Operand}
use Rattle.esi_expr.specs.declared.expr.Operand.TheVariants as operand
use Rattle.esi_expr.specs.declared.reading.TheConstants.{NESTING_LIMIT}
use Rattle.esi_expr.specs.Numbers.{is_number}
use Rattle.esi_expr.specs.Tree.{Test, Single, Or, Conj, Sole, And, Neg, Not, Group, Filled, Compared}

-- these bytes, with white space or none before them
abbrev pub Padded : List ℕ → List ℕ → Type 0
Padded bytes piece = (ws : List ℕ) × AllPass is_ws ws × (piece ≡ ws ++ bytes)

-- the operators that compare
abbrev pub symbol : Comparison → List ℕ
symbol comparison.EqualTo = codes "=="
symbol comparison.Unequal = codes "!="
symbol comparison.AtMost = codes "<="
symbol comparison.AtLeast = codes ">="
symbol comparison.Below = codes "<"
symbol comparison.Above = codes ">"

-- a reference, bytes between two quotes, or a number
abbrev pub IsOperand : Operand → List ℕ → Type 0
IsOperand (operand.Reference reference) bytes = IsReference bytes reference
IsOperand (operand.Quoted text) bytes = AllPass is_quoted_byte text × (bytes ≡ codes "'" ++ (text ++ codes "'"))
IsOperand (operand.Number spelling) bytes = (is_number spelling ≡ true) × (bytes ≡ spelling)

-- an operand, with white space or none before it
abbrev pub SpellsOperand : Operand → List ℕ → Type 0
SpellsOperand one piece = (bytes : List ℕ) × IsOperand one bytes × Padded bytes piece

-- Comparisons bind tightest, then `!`, then `&`, then the bar. White space may come before each part.
abbrev mutual
  pub Spells : Test → List ℕ → Type 0
  Spells (Single only) piece = SpellsConj only piece
  Spells (Or front last) piece =
      (before : List ℕ) × (bar : List ℕ) × (after : List ℕ) × Spells front before × Padded (codes "|") bar × SpellsConj last after × (piece ≡ before ++ (bar ++ after))

  pub SpellsConj : Conj → List ℕ → Type 0
  SpellsConj (Sole only) piece = SpellsNeg only piece
  SpellsConj (And front last) piece =
      (before : List ℕ) × (sign : List ℕ) × (after : List ℕ) × SpellsConj front before × Padded (codes "&") sign × SpellsNeg last after × (piece ≡ before ++ (sign ++ after))

  pub SpellsNeg : Neg → List ℕ → Type 0
  SpellsNeg (Not inner) piece = (sign : List ℕ) × (after : List ℕ) × Padded (codes "!") sign × SpellsNeg inner after × (piece ≡ sign ++ after)
  SpellsNeg (Group inner) piece =
      (first : List ℕ) × (within : List ℕ) × (last : List ℕ) × Padded (codes "(") first × Spells inner within × Padded (codes ")") last × (piece ≡ first ++ (within ++ last))
  SpellsNeg (Filled only) piece = SpellsOperand only piece
  SpellsNeg (Compared left by right) piece =
      (before : List ℕ) × (sign : List ℕ) × (after : List ℕ) × SpellsOperand left before × Padded (symbol by) sign × SpellsOperand right after × (piece ≡ before ++ (sign ++ after))

-- the most `(` and `!` around an operand, counted together
abbrev mutual
  pub nesting : Test → ℕ
  nesting (Single only) = conj_nesting only
  nesting (Or front last) = max (nesting front) (conj_nesting last)

  pub conj_nesting : Conj → ℕ
  conj_nesting (Sole only) = neg_nesting only
  conj_nesting (And front last) = max (conj_nesting front) (neg_nesting last)

  pub neg_nesting : Neg → ℕ
  neg_nesting (Not inner) = 1 + neg_nesting inner
  neg_nesting (Group inner) = 1 + nesting inner
  neg_nesting (Filled only) = 0
  neg_nesting (Compared left by right) = 0

-- the text is this test: its spelling, and white space or none after it
pub record IsTest (one : Test) (text : List ℕ) : Type 0 where
  pub piece : List ℕ
  pub ws : List ℕ
  pub spelled : Spells one piece
  pub shallow : nesting one ≤ NESTING_LIMIT
  pub white : AllPass is_ws ws
  pub whole : text ≡ piece ++ ws

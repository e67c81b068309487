-- A test as a tree, without where it lies in memory.
use Rattle.esi_expr.specs.declared.expr.Comparison.{Comparison}
use Rattle.esi_expr.specs.declared.expr.Operand.{Operand}

mutual
  -- conjunctions with bars between them
  pub data Test : Type 0 where
    Single : (only : Conj) → Test
    Or : (front : Test) (last : Conj) → Test

  -- negations with `&` between them
  pub data Conj : Type 0 where
    Sole : (only : Neg) → Conj
    And : (front : Conj) (last : Neg) → Conj

  -- `!` before another, a test in parentheses, an operand alone, or two that are compared
  pub data Neg : Type 0 where
    Not : (inner : Neg) → Neg
    Group : (inner : Test) → Neg
    Filled : (only : Operand) → Neg
    Compared : (left : Operand) (by : Comparison) (right : Operand) → Neg

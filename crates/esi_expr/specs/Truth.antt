-- Whether a test holds (ESI Language Specification 1.0, "Expressions" and "Operators").
use Rattle.std.specs.Prelude.{ℕ, ℤ, Bool, true, false, not, ◌||◌, ◌&&◌, List, [], ◌∷◌, Option, Some}
use Rattle.std.specs.declared.cmp.Ordering.{Ordering}
use Rattle.std.specs.Ordering.{nat_cmp, int_cmp, is_eq, is_ne, is_le, is_ge, is_lt, is_gt}
use Rattle.std.specs.Cmp.Lexicographic.{slice_cmp}
use Rattle.edge_types.specs.declared.request.Request.{Request}
use Rattle.esi_vars.specs.Values.{value_of}
use Rattle.esi_expr.specs.declared.expr.Comparison.{Comparison}
use Rattle.esi_expr.specs.declared.expr.Comparison.TheVariants as comparison
use Rattle.esi_expr.specs.declared.expr.Operand.{Operand}
use Rattle.esi_expr.specs.declared.expr.Operand.TheVariants as operand
use Rattle.esi_expr.specs.Numbers.{number_of}
use Rattle.esi_expr.specs.Tree.{Test, Single, Or, Conj, Sole, And, Neg, Not, Group, Filled, Compared}

-- the text of an operand
abbrev pub text_of : Request → Operand → List ℕ
text_of request (operand.Reference reference) = value_of request reference
text_of request (operand.Quoted bytes) = bytes
text_of request (operand.Number spelling) = spelling

-- whether a comparison is true of this order
abbrev pub accepts : Comparison → Ordering → Bool
accepts comparison.EqualTo order = is_eq order
accepts comparison.Unequal order = is_ne order
accepts comparison.AtMost order = is_le order
accepts comparison.AtLeast order = is_ge order
accepts comparison.Below order = is_lt order
accepts comparison.Above order = is_gt order

-- the order of numbers, or else that of texts: the first byte that differs decides, and a prefix is less
abbrev pub order_by : Option ℤ → Option ℤ → List ℕ → List ℕ → Ordering
order_by (Some m) (Some n) left right = int_cmp m n
order_by _ _ left right = slice_cmp nat_cmp left right

-- the order of two texts: that of the numbers if both are numbers
unfoldable pub order_of : List ℕ → List ℕ → Ordering
order_of left right = order_by (number_of left) (number_of right) left right

-- whether a comparison of two texts is true: never if one is empty
abbrev pub compares : List ℕ → Comparison → List ℕ → Bool
compares [] by right = false
compares (b ∷ bs) by [] = false
compares (b ∷ bs) by (c ∷ cs) = accepts by (order_of (b ∷ bs) (c ∷ cs))

-- whether a text isn't empty
abbrev pub is_filled : List ℕ → Bool
is_filled [] = false
is_filled (b ∷ bs) = true

-- the truth of a test, of a conjunction and of a negation
unfoldable mutual
  pub holds : Request → Test → Bool
  holds request (Single only) = conj_holds request only
  holds request (Or front last) = holds request front || conj_holds request last

  pub conj_holds : Request → Conj → Bool
  conj_holds request (Sole only) = neg_holds request only
  conj_holds request (And front last) = conj_holds request front && neg_holds request last

  pub neg_holds : Request → Neg → Bool
  neg_holds request (Not inner) = not (neg_holds request inner)
  neg_holds request (Group inner) = holds request inner
  neg_holds request (Filled only) = is_filled (text_of request only)
  neg_holds request (Compared left by right) = compares (text_of request left) by (text_of request right)

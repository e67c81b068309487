-- A tag of a `when` whose test can be read.
use Rattle.std.proofs.Common.{◌≡◌, List, [], ◌∷◌, Some, refl}
use Rattle.esi_scanner.specs.declared.attribute.Attribute.{Attribute}
use Rattle.esi_scanner.specs.declared.attribute.AttributeName.TheVariants as named
use Rattle.esi_scanner.specs.declared.attribute.KnownAttribute.TheVariants as known
use Rattle.esi_expr.specs.declared.expr.Operand.TheVariants as operand
use Rattle.esi_expr.specs.Tree.{Test, Single, Sole, Filled}
use Rattle.esi_expr.specs.Reading.{read_test, test_with, conj_with, neg_at, plain_at, joined_at, after_sign, operand_at, comparison_at, digits_at}
use Rattle.esi_tree.specs.Attributes.{when_test}

-- attributes with a test, and the test
pub record Readable : Type 0 where
  pub attributes : List Attribute
  pub test : Test
  pub is : when_test attributes ≡ Some test

-- the attribute `test` with the value `1`
abbrev one : Attribute
one = record { name = named.Known known.Test; value = 49 ∷ [] }

pub readable : Readable
unfolding read_test test_with conj_with neg_at plain_at joined_at after_sign operand_at comparison_at digits_at
readable = record { attributes = one ∷ []; test = Single (Sole (Filled (operand.Number (49 ∷ [])))); is = refl }

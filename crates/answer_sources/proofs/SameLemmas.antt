-- Fields that compare as equal are the same.
use Rattle.std.proofs.Common.{◌≡◌, ◌∙◌, ◌==◌, true, List, refl, sym, ap, subst}
use Rattle.std.proofs.lemmas.Bool.{and_from, and_parts}
use Rattle.std.specs.Cmp.Lexicographic.{pointwise, pointwise_decides, bytes_decides}
use Rattle.edge_types.specs.HeadFields.{field_eq}
use Rattle.edge_types.specs.declared.head_fields.HeadField.{HeadField}

field_decides : (one other : HeadField) → (field_eq one other ≡ true → one ≡ other) × (one ≡ other → field_eq one other ≡ true)
field_decides one other = ((λ same. by_both (and_parts _ _ same)), (λ same. subst (λ f. field_eq one f ≡ true) same itself))
  where
    by_both : (pointwise ◌==◌ one.name other.name ≡ true) × (pointwise ◌==◌ one.value other.value ≡ true) → one ≡ other
    by_both both =
        ap (λ name. record { name = name; value = one.value }) ((bytes_decides one.name other.name).0 both.0)
        ∙ ap (λ value. record { name = other.name; value = value }) ((bytes_decides one.value other.value).0 both.1)

    itself : field_eq one one ≡ true
    itself = and_from _ _ ((bytes_decides one.name one.name).1 refl) ((bytes_decides one.value one.value).1 refl)

pub fields_decide : (one other : List HeadField) → (pointwise field_eq one other ≡ true → one ≡ other) × (one ≡ other → pointwise field_eq one other ≡ true)
fields_decide one other = pointwise_decides field_decides one other

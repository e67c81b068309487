-- A text of which nothing needs an escape.
use Rattle.std.proofs.Common.{◌≡◌, ◌==◌, ◌&&◌, ℕ, List, [], ◌∷◌, not, true, refl, ap}
use Rattle.std.specs.List.{list_all}
use Rattle.std.proofs.lemmas.Bool.{and_from, and_parts}
use Rattle.std.specs.Str.{byte}
use Rattle.access_log.specs.Escapes.{escaped, is_plain}
use Rattle.access_log.specs.Text.{is_printable}

pub stands_as_it_is : (prefix text : List ℕ) → list_all is_plain text ≡ true → escaped prefix text ≡ text
stands_as_it_is prefix [] plain = refl
stands_as_it_is prefix (b ∷ rest) plain =
    let both : (is_plain b ≡ true) × (list_all is_plain rest ≡ true) = and_parts (is_plain b) (list_all is_plain rest) plain in
    rw both.0 (ap (λ t. b ∷ t) (stands_as_it_is prefix rest both.1))

-- and which is printable
pub is_printed : (text : List ℕ) → list_all is_plain text ≡ true → list_all is_printable text ≡ true
is_printed [] plain = refl
is_printed (b ∷ rest) plain =
    let both : (is_plain b ≡ true) × (list_all is_plain rest ≡ true) = and_parts (is_plain b) (list_all is_plain rest) plain in
    let bare : (is_printable b && not (b == byte "\"") ≡ true) × (not (b == byte "\\") ≡ true) = and_parts _ _ both.0 in
    and_from (is_printable b) _ (and_parts (is_printable b) _ bare.0).0 (is_printed rest both.1)

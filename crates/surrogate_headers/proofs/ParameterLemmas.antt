-- Parameters.
use Rattle.std.proofs.Common.{◌≡◌, ℕ, Bool, false, ◌||◌, List, [], ◌∷◌, filter, refl, sym, ap, ◌∙◌}
use Rattle.std.specs.List.{list_any}
use Rattle.surrogate_headers.specs.Parameter.{is_filled}

-- what the empty list fails is as much among the lists that aren't empty as among all
pub any_filled : (p : List ℕ → Bool) → p [] ≡ false → (words : List (List ℕ)) → list_any p (filter is_filled words) ≡ list_any p words
any_filled p none [] = refl
any_filled p none ([] ∷ words) = any_filled p none words ∙ sym (ap (λ t. t || list_any p words) none)
any_filled p none ((b ∷ bs) ∷ words) = ap (λ t. p (b ∷ bs) || t) (any_filled p none words)

-- How the attributes of a tag are read, one at a time.
use Rattle.std.proofs.Common.{◌≡◌, ℕ, zero, suc, ◌<◌, ◌≤◌, List, [], ◌∷◌, ◌++◌, length, Some, None, refl, sym, ◌∙◌, ap, append_assoc, arith}
use Rattle.std.proofs.lemmas.List.{append-nil}
use Rattle.esi_scanner.specs.declared.attribute.Attribute.{Attribute}
use Rattle.esi_scanner.specs.Tag.{attribute_at, attributes_at}

-- these attributes, before those that were found
abbrev pub ahead : List Attribute → List Attribute × List ℕ → List Attribute × List ℕ
ahead front found = (front ++ found.0, found.1)

-- what is read of the text is what was read so far, and what is read of the rest
abbrev pub IsReadTo : List ℕ → List Attribute → List ℕ → Type 0
IsReadTo text front rest = (n : ℕ) × (length rest ≤ n) × (ahead front (attributes_at n rest) ≡ attributes_at (length text) text)

pub attributes-start : (text : List ℕ) → IsReadTo text [] text
attributes-start text = (length text, omega arith, refl)

pub attributes-some : (n : ℕ) (text rest : List ℕ) (a : Attribute) → attribute_at text ≡ Some (a, rest) → attributes_at (suc n) text ≡ ahead (a ∷ []) (attributes_at n rest)
unfolding attributes_at
attributes-some n text rest a is = rw is refl

pub attributes-none : (n : ℕ) (text : List ℕ) → attribute_at text ≡ None → attributes_at n text ≡ ([], text)
unfolding attributes_at
attributes-none zero text is = refl
attributes-none (suc n) text is = rw is refl

ahead-ahead : (front : List Attribute) (a : Attribute) (found : List Attribute × List ℕ) → ahead (front ++ a ∷ []) found ≡ ahead front (ahead (a ∷ []) found)
ahead-ahead front a found = ap (λ (items : List Attribute). (items, found.1)) (append_assoc front (a ∷ []) found.0)

pub attributes-step : (text : List ℕ) (front : List Attribute) (rest after : List ℕ) (a : Attribute) → attribute_at rest ≡ Some (a, after) → length after < length rest → IsReadTo text front rest → IsReadTo text (front ++ a ∷ []) after
attributes-step text front rest after a is shorter (zero, fits, so_far) = absurd (omega arith)
attributes-step text front rest after a is shorter (suc n, fits, so_far) =
    (n, omega arith, ahead-ahead front a (attributes_at n after) ∙ ap (ahead front) (sym (attributes-some n rest after a is)) ∙ so_far)

pub attributes-end : (text : List ℕ) (front : List Attribute) (rest : List ℕ) → attribute_at rest ≡ None → IsReadTo text front rest → (front, rest) ≡ attributes_at (length text) text
attributes-end text front rest is (n, fits, so_far) =
    ap (λ (items : List Attribute). (items, rest)) (sym (append-nil front)) ∙ ap (ahead front) (sym (attributes-none n rest is)) ∙ so_far

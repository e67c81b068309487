-- The lengths of pieces that are joined.
use Rattle.std.proofs.Common.{◌≡◌, ℕ, ◌+◌, ◌<◌, ◌≤◌, List, [], ◌∷◌, ◌++◌, length, take, drop, get_or, refl, sym, ◌∙◌, ap, arith, length-append, append-nil, ◌-◌}
use Rattle.std.proofs.lemmas.List.{take-append-drop, take_more, take_all, length-drop}
use Rattle.std.proofs.lemmas.List.Folds.{concat-append}
use Rattle.std.specs.List.{concat}
use Rattle.edge_types.specs.Pieces.{joined}

pub joined-append : (ps qs : List (List ℕ)) → length (joined (ps ++ qs)) ≡ length (joined ps) + length (joined qs)
joined-append ps qs = ap length (concat-append ps qs) ∙ length-append (concat ps) (concat qs)

pub joined-push : (ps : List (List ℕ)) (p : List ℕ) → length (joined (ps ++ p ∷ [])) ≡ length (joined ps) + length p
joined-push ps p = joined-append ps (p ∷ []) ∙ ap (λ n. length (joined ps) + n) (ap length (append-nil p))

pub joined-split : (n : ℕ) (ps : List (List ℕ)) → length (joined ps) ≡ length (joined (take n ps)) + length (joined (drop n ps))
joined-split n ps = ap (λ (qs : List (List ℕ)). length (joined qs)) (sym (take-append-drop n ps)) ∙ joined-append (take n ps) (drop n ps)

-- one piece more
pub joined-take_next : (i : ℕ) (ps : List (List ℕ)) (d : List ℕ) → i < length ps → length (joined (take (i + 1) ps)) ≡ length (joined (take i ps)) + length (get_or ps i d)
joined-take_next i ps d h = ap (λ (qs : List (List ℕ)). length (joined qs)) (take_more ps i d h) ∙ joined-push (take i ps) (get_or ps i d)

pub joined-take_le : (n : ℕ) (ps : List (List ℕ)) → length (joined (take n ps)) ≤ length (joined ps)
joined-take_le n ps = omega (arith, joined-split n ps)

-- one piece more, as a loop over the pieces adds it
pub joined-step : (ps : List (List ℕ)) (i total added : ℕ) (item : List ℕ) → i < length ps → total ≡ length (joined (take i ps)) → item ≡ get_or ps i item → added ≡ length item → total + added ≡ length (joined (take (i + 1) ps))
joined-step ps i total added item h t is same =
    let next : length (joined (take (i + 1) ps)) ≡ length (joined (take i ps)) + length (get_or ps i item) = joined-take_next i ps item h in
    let l : length item ≡ length (get_or ps i item) = ap length is in
    omega arith

-- the pieces from a mark on, as a slice gives them
pub rest-is_drop : (m : ℕ) (ps : List (List ℕ)) → take (length ps - m) (drop m ps) ≡ drop m ps
rest-is_drop m ps = take_all (length ps - m) (drop m ps) (omega (arith, length-drop m ps))

-- the bytes up to a mark and those from there on
pub joined-parts : (m len rest : ℕ) (ps slice kept : List (List ℕ)) → len ≡ length (joined ps) → slice ≡ ps → rest ≡ length (joined (take (length slice - m) (drop m slice))) → kept ≡ take m ps → length (joined kept) + rest ≡ len
joined-parts m len rest ps slice kept l s r k =
    let split : length (joined ps) ≡ length (joined (take m ps)) + length (joined (drop m ps)) = joined-split m ps in
    let kept_length : length (joined kept) ≡ length (joined (take m ps)) = ap (λ (qs : List (List ℕ)). length (joined qs)) k in
    let rest_length : rest ≡ length (joined (drop m ps)) = r ∙ ap (λ (qs : List (List ℕ)). length (joined (take (length qs - m) (drop m qs)))) s ∙ ap (λ (qs : List (List ℕ)). length (joined qs)) (rest-is_drop m ps) in
    omega arith

-- what is left from a mark on is no longer than the whole
pub joined-rest_le : (m len : ℕ) (ps slice : List (List ℕ)) → len ≡ length (joined ps) → slice ≡ ps → length (joined (take (length slice - m) (drop m slice))) ≤ len
joined-rest_le m len ps slice l s =
    omega (arith, joined-parts m len (length (joined (take (length slice - m) (drop m slice)))) ps slice (take m ps) l s refl refl)

-- one piece more at the end
pub joined-pushed : (before after : List (List ℕ)) (piece : List ℕ) (len added sum : ℕ) → len ≡ length (joined before) → added ≡ length piece → after ≡ before ++ piece ∷ [] → sum ≡ len + added → sum ≡ length (joined after)
joined-pushed before after piece len added sum l same pushed s =
    let after_length : length (joined after) ≡ length (joined before) + length piece = ap (λ (qs : List (List ℕ)). length (joined qs)) pushed ∙ joined-push before piece in
    omega arith

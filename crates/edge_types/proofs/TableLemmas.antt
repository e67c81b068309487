-- Where answers stand in a table.
use Rattle.std.proofs.Common.{◌≡◌, ◌≢◌, ℕ, ◌+◌, ◌<◌, ◌≤◌, Bool, true, false, List, [], ◌∷◌, ◌++◌, length, Option, Some, None, find, position, get_or, slice_get, refl, sym, ◌∙◌, ap, arith, nat_lt, cond, eqb, length-append}
use Rattle.std.proofs.lemmas.Grind.{common_steps}
use Rattle.std.proofs.lemmas.List.Folds.{find_at, position_or_len_push}
use Rattle.std.proofs.lemmas.List.Sums.{fails_before_first, position_or_len_is}
use Rattle.std.proofs.lemmas.Option.{slice_get_past, slice_get-get_or}
use Rattle.std.proofs.lemmas.List.Quantifiers.{position-Some, all_pairs_push}
use Rattle.std.proofs.lemmas.Slice.Eq.{bytes_eq-Decides}
use Rattle.std.specs.List.{position_or_len}
use Rattle.edge_types.specs.Answered.{Answered}
use Rattle.edge_types.specs.Table.{is_of, IsTable}
use Rattle.edge_types.proofs.PositionLemmas.{position_or_len-some, position_or_len-none}

pub find-none : {X : Type 0} (p : X → Bool) (xs : List X) → position p xs ≡ None → find p xs ≡ None
find-none p xs e = find_at p xs ∙ ap (slice_get xs) (position_or_len-none p xs e) ∙ slice_get_past xs (length xs) (omega arith)

pub find-some : {X : Type 0} (p : X → Bool) (xs : List X) (at : ℕ) (d : X) → position p xs ≡ Some at → find p xs ≡ Some (get_or xs at d)
find-some p xs at d e = find_at p xs ∙ ap (slice_get xs) (position_or_len-some p xs at e) ∙ slice_get-get_or xs at d (position-Some p xs at d e).0

pub position-none : {X : Type 0} (p : X → Bool) (xs : List X) → find p xs ≡ None → position p xs ≡ None
position-none p [] e = refl
position-none p (x ∷ xs) e = by_place (position p (x ∷ xs)) refl
  where
    by_place : (at : Option ℕ) → position p (x ∷ xs) ≡ at → position p (x ∷ xs) ≡ None
    by_place None is = is
    by_place (Some at) is = let found : find p (x ∷ xs) ≡ Some (get_or (x ∷ xs) at x) = find-some p (x ∷ xs) at x is in cc

below : (n i len : ℕ) → n ≡ i → i < len → cond (nat_lt n len) (Some n) None ≡ Some i
below n i len e h = grind (arith, common_steps)

past : (n len : ℕ) → len ≤ n → cond (nat_lt n len) (Some n) None ≡ None
past n len h = grind (arith, common_steps)

pub position-push_found : {X : Type 0} (p : X → Bool) (xs : List X) (y : X) → position p xs ≡ None → p y ≡ true → position p (xs ++ y ∷ []) ≡ Some (length xs)
position-push_found p xs y e h =
    below (position_or_len p (xs ++ y ∷ [])) (length xs) (length (xs ++ y ∷ []))
    (position_or_len_push p xs y ∙ here (position_or_len p xs) (length xs) (p y) (position_or_len-none p xs e) h)
    (omega (arith, length-append xs (y ∷ [])))
  where
    here : (n len : ℕ) (b : Bool) → n ≡ len → b ≡ true → cond (eqb n len) (len + cond b 0 1) n ≡ len
    here n len true same is = grind (arith, common_steps)
    here n len false same is = absurd (cc)

some_below : (n len at : ℕ) → cond (nat_lt n len) (Some n) None ≡ Some at → at < len
some_below n len at e = by_test (nat_lt n len) refl e
  where
    by_test : (b : Bool) → nat_lt n len ≡ b → cond b (Some n) None ≡ Some at → at < len
    by_test true is e = let same : n ≡ at = cc in grind (arith, common_steps)
    by_test false is e = absurd (cc)

pub position-push_other : {X : Type 0} (p : X → Bool) (xs : List X) (y : X) → p y ≡ false → position p (xs ++ y ∷ []) ≡ position p xs
position-push_other {X} p xs y h = by_place (position p xs) refl
  where
    absent : (n len : ℕ) (b : Bool) → n ≡ len → b ≡ false → cond (eqb n len) (len + cond b 0 1) n ≡ len + 1
    absent n len true same is = absurd (cc)
    absent n len false same is = grind (arith, common_steps)

    present : (n len m : ℕ) → n < len → cond (eqb n len) m n ≡ n
    present n len m below = grind (arith, common_steps)

    by_place : (at : Option ℕ) → position p xs ≡ at → position p (xs ++ y ∷ []) ≡ position p xs
    by_place None is =
        let end : position_or_len p (xs ++ y ∷ []) ≡ length xs + 1 = position_or_len_push p xs y ∙ absent (position_or_len p xs) (length xs) (p y) (position_or_len-none p xs is) h in
        past (position_or_len p (xs ++ y ∷ [])) (length (xs ++ y ∷ [])) (omega (arith, length-append xs (y ∷ []))) ∙ sym is
    by_place (Some at) is =
        let within : at < length xs = some_below (position_or_len p xs) (length xs) at is in
        let place : position_or_len p xs ≡ at = position_or_len-some p xs at is in
        let same : position_or_len p (xs ++ y ∷ []) ≡ at = position_or_len_push p xs y ∙ present (position_or_len p xs) (length xs) (length xs + cond (p y) 0 1) (omega arith) ∙ place in
        below (position_or_len p (xs ++ y ∷ [])) at (length (xs ++ y ∷ [])) same (omega (arith, length-append xs (y ∷ []))) ∙ sym is

-- no element passes where there is no place
pub fails : {X : Type 0} (p : X → Bool) (xs : List X) → position p xs ≡ None → (k : ℕ) (d : X) → k < length xs → p (get_or xs k d) ≡ false
fails p xs e k d h = fails_before_first p xs k d (let end : position_or_len p xs ≡ length xs = position_or_len-none p xs e in omega arith)

-- an answer of a URL that has none keeps the table a table
pub IsTable-push : (answers : List Answered) (answer : Answered) → position (is_of answer.url) answers ≡ None → IsTable answers → IsTable (answers ++ answer ∷ [])
IsTable-push answers answer e once =
    all_pairs_push (λ earlier later. earlier.url ≢ later.url) answers answer once (λ k d h same.
    let differs : is_of answer.url (get_or answers k d) ≡ false = fails (is_of answer.url) answers e k d h in
    true_is_not_false (sym ((bytes_eq-Decides (get_or answers k d).url answer.url).1 same) ∙ differs))
  where
    true_is_not_false : true ≡ false → ⊥
    true_is_not_false e = cc

-- an element that passes, with none that passes before it
pub position-is : {X : Type 0} (p : X → Bool) (xs : List X) (at : ℕ) (d : X) → at < length xs → p (get_or xs at d) ≡ true → ((k : ℕ) → k < at → p (get_or xs k d) ≡ false) → position p xs ≡ Some at
position-is p xs at d within passes before =
    below (position_or_len p xs) at (length xs) (position_or_len_is p xs at d (omega arith) before (λ _. passes)) within

pub position-push_kept : {X : Type 0} (p : X → Bool) (xs : List X) (y : X) (at : ℕ) → position p xs ≡ Some at → position p (xs ++ y ∷ []) ≡ Some at
position-push_kept p xs y at e =
    let within : at < length xs = some_below (position_or_len p xs) (length xs) at e in
    let place : position_or_len p xs ≡ at = position_or_len-some p xs at e in
    let same : position_or_len p (xs ++ y ∷ []) ≡ at = position_or_len_push p xs y ∙ still (position_or_len p xs) (length xs) (length xs + cond (p y) 0 1) (omega arith) ∙ place in
    below (position_or_len p (xs ++ y ∷ [])) at (length (xs ++ y ∷ [])) same (omega (arith, length-append xs (y ∷ [])))
  where
    still : (n len m : ℕ) → n < len → cond (eqb n len) m n ≡ n
    still n len m h = grind (arith, common_steps)

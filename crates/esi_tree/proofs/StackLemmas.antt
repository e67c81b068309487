-- A stack that is kept as a list whose last item is the top.
use Rattle.std.proofs.Common.{◌≡◌, ℕ, ◌-◌, ◌<◌, true, false, IsSome, List, [], ◌∷◌, ◌++◌, length, get_or, set, map, reverse, slice_get, Option, Some, None, option_map, option_to_list, IfNone, IfSome, refl, sym, ◌∙◌, ap, arith}
use Rattle.std.proofs.lemmas.List.{reverse-append, reverse-reverse, length-append, length-map, map-append}
use Rattle.std.proofs.lemmas.Option.{slice_get-map}
use Rattle.std.proofs.Math.Seq.{set-append_seam}

slice_get-push : {X : Type 0} (front : List X) (top : X) → slice_get (front ++ top ∷ []) (length front) ≡ Some top
slice_get-push [] top = refl
slice_get-push (x ∷ front) top = slice_get-push front top

top-reverse : {X : Type 0} (xs turned : List X) → reverse xs ≡ turned → slice_get xs (length xs - 1) ≡ slice_get turned 0
top-reverse xs [] e =
    let is : xs ≡ [] = sym (reverse-reverse xs) ∙ ap reverse e in
    rw is refl
top-reverse xs (top ∷ rest) e =
    let is : xs ≡ reverse rest ++ top ∷ [] = sym (reverse-reverse xs) ∙ ap reverse e ∙ reverse-append (top ∷ []) rest in
    let place : length xs - 1 ≡ length (reverse rest) = omega (arith, ap length is, length-append (reverse rest) (top ∷ [])) in
    rw place (rw is (slice_get-push (reverse rest) top))

-- the top
pub top-is : {X Y : Type 0} (f : X → Y) (xs : List X) → option_map f (slice_get xs (length xs - 1)) ≡ slice_get (reverse (map f xs)) 0
top-is f xs =
    sym (slice_get-map f xs (length xs - 1))
    ∙ ap (λ n. slice_get (map f xs) (n - 1)) (sym (length-map xs f))
    ∙ top-reverse (map f xs) (reverse (map f xs)) refl

-- one more on top
pub pushed-is : {X Y : Type 0} (f : X → Y) (xs : List X) (x : X) → reverse (map f (xs ++ x ∷ [])) ≡ f x ∷ reverse (map f xs)
pushed-is f xs x = ap reverse (map-append f xs (x ∷ [])) ∙ reverse-append (map f xs) (f x ∷ [])

-- no top to take off
pub popped-none : {X Y : Type 0} (f : X → Y) (r : Option X) (old new : List X) → old ≡ new ++ option_to_list r → (0 < length old → IsSome r)
    → IfNone r ((reverse (map f old) ≡ []) × (reverse (map f new) ≡ []))
popped-none f None [] [] is some = (refl, refl)
popped-none f None [] (y ∷ new) is some = absurd (cc)
popped-none f None (x ∷ old) new is some = let none : false ≡ true = some (omega arith) in absurd (cc)
popped-none f (Some x) old new is some = tt

-- the top taken off
pub popped-some : {X Y : Type 0} (f : X → Y) (r : Option X) (old new : List X) → old ≡ new ++ option_to_list r → IfSome r (λ x. reverse (map f old) ≡ f x ∷ reverse (map f new))
popped-some f None old new is = tt
popped-some f (Some x) old new is = ap (λ xs. reverse (map f xs)) is ∙ pushed-is f new x

get_or-push : {X : Type 0} (front : List X) (top d : X) → get_or (front ++ top ∷ []) (length front) d ≡ top
get_or-push [] top d = refl
get_or-push (x ∷ front) top d = get_or-push front top d

-- two stacks that differ in their tops
pub record Topped {Y : Type 0} (old new : List Y) (a b : Y) : Type 0 where
  pub rest : List Y
  pub old_is : old ≡ a ∷ rest
  pub new_is : new ≡ b ∷ rest

topped-reverse : {X Y : Type 0} (f : X → Y) (xs turned : List X) (n : ℕ) (x y : X) → reverse xs ≡ turned → n ≡ length xs → 0 < n → x ≡ get_or xs (n - 1) x
    → Topped (reverse (map f xs)) (reverse (map f (set xs (n - 1) y))) (f x) (f y)
topped-reverse f xs [] n x y e long some at =
    let is : xs ≡ [] = sym (reverse-reverse xs) ∙ ap reverse e in
    absurd (omega (arith, ap length is))
topped-reverse f xs (top ∷ rest) n x y e long some at =
    let is : xs ≡ reverse rest ++ top ∷ [] = sym (reverse-reverse xs) ∙ ap reverse e ∙ reverse-append (top ∷ []) rest in
    let place : n - 1 ≡ length (reverse rest) = omega (arith, ap length is, length-append (reverse rest) (top ∷ [])) in
    let found : x ≡ top = at ∙ ap (λ i. get_or xs i x) place ∙ ap (λ ys. get_or ys (length (reverse rest)) x) is ∙ get_or-push (reverse rest) top x in
    let put : set xs (n - 1) y ≡ reverse rest ++ y ∷ [] = ap (λ i. set xs i y) place ∙ ap (λ ys. set ys (length (reverse rest)) y) is ∙ set-append_seam (reverse rest) top [] y in
    record {
      rest = reverse (map f (reverse rest));
      old_is = ap (λ ys. reverse (map f ys)) is ∙ pushed-is f (reverse rest) top ∙ ap (λ z. f z ∷ reverse (map f (reverse rest))) (sym found);
      new_is = ap (λ ys. reverse (map f ys)) put ∙ pushed-is f (reverse rest) y;
    }

-- another value on top
pub topped : {X Y : Type 0} (f : X → Y) (xs : List X) (n : ℕ) (x y : X) → n ≡ length xs → 0 < n → x ≡ get_or xs (n - 1) x
    → Topped (reverse (map f xs)) (reverse (map f (set xs (n - 1) y))) (f x) (f y)
topped f xs n x y long some at = topped-reverse f xs (reverse xs) n x y refl long some at

-- no top
pub none-left : {X : Type 0} (xs : List X) → (0 < length xs → false ≡ true) → xs ≡ []
none-left [] none = refl
none-left (x ∷ xs) none = let wrong : false ≡ true = none (omega arith) in absurd (cc)

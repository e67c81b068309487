-- The log of a board by number: the answers of its filled slots, in order of filling.
use Rattle.std.proofs.Common.{◌≡◌, ℕ, zero, suc, ◌+◌, ◌≤◌, ◌==◌, Bool, true, false, cond, List, [], ◌∷◌, slice_get, Option, Some, None, is_some, IsSome, option_and_then, refl, sym, ◌∙◌, ap, subst, arith, filter_map, zero-add}
use Rattle.std.proofs.lemmas.Bool.{eq-eqb}
use Rattle.std.proofs.lemmas.List.Sums.{sum_by-append}
use Rattle.std.specs.List.{AllByRecursion, count_by, cons_option}
use Rattle.edge_types.specs.Answered.{Answered}
use Rattle.answer_board.specs.Board.{State, answer_at, log_of}
use Rattle.answer_board.specs.Sound.{IsBoard, one_if}

counted : (x n : ℕ) (xs : List ℕ) → count_by (λ m. m == n) (x ∷ xs) ≡ cond (x == n) 1 0 + count_by (λ m. m == n) xs
counted x n xs = sum_by-append (λ m. cond (m == n) 1 0) (x ∷ []) xs ∙ ap (λ (k : ℕ). k + count_by (λ m. m == n) xs) (zero-add (cond (x == n) 1 0))

module _ (f : ℕ → Option Answered) where
  -- numbers that are counted where they give an answer all give one
  all_give : (xs : List ℕ) → ((n : ℕ) → count_by (λ m. m == n) xs ≤ one_if (is_some (f n))) → AllByRecursion (λ n. IsSome (f n)) xs
  all_give [] few = tt
  all_give (x ∷ xs) few = (here (is_some (f x)) refl, all_give xs (λ n. let sum = counted x n xs in let most = few n in omega arith))
    where
      here : (b : Bool) → is_some (f x) ≡ b → is_some (f x) ≡ true
      here true is = is
      here false is =
          let sum : count_by (λ m. m == x) (x ∷ xs) ≡ 1 + count_by (λ m. m == x) xs = counted x x xs ∙ ap (λ (b : Bool). cond b 1 0 + count_by (λ m. m == x) xs) (eq-eqb x x refl) in
          let none : count_by (λ m. m == x) (x ∷ xs) ≤ 0 = subst (λ (b : Bool). count_by (λ m. m == x) (x ∷ xs) ≤ one_if b) is (few x) in
          absurd (omega (arith, sum, none))

  given : (x : ℕ) (xs : List ℕ) (o : Option Answered) → f x ≡ o → IsSome (f x) → (i : ℕ) → ((k : ℕ) → slice_get (filter_map f xs) k ≡ option_and_then f (slice_get xs k))
      → slice_get (cons_option o (filter_map f xs)) i ≡ option_and_then f (slice_get (x ∷ xs) i)
  given x xs None is some i later = let none : is_some (f x) ≡ false = ap is_some is in absurd (cc)
  given x xs (Some a) is some zero later = sym is
  given x xs (Some a) is some (suc i) later = later i

  all_at : (xs : List ℕ) → AllByRecursion (λ n. IsSome (f n)) xs → (i : ℕ) → slice_get (filter_map f xs) i ≡ option_and_then f (slice_get xs i)
  all_at [] all zero = refl
  all_at [] all (suc i) = refl
  all_at (x ∷ xs) all i = given x xs (f x) refl all.0 i (all_at xs all.1)

-- the answer of this number in the log
pub log_at : (b : State) → IsBoard b → (i : ℕ) → slice_get (log_of b) i ≡ option_and_then (answer_at b.slots) (slice_get b.filled i)
log_at b sound i = all_at (answer_at b.slots) b.filled (all_give (answer_at b.slots) b.filled (λ n. omega (arith, sound.once n))) i

-- The place of the first element that passes a test, where there is one.
use Rattle.std.proofs.Common.{◌≡◌, ℕ, ◌≤◌, Bool, true, false, List, length, position, Some, None, arith, cond, nat_lt, refl}
use Rattle.std.proofs.lemmas.Grind.{common_steps}
use Rattle.std.proofs.lemmas.List.Sums.{prefix_len-le-length}
use Rattle.std.specs.List.{position_or_len}

some : (b : Bool) (m n : ℕ) → cond b (Some n) None ≡ Some m → n ≡ m
some true m n e = cc
some false m n e = cc

none : (b : Bool) (n : ℕ) → cond b (Some n) None ≡ None → b ≡ false
none true n e = cc
none false n e = refl

-- where the first such element stands, told by `position`
pub position_or_len-some : {X : Type 0} (p : X → Bool) (xs : List X) (at : ℕ) → position p xs ≡ Some at → position_or_len p xs ≡ at
position_or_len-some p xs at e = some (nat_lt (position_or_len p xs) (length xs)) at (position_or_len p xs) e

-- no such element: the length
pub position_or_len-none : {X : Type 0} (p : X → Bool) (xs : List X) → position p xs ≡ None → position_or_len p xs ≡ length xs
position_or_len-none p xs e =
    let past : nat_lt (position_or_len p xs) (length xs) ≡ false = none _ (position_or_len p xs) e in
    let within : position_or_len p xs ≤ length xs = prefix_len-le-length _ xs in
    grind (arith, common_steps)

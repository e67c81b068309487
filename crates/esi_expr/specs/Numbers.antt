-- Texts that are numbers, and which number each is.
use Rattle.std.specs.Prelude.{ℕ, ℤ, pos, neg_ℤ, Bool, true, false, ◌&&◌, ◌==◌, nat_lt, nat_le, List, [], ◌∷◌, length, Option, Some, None, if◌then◌else◌}
use Rattle.std.specs.Str.{byte}
use Rattle.std.specs.List.{list_all}
use Rattle.std.specs.Char.{is_ascii_digit}
use Rattle.std.specs.Str.Parse.{digits_value}
use Rattle.esi_expr.specs.declared.number.TheConstants.{DIGIT_LIMIT}

-- whether a number may have this many digits: 1 to 18
abbrev pub is_digit_count : ℕ → Bool
is_digit_count n = nat_lt 0 n && nat_le n DIGIT_LIMIT

-- 1 to 18 digits
abbrev pub are_digits : List ℕ → Bool
are_digits digits = is_digit_count (length digits) && list_all is_ascii_digit digits

-- whether a text begins with a minus
abbrev pub is_negative : List ℕ → Bool
is_negative [] = false
is_negative (b ∷ bs) = b == byte "-"

-- what follows the minus, if the text begins with one
abbrev pub after_minus : List ℕ → List ℕ
after_minus [] = []
after_minus (b ∷ bs) = if b == byte "-" then bs else b ∷ bs

-- an optional minus and 1 to 18 digits
abbrev pub is_number : List ℕ → Bool
is_number text = are_digits (after_minus text)

-- the number with this sign
abbrev pub signed : Bool → ℕ → ℤ
signed true n = neg_ℤ (pos n)
signed false n = pos n

-- the number that a text is, in the decimal system, if it is one
unfoldable pub number_of : List ℕ → Option ℤ
number_of text = if is_number text then Some (signed (is_negative text) (digits_value 10 (after_minus text))) else None

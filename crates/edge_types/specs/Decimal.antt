-- Decimal numbers: one digit or more, with any number of leading zeros.
use Rattle.std.specs.Prelude.{◌≡◌, ◌↔◌, ◌≤◌, ◌&&◌, nat_lt, nat_le, ℕ, Bool, List, length, Option, Some, None, if◌then◌else◌}
use Rattle.std.specs.List.{list_all}
use Rattle.std.specs.Char.{is_ascii_digit}
use Rattle.std.specs.Str.Parse.{IsNumeral, digits_value}

-- the text writes this number
abbrev pub WritesNumber : List ℕ → ℕ → Type 0
WritesNumber text n = IsNumeral 10 text × (digits_value 10 text ≡ n)

abbrev pub is_decimal : List ℕ → Bool
is_decimal text = nat_lt 0 (length text) && list_all is_ascii_digit text

-- the number that a text writes, if it is at most the limit
unfoldable pub decimal_of : List ℕ → ℕ → Option ℕ
decimal_of text most = if is_decimal text && nat_le (digits_value 10 text) most then Some (digits_value 10 text) else None

-- what is read from a text is the number that it writes, if that is at most the limit, and each such number is read
abbrev pub ReadsNumbers : Type 0
ReadsNumbers = (text : List ℕ) (most n : ℕ) → (decimal_of text most ≡ Some n) ↔ (WritesNumber text n × (n ≤ most))

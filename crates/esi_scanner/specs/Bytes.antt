-- Which bytes a tag is made of.
use Rattle.std.specs.Prelude.{ℕ, Bool, false, not, ◌||◌, ◌==◌, nat_eq, List, [], ◌∷◌, drop, ◌+◌, length, Option, Some, None, if◌then◌else◌, option_and_then, option_map}
use Rattle.std.specs.Str.{byte}
use Rattle.std.specs.List.{starts_with, prefix_len}
use Rattle.std.specs.Char.{is_ascii_alphanumeric}
use Rattle.std.specs.Borrow.{Bor}
use Rattle.edge_types.specs.WhiteSpace.{is_ws}
use Rattle.edge_types.specs.Halves.{lent_pair}
-- the white space at the front of a text
pub use Rattle.edge_types.specs.WhiteSpace.{ws_len, after_ws}

-- any byte but white space, `/` and `>`
abbrev pub is_element_byte : ℕ → Bool
is_element_byte b = not (is_ws b || b == byte "/" || b == byte ">")

-- a letter, a digit, `-`, `_`, `:` or `.`
abbrev pub is_attribute_byte : ℕ → Bool
is_attribute_byte b = is_ascii_alphanumeric b || b == byte "-" || b == byte "_" || b == byte ":" || b == byte "."

-- `"` or `'`
abbrev pub is_quote : ℕ → Bool
is_quote b = b == byte "\"" || b == byte "'"

-- the first byte is white space
abbrev pub begins_ws : List ℕ → Bool
begins_ws [] = false
begins_ws (b ∷ bs) = is_ws b

-- how many bytes of an element's name are there
abbrev pub element_len : List ℕ → ℕ
element_len text = prefix_len is_element_byte text

-- how many bytes of an attribute's name are there
abbrev pub attribute_len : List ℕ → ℕ
attribute_len text = prefix_len is_attribute_byte text

-- whether the text begins with these bytes
abbrev pub begins_with : List ℕ → List ℕ → Bool
begins_with text bytes = starts_with nat_eq text bytes

-- what follows these bytes, if the text begins with them
abbrev pub after_bytes : List ℕ → List ℕ → Option (List ℕ)
after_bytes text bytes = if begins_with text bytes then Some (drop (length bytes) text) else None

-- how many bytes are before the first place from which the text passes the test
abbrev pub bytes_before : (List ℕ → Bool) → List ℕ → ℕ
bytes_before test [] = 0
bytes_before test (b ∷ bs) = if test (b ∷ bs) then 0 else bytes_before test bs + 1

-- one reader after another: the second reads on if the first found something
infixl 10 ◌>>=◌
abbrev pub ◌>>=◌ : {A B : Type 0} → Option A → (A → Option B) → Option B
o >>= f = option_and_then f o

-- what a reader of the code returns, without where its bytes lie in memory
abbrev pub shown : {A : Type 0} → Option (A × Bor (List ℕ)) → Option (A × List ℕ)
shown None = None
shown (Some found) = Some (found.0, found.1.now)

-- what such a reader returns that finds bytes
abbrev pub shown_pair : Option (Bor (List ℕ) × Bor (List ℕ)) → Option (List ℕ × List ℕ)
shown_pair found = option_map lent_pair found

-- Tokens (RFC 9110, section 5.6.2).
use Rattle.std.specs.Prelude.{ℕ, Bool, ◌&&◌, ◌||◌, ◌==◌, nat_lt, List, length, codes}
use Rattle.std.specs.List.{list_all, list_any}
use Rattle.std.specs.Char.{is_ascii_alphanumeric}

-- a letter, a digit or one of these marks
unfoldable pub is_token_byte : ℕ → Bool
is_token_byte b = is_ascii_alphanumeric b || list_any (λ mark. mark == b) (codes "!#$%&'*+-.^_`|~")

-- one or more such bytes
unfoldable pub is_token : List ℕ → Bool
is_token text = nat_lt 0 (length text) && list_all is_token_byte text

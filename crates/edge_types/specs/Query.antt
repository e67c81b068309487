-- The query string of a request's target.
use Rattle.std.specs.Prelude.{ℕ, ◌==◌, List}
use Rattle.std.specs.Str.{byte}
use Rattle.std.specs.List.{before_first, after_first}

-- of the text before its first `#`, what follows the first `?`
abbrev pub query_of : List ℕ → List ℕ
query_of text = after_first (λ b. b == byte "?") (before_first (λ b. b == byte "#") text)

-- What a journal gets of a request.
use Rattle.std.specs.Prelude.{◌≡◌, ◌⊎◌, ℕ, List, []}

-- a text as it is, or nothing where there is no memory for it
abbrev pub IsCopyOrEmpty : List ℕ → List ℕ → Type 0
IsCopyOrEmpty text copy = (copy ≡ text) ⊎ (copy ≡ [])

-- The reference at the front of a text, read part by part from the left.
use Rattle.std.specs.Prelude.{ℕ, Bool, ◌==◌, List, [], ◌∷◌, take, drop, Option, Some, None, option_and_then, option_map, if◌then◌else◌}
use Rattle.std.specs.Str.{byte}
use Rattle.std.specs.List.{prefix_len}
use Rattle.edge_types.specs.Halves.{around}
-- what is before the first such byte, and what follows that byte
unfoldable pub use Rattle.edge_types.specs.Halves.{around as cut_at}
use Rattle.esi_vars.specs.declared.reference.Reference.{Reference}
use Rattle.esi_vars.specs.Reference.{is_name_byte, is_key_byte, is_default_byte, variable_of}

-- one step of a reading after another
infixl 10 ◌>>=◌
abbrev pub ◌>>=◌ : {A B : Type 0} → Option A → (A → Option B) → Option B
o >>= f = option_and_then f o

-- the name, the key and the default of a reference, as they are written
pub record Written : Type 0 where
  pub name : List ℕ
  pub key : Option (List ℕ)
  pub default : Option (List ℕ)

-- the reference that is written like this
abbrev pub reference_of : Written → Reference
reference_of w = record { variable = variable_of w.name; key = w.key; default = w.default }

-- what follows this byte at the front
abbrev pub after_byte : ℕ → List ℕ → Option (List ℕ)
after_byte c [] = None
after_byte c (b ∷ bs) = if b == c then Some bs else None

-- the longest run of bytes that pass at the front, if there is one, and what follows it
unfoldable pub run_at : (ℕ → Bool) → List ℕ → Option (List ℕ × List ℕ)
run_at p text = if prefix_len p text == 0 then None else Some (take (prefix_len p text) text, drop (prefix_len p text) text)

-- a key, from after its opening quote on
unfoldable pub quoted_key_at : List ℕ → Option (List ℕ × List ℕ)
quoted_key_at text = do
  key ← run_at is_key_byte text
  rest ← after_byte (byte "'") key.1
  Some (key.0, rest)

-- a key, with its quotes or without
abbrev pub key_text_at : List ℕ → Option (List ℕ × List ℕ)
key_text_at [] = None
key_text_at (b ∷ bs) = if b == byte "'" then quoted_key_at bs else run_at is_key_byte (b ∷ bs)

-- a key, from after its opening brace on
unfoldable pub braced_key_at : List ℕ → Option (Option (List ℕ) × List ℕ)
braced_key_at text = do
  key ← key_text_at text
  rest ← after_byte (byte "}") key.1
  Some (Some key.0, rest)

-- the key of a reference, if it has one
abbrev pub key_at : List ℕ → Option (Option (List ℕ) × List ℕ)
key_at [] = Some (None, [])
key_at (b ∷ bs) = if b == byte "{" then braced_key_at bs else Some (None, b ∷ bs)

-- a default, with its quotes or without
abbrev pub default_text_at : List ℕ → Option (List ℕ × List ℕ)
default_text_at [] = None
default_text_at (b ∷ bs) = if b == byte "'" then around (byte "'") bs else run_at is_default_byte (b ∷ bs)

-- a default, from after its bar on
unfoldable pub barred_default_at : List ℕ → Option (Option (List ℕ) × List ℕ)
barred_default_at text = do
  default ← default_text_at text
  Some (Some default.0, default.1)

-- the default of a reference, if it has one
abbrev pub default_at : List ℕ → Option (Option (List ℕ) × List ℕ)
default_at [] = Some (None, [])
default_at (b ∷ bs) = if b == byte "|" then barred_default_at bs else Some (None, b ∷ bs)

-- the parts of a reference, from after its `$(` on
unfoldable pub body_at : List ℕ → Option (Written × List ℕ)
body_at text = do
  name ← run_at is_name_byte text
  key ← key_at name.1
  default ← default_at key.1
  rest ← after_byte (byte ")") default.1
  Some (record { name = name.0; key = key.0; default = default.0 }, rest)

-- the parts of the reference at the front, and what follows it
abbrev pub written_at : List ℕ → Option (Written × List ℕ)
written_at [] = None
written_at (b ∷ []) = None
written_at (b ∷ c ∷ cs) = if b == byte "$" then (if c == byte "(" then body_at cs else None) else None

-- the reference at the front, and what follows it
unfoldable pub reference_at : List ℕ → Option (Reference × List ℕ)
reference_at text = option_map (λ w. (reference_of w.0, w.1)) (written_at text)

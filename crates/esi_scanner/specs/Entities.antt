-- Attribute values, in which `&amp;` and the like denote single bytes.
use Rattle.std.specs.Prelude.{ℕ, zero, suc, List, [], ◌∷◌, length, codes, Option, Some, None, find}
use Rattle.std.specs.Str.{byte}
use Rattle.esi_scanner.specs.declared.entity.Entity.{Entity}
use Rattle.esi_scanner.specs.declared.entity.Entity.TheVariants.{Amp, Lt, Gt, Quot, Apos}
use Rattle.esi_scanner.specs.Bytes.{begins_with, after_bytes, ◌>>=◌}

-- how an entity is spelled
abbrev pub entity_text : Entity → List ℕ
entity_text Amp = codes "&amp;"
entity_text Lt = codes "&lt;"
entity_text Gt = codes "&gt;"
entity_text Quot = codes "&quot;"
entity_text Apos = codes "&apos;"

-- the byte that it denotes
abbrev pub entity_byte : Entity → ℕ
entity_byte Amp = byte "&"
entity_byte Lt = byte "<"
entity_byte Gt = byte ">"
entity_byte Quot = byte "\""
entity_byte Apos = byte "'"

-- all entities
abbrev pub entities : List Entity
entities = Amp ∷ Lt ∷ Gt ∷ Quot ∷ Apos ∷ []

-- the entity at the front of a text
unfoldable pub entity_at : List ℕ → Option Entity
entity_at text = find (λ entity. begins_with text (entity_text entity)) entities

-- the byte of the entity that was found at the front, else the first byte itself
abbrev pub entity_or_byte : List ℕ → Option Entity → Option (ℕ × List ℕ)
entity_or_byte [] None = None
entity_or_byte (b ∷ bs) None = Some (b, bs)
entity_or_byte raw (Some entity) = after_bytes raw (entity_text entity) >>= λ rest. Some (entity_byte entity, rest)

-- the first byte of the value that a raw text spells, and the raw text of the others
unfoldable pub letter_at : List ℕ → Option (ℕ × List ℕ)
letter_at raw = entity_or_byte raw (entity_at raw)

-- the first byte, and those of what follows it
abbrev pub then_letters : (List ℕ → List ℕ) → Option (ℕ × List ℕ) → List ℕ
then_letters others None = []
then_letters others (Some first) = first.0 ∷ others first.1

-- the value's first n bytes
unfoldable pub letters_of : ℕ → List ℕ → List ℕ
letters_of zero raw = []
letters_of (suc n) raw = then_letters (λ rest. letters_of n rest) (letter_at raw)

-- the value of a raw text, decoded once from the left; it has no more bytes than the raw text
unfoldable pub decoded : List ℕ → List ℕ
decoded raw = letters_of (length raw) raw

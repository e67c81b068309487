-- The entity tag of what is sent.
use Rattle.std.specs.Prelude.{ℕ, List, ◌++◌, codes}
use Rattle.edge_types.specs.Pieces.{joined}
use Rattle.hex.specs.Hex.{encode_lower}
use Rattle.sha2.specs.Sha256.{sha256}

-- a strong tag: in quotes the digest of the bytes that are sent (RFC 9110, section 8.8.3; FIPS 180-4)
abbrev pub entity_tag : List (List ℕ) → List ℕ
entity_tag frames = codes "\"" ++ encode_lower (sha256 (joined frames)) ++ codes "\""

-- The name by which origins and other edges know this edge.
use Rattle.std.specs.Prelude.{◌≡◌, ℕ, ◌≤◌, true, List, [], ◌∷◌, ◌++◌, length, codes, Option, Some, None}
use Rattle.edge_types.specs.Token.{is_token}
use Rattle.surrogate_headers.specs.Capability.{own_device}

-- a token of at most 64 characters (RFC 9110, "Tokens"; the most is our profile)
pub record IsName (text : List ℕ) : Type 0 where
  pub is_one : is_token text ≡ true
  pub within : length text ≤ 64

-- the device that the edge is: its name, or else the token of every edge
abbrev pub device_of : Option (List ℕ) → List ℕ
device_of None = own_device
device_of (Some name) = name

-- the way of a request that has passed these edges: through them, and then through this one (RFC 8586, section 2). One without
-- a name says nothing of it
abbrev pub way_behind : List ℕ → Option (List ℕ) → Option (List ℕ)
way_behind passed None = None
way_behind [] (Some name) = None
way_behind (byte ∷ bytes) (Some name) = Some ((byte ∷ bytes) ++ codes ", " ++ name)

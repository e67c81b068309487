-- Which origin is asked for an authority, and where.
use Rattle.std.specs.Prelude.{ℕ, List, codes, bytes_eq, slice_get, map, Option, option_map}
use Rattle.std.specs.List.{position}
use Rattle.std.specs.Option.{option_or}
use Rattle.std.specs.declared.net.socket_addr.SocketAddr.{SocketAddr}
use Rattle.origins.specs.declared.origin.Origin.{Origin}

-- where the first origin stands that has the authority, byte for byte
abbrev pub own_place_of : List Origin → List ℕ → Option ℕ
own_place_of origins authority = position (λ (origin : Origin). bytes_eq origin.authority.items authority) origins

-- and where none has it, the first for any
abbrev pub place_of : List Origin → List ℕ → Option ℕ
place_of origins authority = option_or (own_place_of origins authority) (own_place_of origins (codes "*"))

-- where the origin at a place listens
abbrev pub address_at : List Origin → ℕ → Option SocketAddr
address_at origins place = option_map (λ (origin : Origin). origin.address) (slice_get origins place)

-- the authorities, in order
abbrev pub authorities_of : List Origin → List (List ℕ)
authorities_of origins = map (λ (origin : Origin). origin.authority.items) origins

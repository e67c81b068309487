-- Where origins listen, and which of them can't be reached. Our profile.
use Rattle.std.specs.Prelude.{ℕ, Bool, true, false, List, slice_get, slice_set, Option, Some, None, option_map, unwrap_or}
use Rattle.std.specs.List.{list_any}
use Rattle.std.specs.Option.{option_map_or}
use Rattle.std.specs.declared.net.socket_addr.SocketAddr.{SocketAddr}
use Rattle.origin_lookup.specs.declared.standings.Standing.{Standing}

-- an origin that listens here and can be reached
abbrev pub standing : SocketAddr → Standing
standing address = record { address = address; is_lost = false }

-- where the origin at a place listens
abbrev pub address_at : List Standing → ℕ → Option SocketAddr
address_at standings place = option_map (λ (s : Standing). s.address) (slice_get standings place)

-- it can't be reached
abbrev pub is_lost_at : List Standing → ℕ → Bool
is_lost_at standings place = option_map_or (λ (s : Standing). s.is_lost) (slice_get standings place) false

-- one of them can't
abbrev pub has_lost : List Standing → Bool
has_lost standings = list_any (λ (s : Standing). s.is_lost) standings

-- the same standings, but for the one at a place, if there is one
abbrev pub changed_from : (Standing → Standing) → ℕ → List Standing → Option Standing → List Standing
changed_from change place standings None = standings
changed_from change place standings (Some s) = slice_set standings place (change s)

abbrev pub changed : (Standing → Standing) → ℕ → List Standing → List Standing
changed change place standings = changed_from change place standings (slice_get standings place)

-- a connection to the origin at a place couldn't be made: where it listens stays
abbrev pub lost : ℕ → List Standing → List Standing
lost place standings = changed (λ s. record s { is_lost = true }) place standings

-- its name was looked up: it listens where that was found, or where it did
abbrev pub looked_up : ℕ → Option SocketAddr → List Standing → List Standing
looked_up place found standings = changed (λ s. standing (unwrap_or found s.address)) place standings

-- The client for whom a proxy asks, by a field such as `x-forwarded-for`.
use Rattle.std.specs.Prelude.{◌≡◌, ℕ, ◌+◌, List, [], ◌∷◌, ◌++◌, drop, Option, None, Some, ◌⊎◌}
use Rattle.std.specs.Option.{option_or}
use Rattle.std.specs.Str.{byte}
use Rattle.std.specs.Net.Grammar.{IsIpText}
use Rattle.std.specs.declared.net.ip_addr.IpAddr.{IpAddr}
use Rattle.memchr.specs.Find.{IsLastByte, is_byte}
use Rattle.http_header.specs.FieldValue.{FieldValue}
use Rattle.edge_types.specs.Blanks.{trimmed}

-- what follows this place of a list, or all of it
abbrev pub after : Option ℕ → List ℕ → List ℕ
after None list = list
after (Some place) list = drop (place + 1) list

-- what follows the last comma of a list, or all of it where it has none
abbrev pub IsLastMember : List ℕ → List ℕ → Type 0
IsLastMember list member = (comma : Option ℕ) × IsLastByte (is_byte (byte ",")) list comma × (member ≡ after comma list)

-- the address that a text writes, by std's grammar
abbrev pub IsAddressIn : List ℕ → Option IpAddr → Type 0
IsAddressIn text None = (address : IpAddr) → IsIpText text address → ⊥
IsAddressIn text (Some address) = IsIpText text address

-- the client that a line of the field reports: its last member, which the nearest proxy has added
abbrev pub ReportsClient : List ℕ → Option IpAddr → Type 0
ReportsClient line client = (member : List ℕ) × IsLastMember line member × IsAddressIn (trimmed member) client

-- the client that the lines of the field report: the last one counts
abbrev pub Forwards : List FieldValue → Option IpAddr → Type 0
Forwards lines client = ((lines ≡ []) × (client ≡ None)) ⊎ ((before : List FieldValue) × (line : FieldValue) × (lines ≡ before ++ line ∷ []) × ReportsClient line.bytes client)

-- the client of a request with these lines of the field over a connection from this peer: the one that they report, else the peer
abbrev pub IsClient : List FieldValue → Option IpAddr → Option IpAddr → Type 0
IsClient lines peer client = (reported : Option IpAddr) × Forwards lines reported × (client ≡ option_or reported peer)

-- Which requests are the operator's own: of a program, or of a page that the operator opened here, and not of another site's
-- page, which a browser sends in the operator's name.
use Rattle.std.specs.Prelude.{◌≡◌, ◌⊎◌, ℕ, Bool, true, not, ◌&&◌, ◌||◌, ◌==◌, bytes_eq, List, [], ◌∷◌, length, take, drop, codes, unwrap_or}
use Rattle.std.specs.List.{list_all, list_any, slice_split}
use Rattle.std.specs.Net.Grammar.{IsIpv4Text, IsIpv6Text}
use Rattle.std.specs.Option.{option_map}
use Rattle.std.specs.Str.{byte, str_eq_ignore_ascii_case}
use Rattle.std.specs.declared.net.ipv4_addr.Ipv4Addr.{Ipv4Addr}
use Rattle.std.specs.declared.net.ipv6_addr.Ipv6Addr.{Ipv6Addr}
use Rattle.edge_types.specs.Halves.{around}
use Rattle.http_header.specs.FieldValue.{FieldValue}
use Rattle.http_header.specs.HeaderMap.{Entries, ContainsKey, get_all}
use Rattle.operator_http.specs.declared.hosts.HostNames.{HostNames}
use Rattle.operator_http.specs.Operator.{Answers, asked_by}
use Rattle.operator_http.specs.declared.asked.Asked.TheVariants as asked
use Rattle.http.specs.declared.response.Response.{Response}
use Rattle.http_body_util.specs.declared.full.Full.{Full}

-- ---- hosts

-- names of hosts, as they were written
abbrev pub names_of : HostNames → List ℕ
names_of names = names.text.items

-- the text before the first of this byte, or all of it
unfoldable pub before : ℕ → List ℕ → List ℕ
before mark text = unwrap_or (option_map (λ halves. halves.0) (around mark text)) text

-- the text is an IP address
abbrev pub IsIpv4 : List ℕ → Type 0
IsIpv4 text = (address : Ipv4Addr) × IsIpv4Text text address

abbrev pub IsIpv6 : List ℕ → Type 0
IsIpv6 text = (address : Ipv6Addr) × IsIpv6Text text address

-- the host of an authority is an IPv6 address, in brackets (RFC 3986, section 3.2.2)
abbrev pub IsLiteral : List ℕ → Type 0
IsLiteral authority = (bytes_eq (take 1 authority) (codes "[") ≡ true) × IsIpv6 (before (byte "]") (drop 1 authority))

abbrev pub is_comma : ℕ → Bool
is_comma b = b == byte ","

-- a name is that of this host: names of hosts have no case (RFC 3986, section 3.2.2)
unfoldable pub is_named : List ℕ → List ℕ → Bool
is_named host name = not (length name == 0) && str_eq_ignore_ascii_case host name

-- the host is one of these names, between which commas stand
unfoldable pub is_among : List ℕ → List ℕ → Bool
is_among names host = list_any (is_named host) (slice_split is_comma names)

-- The host of an authority, whatever its port (section 3.2.3), is an IP address, `localhost`, or one of the names: none that
-- another site's server of names can make an address of this server.
abbrev pub IsOwnHost : List ℕ → List ℕ → Type 0
IsOwnHost names authority =
    IsLiteral authority
    ⊎ IsIpv4 (before (byte ":") authority)
    ⊎ (is_named (before (byte ":") authority) (codes "localhost") ≡ true)
    ⊎ (is_among names (before (byte ":") authority) ≡ true)

-- The lines of `Host` name such a host. There is one at most (RFC 9112, section 3.2); no browser sends none, and some checks
-- by HTTP/1.0 do.
abbrev pub NameOwnHost : List ℕ → List FieldValue → Type 0
NameOwnHost names [] = Unit {0}
NameOwnHost names (host ∷ []) = IsOwnHost names host.bytes
NameOwnHost names (host ∷ other ∷ more) = ⊥

-- ---- requests

-- a value of `Sec-Fetch-Site` that no other site causes (Fetch Metadata Request Headers, "The Sec-Fetch-Site HTTP Request
-- Header")
abbrev pub is_own_site : List ℕ → Bool
is_own_site site = bytes_eq site (codes "none") || bytes_eq site (codes "same-origin")

abbrev pub is_of_own_site : Entries FieldValue → Bool
is_of_own_site fields = list_all (λ (site : FieldValue). is_own_site site.bytes) (get_all fields (codes "sec-fetch-site"))

-- the fields are those of a request of the operator's own
pub record IsOwn (names : List ℕ) (fields : Entries FieldValue) : Type 0 where
  -- RFC 6454, section 7
  pub no_origin : ¬ (ContainsKey fields (codes "origin"))
  pub own_site : is_of_own_site fields ≡ true
  pub own_host : NameOwnHost names (get_all fields (codes "host"))

-- the response says what fits: to a request of the operator's own what it asks for, and to another that it is none
pub record Replies (names : List ℕ) (fields : Entries FieldValue) (method path query : List ℕ) (response : Response (Full (List ℕ))) : Type 0 where
  pub own : IsOwn names fields → Answers (asked_by method path) query response
  pub foreign : ¬ (IsOwn names fields) → Answers asked.Foreign query response

-- What one word of `--origin` means: the authority of requests, and where its origin listens.
use Rattle.std.specs.Prelude.{◌≡◌, ◌⊎◌, ℕ, Bool, false, not, nat_eq, ◌&&◌, ◌||◌, ◌==◌, nat_le, length, List, ◌++◌, codes, bytes_eq, Option, Some, None, option_and_then, if◌then◌else◌}
use Rattle.std.specs.Borrow.{Bor}
use Rattle.std.specs.Str.{byte}
use Rattle.std.specs.List.{list_all, list_any, ends_with}
use Rattle.std.specs.Net.Grammar.{IsSocketText}
use Rattle.std.specs.declared.net.socket_addr.SocketAddr.{SocketAddr}
use Rattle.clap.specs.Words.{Text}
use Rattle.edge_types.specs.Decimal.{decimal_of}
use Rattle.edge_types.specs.Asked.{asked, authority_of}
use Rattle.edge_types.specs.Halves.{around}
use Rattle.edge_setup.specs.declared.origin.Place.{Place}
use Rattle.edge_setup.specs.declared.origin.Place.TheVariants as place
use Rattle.edge_setup.specs.declared.origin.OriginFault.{OriginFault}
use Rattle.edge_setup.specs.declared.origin.OriginFault.TheVariants as fault

-- ---- authorities

abbrev pub has_byte : ℕ → Text → Bool
has_byte wanted text = list_any (λ b. b == wanted) text

-- the URL that is nothing but `http://` and this authority has it, byte for byte
abbrev has_authority : Text → Option (List ℕ) → Bool
has_authority authority None = false
has_authority authority (Some url) = bytes_eq (authority_of url) authority

abbrev pub is_url_authority : Text → Bool
is_url_authority authority = has_authority authority (asked None (codes "http://" ++ authority))

-- what requests may be for: `*` for each authority that has no origin of its own, or an authority that URLs have; one
-- that only contains a `*` would be read as a pattern, which it isn't
abbrev pub is_authority : Text → Bool
is_authority authority = if has_byte (byte "*") authority then bytes_eq authority (codes "*") else is_url_authority authority

abbrev pub is_capital : ℕ → Bool
is_capital b = nat_le (byte "A") b && nat_le b (byte "Z")

-- what to write instead of what is no authority
abbrev pub advice_of : Text → OriginFault
advice_of authority =
    if has_byte (byte "*") authority then fault.Star
    else (if has_byte (byte "/") authority then fault.More
    else (if ends_with nat_eq authority (codes ":80") then fault.Port
    else (if list_any is_capital authority then fault.Letters
    else fault.More)))

abbrev pub authority_fault : Text → Option OriginFault
authority_fault authority = if is_authority authority then None else Some (advice_of authority)

-- ---- places

-- letters, digits, `-`, `.` and `_`
abbrev pub is_name_byte : ℕ → Bool
is_name_byte b =
    is_capital b || (nat_le (byte "a") b && nat_le b (byte "z")) || (nat_le (byte "0") b && nat_le b (byte "9"))
    || b == byte "-" || b == byte "." || b == byte "_"

abbrev pub is_name : Text → Bool
is_name text = not (length text == 0) && list_all is_name_byte text

abbrev named_host : Text → ℕ → Option (Text × ℕ)
named_host host port = if is_name host then Some (host, port) else None

-- the name of a host and, behind a colon, a port
abbrev pub host_at : Text → Option (Text × ℕ)
host_at text = option_and_then (λ halves. option_and_then (named_host halves.0) (decimal_of halves.1 65535)) (around (byte ":") text)

-- what the code lends of it
abbrev pub shown_host : Option (Bor Text × ℕ) → Option (Text × ℕ)
shown_host None = None
shown_host (Some found) = Some (found.0.now, found.1)

-- the text is no address, by std's grammar
abbrev pub IsNoAddress : Text → Type 0
IsNoAddress text = (address : SocketAddr) → IsSocketText text address → ⊥

-- the text says that an origin listens there
abbrev pub IsPlace : Text → Place → Type 0
IsPlace text (place.Address address) = IsSocketText text address
IsPlace text (place.Host host port) = IsNoAddress text × (host_at text ≡ Some (host.items, port))

abbrev pub IsNoPlace : Text → Type 0
IsNoPlace text = (p : Place) → IsPlace text p → ⊥

-- ---- words

-- what is before and behind the word's first `=`
abbrev IsCut : Text → Text → Text → Type 0
IsCut word authority last = around (byte "=") word ≡ Some (authority, last)

-- the authority is none, with this advice
abbrev pub IsBadAuthority : Text → OriginFault → Type 0
IsBadAuthority word advice = (authority : Text) × (last : Text) × IsCut word authority last × (authority_fault authority ≡ Some advice)

-- the place is none
abbrev pub IsBadPlace : Text → Type 0
IsBadPlace word = (authority : Text) × (last : Text) × IsCut word authority last × IsNoPlace last

-- this is wrong with the word
abbrev pub IsFaultOf : Text → OriginFault → Type 0
IsFaultOf word f = ((f ≡ fault.Form) × (around (byte "=") word ≡ None)) ⊎ (((f ≡ fault.Place) × IsBadPlace word) ⊎ IsBadAuthority word f)

-- the line for the words
abbrev pub refusal_of : OriginFault → Text
refusal_of fault.Form = codes "error: --origin takes AUTHORITY=ADDR, as a.test=127.0.0.1:8080"
refusal_of fault.Place = codes "error: --origin takes an address with a port after the `=`, as 127.0.0.1:8080, or the name of a host with one, as backend.internal:8080"
refusal_of fault.Star = codes "error: --origin takes one authority, or `*` alone for each that has no --origin of its own: there is no `*` within one"
refusal_of fault.More = codes "error: --origin takes an authority as URLs have it: only the host, and the port unless that is 80, as a.test or a.test:8080; no `http://`, no `/` and no blank"
refusal_of fault.Port = codes "error: --origin takes an authority as URLs have it: without `:80`, as a.test"
refusal_of fault.Letters = codes "error: --origin takes an authority as URLs have it: in lower case, as a.test"
refusal_of fault.Twice = codes "error: --origin takes each authority once"

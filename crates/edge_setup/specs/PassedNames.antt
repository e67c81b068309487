-- Which fields of an origin's answer may be passed on to the reader of its page, by their names.
use Rattle.std.specs.Prelude.{Bool, not, ◌&&◌, ◌||◌, nat_le, List, [], ◌∷◌, length, codes}
use Rattle.std.specs.List.{list_all, list_any, slice_split}
use Rattle.std.specs.Str.{str_eq_ignore_ascii_case}
use Rattle.clap.specs.Words.{Text}
use Rattle.edge_types.specs.Blanks.{trimmed}
use Rattle.edge_types.specs.Token.{is_token}
use Rattle.edge_setup.specs.Lists.{is_comma}

-- a name is one of these, whatever the case of its letters (RFC 9110, "Field Names")
abbrev pub is_among : List Text → Text → Bool
is_among names name = list_any (λ known. str_eq_ignore_ascii_case name known) names

-- a field that is about one connection, and not for whoever is behind it (RFC 9110, "Connection", "Proxy-Authenticate",
-- "Proxy-Authorization", "Trailer")
abbrev pub is_connection_field : Text → Bool
is_connection_field name = is_among
    (codes "connection" ∷ codes "keep-alive" ∷ codes "proxy-authenticate" ∷ codes "proxy-authorization" ∷ codes "proxy-connection"
    ∷ codes "te" ∷ codes "trailer" ∷ codes "transfer-encoding" ∷ codes "upgrade" ∷ []) name

-- a field that the edge itself writes or reads
abbrev pub is_own_field : Text → Bool
is_own_field name = is_among
    (codes "content-encoding" ∷ codes "content-length" ∷ codes "content-type" ∷ codes "date"
    ∷ codes "surrogate-capability" ∷ codes "surrogate-control" ∷ []) name

-- the field that sets a cookie: an answer that is kept is anybody's, so only a private one may have it
abbrev pub sets_cookie : Text → Bool
sets_cookie name = str_eq_ignore_ascii_case name (codes "set-cookie")

-- the name of a field that may be passed, where there are private URLs or none: another token (RFC 9110, "Tokens"), of at
-- most 64 bytes
abbrev pub may_pass : Bool → Text → Bool
may_pass has_private name =
    is_token name && nat_le (length name) 64 && not (is_connection_field name) && not (is_own_field name) && (has_private || not (sets_cookie name))

-- names of such fields, with commas between, and blanks around each
unfoldable pub are_passed : Bool → Text → Bool
are_passed has_private text = list_all (λ name. may_pass has_private (trimmed name)) (slice_split is_comma text)

-- Which fields a request to an origin may carry besides those that the edge itself sets, by their names.
use Rattle.std.specs.Prelude.{Bool, not, ◌&&◌, [], ◌∷◌, map, codes}
use Rattle.std.specs.Char.{to_ascii_lowercase}
use Rattle.clap.specs.Words.{Text}
use Rattle.edge_setup.specs.PassedNames.{is_among, is_connection_field}

-- a name in lower case, which stands for the same field (RFC 9110, "Field Names")
abbrev pub lowered : Text → Text
lowered name = map to_ascii_lowercase name

-- a field that the edge itself sets or that tells of a body, which its requests don't have (RFC 9110, "Host", "Content-Length",
-- "Content-Type", "Expect", "Accept-Encoding"; RFC 8586; Edge Architecture Specification 1.0), and the reader's cookies, which
-- go by their names
abbrev pub is_edge_field : Text → Bool
is_edge_field name = is_among
    (codes "accept-encoding" ∷ codes "cdn-loop" ∷ codes "content-length" ∷ codes "content-type" ∷ codes "cookie"
    ∷ codes "expect" ∷ codes "host" ∷ codes "surrogate-capability" ∷ []) name

-- a field by which the answer isn't the whole of what the URL has (RFC 9110, "Conditional Requests", "Range Requests")
abbrev pub is_condition_field : Text → Bool
is_condition_field name = is_among
    (codes "if-match" ∷ codes "if-modified-since" ∷ codes "if-none-match" ∷ codes "if-range" ∷ codes "if-unmodified-since"
    ∷ codes "range" ∷ []) name

-- the name of another field, and of none of a connection
abbrev pub may_carry : Text → Bool
may_carry name = not (is_connection_field name) && not (is_edge_field name) && not (is_condition_field name)

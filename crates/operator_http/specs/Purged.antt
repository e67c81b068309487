-- Which answers the query of a purge wants to go.
use Rattle.std.specs.Prelude.{ℕ, List, length, take, drop, codes, bytes_eq, ◌==◌, Option, Some, None, if◌then◌else◌}
use Rattle.std.specs.Option.{option_map}
use Rattle.edge_types.specs.Asked.{asked}
use Rattle.percent_encoding.specs.Percent.{percent_decode}
use Rattle.operator_http.specs.declared.purge.Purge.{Purge}
use Rattle.operator_http.specs.declared.purge.Purge.TheVariants as purge

-- the URL that a text denotes, once its escapes are replaced by their bytes (RFC 3986, section 2.1)
abbrev pub of_url : List ℕ → Option Purge
of_url text = option_map purge.Url (asked None (percent_decode text))

-- the same of the bytes that URLs begin with, which aren't none
abbrev pub of_prefix : List ℕ → Option Purge
of_prefix text = if length (percent_decode text) == 0 then None else Some (purge.Prefix (percent_decode text))

-- `url=` or `prefix=`, and a text
abbrev pub purged_by : List ℕ → Option Purge
purged_by query =
    if bytes_eq (take 4 query) (codes "url=") then of_url (drop 4 query)
    else (if bytes_eq (take 7 query) (codes "prefix=") then of_prefix (drop 7 query)
    else None)

-- the query of a target that has one, else the empty one
abbrev pub query_or_empty : Option (List ℕ) → List ℕ
query_or_empty (Some query) = query
query_or_empty None = codes ""

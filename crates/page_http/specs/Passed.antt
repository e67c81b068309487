-- Which edges a request has passed, by its lines of `CDN-Loop` (RFC 8586, section 2).
use Rattle.std.specs.Prelude.{ℕ, Bool, ◌&&◌, ◌==◌, bytes_eq, List, codes, unwrap_or}
use Rattle.std.specs.List.{slice_split, list_any, join_by}
use Rattle.std.specs.Option.{option_map}
use Rattle.std.specs.Str.{byte}
use Rattle.edge_types.specs.Blanks.{trimmed}
use Rattle.edge_types.specs.Halves.{around}
use Rattle.page_http.specs.Head.{values_of}
use Rattle.page_http.specs.declared.field.Field.{Field}

-- the edge that a member of the list names: what is before its parameters, without the blanks around it
unfoldable pub edge_of : List ℕ → List ℕ
edge_of member = trimmed (unwrap_or (option_map (λ halves. halves.0) (around (byte ";") member)) member)

-- a member of the list names this edge
unfoldable pub lists : List ℕ → List ℕ → Bool
lists name value = list_any (λ member. bytes_eq (edge_of member) name) (slice_split (λ b. b == byte ",") value)

-- one of the lines does
unfoldable pub has_passed : List ℕ → List Field → Bool
has_passed name fields = list_any (λ field. bytes_eq field.name.now (codes "cdn-loop") && lists name field.value.now) fields

-- all edges that a request has passed: its lines as one, separated by `, ` (RFC 9110, section 5.3)
abbrev pub passed_edges : List Field → List ℕ
passed_edges fields = join_by (λ line. line) (codes ", ") (values_of (codes "cdn-loop") fields)

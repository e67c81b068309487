-- Which of a request's cookies have these names (RFC 6265, "The Cookie Header").
use Rattle.std.specs.Prelude.{ℕ, Bool, false, ◌==◌, bytes_eq, List, map, filter, codes, unwrap_or}
use Rattle.std.specs.List.{slice_split, list_any, join_by}
use Rattle.std.specs.Option.{option_map}
use Rattle.std.specs.Str.{byte}
use Rattle.edge_types.specs.Blanks.{trimmed}
use Rattle.edge_types.specs.Halves.{around}
use Rattle.page_http.specs.Head.{cookies_of}
use Rattle.page_http.specs.declared.field.Field.{Field}

-- a member of the list is this name: commas stand between its members, and blanks around each
unfoldable pub is_member : List ℕ → List ℕ → Bool
is_member names name = list_any (λ member. bytes_eq (trimmed member) name) (slice_split (λ b. b == byte ",") names)

-- it is a cookie, and what is before its first `=`, without the blanks around it, is a name of the list
unfoldable pub has_name : List ℕ → List ℕ → Bool
has_name names cookie = unwrap_or (option_map (λ halves. is_member names (trimmed halves.0)) (around (byte "=") cookie)) false

-- what stands between the semicolons of a line, without the blanks around each
abbrev pub pairs_in : List ℕ → List (List ℕ)
pairs_in line = map trimmed (slice_split (λ b. b == byte ";") line)

-- those cookies of a line that have one of these names, as they came, separated by `; `
abbrev pub named_in : List ℕ → List ℕ → List ℕ
named_in names line = join_by (λ cookie. cookie) (codes "; ") (filter (has_name names) (pairs_in line))

-- those of a request, whose lines of `Cookie` count as one
abbrev pub cookies_named : List ℕ → List Field → List ℕ
cookies_named names fields = named_in names (cookies_of fields)

-- Fields that are cut into parts: cookies, queries and languages.
use Rattle.std.specs.Prelude.{ℕ, Bool, ◌==◌, List, [], ◌∷◌, map, codes, bytes_eq, unwrap_or, if◌then◌else◌}
use Rattle.std.specs.List.{slice_split, list_any}
use Rattle.std.specs.Str.{byte, str_eq_ignore_ascii_case}
use Rattle.edge_types.specs.Blanks.{trimmed}
use Rattle.edge_types.specs.Halves.{around}

-- the parts of a field between such bytes
abbrev pub parts_between : ℕ → List ℕ → List (List ℕ)
parts_between c field = slice_split (λ b. b == c) field

-- what is before the first such byte and what follows it; without one, the whole and nothing
unfoldable pub halves : ℕ → List ℕ → List ℕ × List ℕ
halves c text = unwrap_or (around c text) (text, [])

-- the value of the first part `name=value` with this name, or nothing
unfoldable pub named : List ℕ → List (List ℕ) → List ℕ
named key [] = []
named key (part ∷ parts) = if bytes_eq (halves (byte "=") part).0 key then (halves (byte "=") part).1 else named key parts

-- the value of a cookie: parts between `;`, trimmed
unfoldable pub cookie_value : List ℕ → List ℕ → List ℕ
cookie_value key field = named key (map trimmed (parts_between (byte ";") field))

-- the value of a query's name: parts between `&`, nothing decoded
unfoldable pub query_value : List ℕ → List ℕ → List ℕ
query_value key field = named key (parts_between (byte "&") field)

-- whether a part of the language field, up to its `;` and trimmed, is the language, ignoring ASCII case
unfoldable pub names_language : List ℕ → List ℕ → Bool
names_language language part = str_eq_ignore_ascii_case (trimmed (halves (byte ";") part).0) language

-- `true` if a part between `,` names the language, else nothing
unfoldable pub language_value : List ℕ → List ℕ → List ℕ
language_value language field =
    if list_any (names_language language) (parts_between (byte ",") field) then codes "true" else []

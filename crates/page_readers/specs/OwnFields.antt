-- What a source is told of a reader.
use Rattle.std.specs.Prelude.{ℕ, List, [], ◌∷◌, ◌++◌, codes, Option, Some, None}
use Rattle.edge_types.specs.declared.head_fields.HeadField.{HeadField}
use Rattle.page_http.specs.Cookies.{cookies_named}
use Rattle.page_http.specs.NamedLines.{lines_named}
use Rattle.page_http.specs.declared.field.Field.{Field}

-- the lines of the fields that are named
abbrev pub named_lines : Option (List ℕ) → List Field → List HeadField
named_lines None fields = []
named_lines (Some names) fields = lines_named names fields

-- the cookies that are named
abbrev pub named_cookies : Option (List ℕ) → List Field → List ℕ
named_cookies None fields = []
named_cookies (Some names) fields = cookies_named names fields

-- the line of some cookies (RFC 6265, section 5.4)
abbrev pub cookie_line : List ℕ → HeadField
cookie_line cookies = record { name = codes "cookie"; value = cookies }

-- none where there is no cookie
abbrev pub cookie_lines : List ℕ → List HeadField
cookie_lines [] = []
cookie_lines (byte ∷ bytes) = cookie_line (byte ∷ bytes) ∷ []

-- the fields of a request that are its reader's own: those that are named, and the cookies that are
abbrev pub own_fields : Option (List ℕ) → Option (List ℕ) → List Field → List HeadField
own_fields names cookies fields = named_lines names fields ++ cookie_lines (named_cookies cookies fields)

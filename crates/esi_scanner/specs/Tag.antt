-- Tags, read from the front of a text.
use Rattle.std.specs.Prelude.{ℕ, zero, suc, Bool, true, false, not, ◌&&◌, nat_lt, List, [], ◌∷◌, take, drop, length, map, codes, bytes_eq, Option, Some, None, if◌then◌else◌}
use Rattle.std.specs.List.{list_any}
use Rattle.edge_types.specs.Halves.{around}
use Rattle.edge_types.specs.WhiteSpace.{ws_len, after_ws}
use Rattle.esi_scanner.specs.declared.element_name.ElementName.{ElementName}
use Rattle.esi_scanner.specs.declared.attribute.Attribute.{Attribute}
use Rattle.esi_scanner.specs.declared.attribute.KnownAttribute.{KnownAttribute}
use Rattle.esi_scanner.specs.declared.tag.Tag.{Tag}
use Rattle.esi_scanner.specs.Names.{element_of, is_named, attribute_text, attribute_name_of}
use Rattle.esi_scanner.specs.Bytes.{is_quote, element_len, attribute_len, after_bytes, bytes_before, begins_with, ◌>>=◌}
use Rattle.esi_scanner.specs.Entities.{decoded}

-- white space, at least one byte of it, and an attribute's name, at least one byte of it; and what follows
unfoldable pub name_at : List ℕ → Option (List ℕ × List ℕ)
name_at text =
    let after = after_ws text in
    let n = attribute_len after in
    if nat_lt 0 (ws_len text) && nat_lt 0 n then Some (take n after, drop n after) else None

-- what follows `=`, which may have white space on both sides
unfoldable pub equals_at : List ℕ → Option (List ℕ)
equals_at text = do
  after ← after_bytes (after_ws text) (codes "=")
  Some (after_ws after)

-- the bytes between two equal quotes
unfoldable pub quoted_at : List ℕ → Option (List ℕ × List ℕ)
quoted_at [] = None
quoted_at (b ∷ bs) = if is_quote b then around b bs else None

-- an attribute, with the white space before it
unfoldable pub attribute_at : List ℕ → Option (Attribute × List ℕ)
attribute_at text = do
  name ← name_at text
  value ← equals_at name.1
  quoted ← quoted_at value
  Some (record { name = attribute_name_of name.0; value = decoded quoted.0 }, quoted.1)

-- the first attribute and those after it, if one was found
abbrev pub then_attributes : (List ℕ → List Attribute × List ℕ) → List ℕ → Option (Attribute × List ℕ) → List Attribute × List ℕ
then_attributes others text None = ([], text)
then_attributes others text (Some first) = let found = others first.1 in (first.0 ∷ found.0, found.1)

-- as many attributes as there are, at most n, and what follows them
unfoldable pub attributes_at : ℕ → List ℕ → List Attribute × List ℕ
attributes_at zero text = ([], text)
attributes_at (suc n) text = then_attributes (λ rest. attributes_at n rest) text (attribute_at text)

-- no two are equal
abbrev pub all_distinct : List (List ℕ) → Bool
all_distinct [] = true
all_distinct (name ∷ names) = not (list_any (bytes_eq name) names) && all_distinct names

-- the names of attributes, as bytes
abbrev pub names_of : List Attribute → List (List ℕ)
names_of attributes = map (λ (attribute : Attribute). attribute_text attribute.name) attributes

-- the value of the attribute with this name
abbrev pub value_of : KnownAttribute → List Attribute → Option (List ℕ)
value_of wanted [] = None
value_of wanted (attribute ∷ attributes) = if is_named wanted attribute.name then Some attribute.value else value_of wanted attributes

-- the attributes of a tag: no name comes twice
unfoldable pub distinct_attributes_at : List ℕ → Option (List Attribute × List ℕ)
distinct_attributes_at text =
    let found = attributes_at (length text) text in
    if all_distinct (names_of found.0) then Some found else None

-- the end of a tag, `>` or `/>`, with white space before it: whether the tag is closed
unfoldable pub end_at : List ℕ → Option (Bool × List ℕ)
end_at text =
    let after = after_ws text in
    if begins_with after (codes ">") then Some (false, drop 1 after)
    else (if begins_with after (codes "/>") then Some (true, drop 2 after) else None)

-- the element's name at the front
unfoldable pub element_at : List ℕ → Option (ElementName × List ℕ)
element_at text = do
  name ← element_of (take (element_len text) text)
  Some (name, drop (element_len text) text)

-- an opening tag, without its `<esi:`
unfoldable pub tag_at : List ℕ → Option (Tag × List ℕ)
tag_at text = do
  name ← element_at text
  attributes ← distinct_attributes_at name.1
  closed ← end_at attributes.1
  Some (record { name = name.0; attributes = attributes.0; closed = closed.0 }, closed.1)

-- a closing tag, without its `</esi:`
unfoldable pub closing_at : List ℕ → Option (ElementName × List ℕ)
closing_at text = do
  name ← element_at text
  rest ← after_bytes (after_ws name.1) (codes ">")
  Some (name.0, rest)

-- how many bytes are before the first `</esi:remove>`
unfoldable pub removed_len : List ℕ → ℕ
removed_len text = bytes_before (λ rest. begins_with rest (codes "</esi:remove>")) text

-- what follows the first `</esi:remove>`
unfoldable pub after_removed : List ℕ → Option (List ℕ)
after_removed text = after_bytes (drop (removed_len text) text) (codes "</esi:remove>")

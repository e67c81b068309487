-- Which tokens spell a text: the grammar, apart from how it is read.
use Rattle.std.specs.Prelude.{◌≡◌, ◌≢◌, ◌⊎◌, ℕ, ◌+◌, ◌<◌, Bool, true, false, not, ◌==◌, List, [], ◌∷◌, ◌++◌, length, drop, codes, Option, Some, None, is_some}
use Rattle.std.specs.List.{AllPass}
use Rattle.edge_types.specs.WhiteSpace.{is_ws}
use Rattle.esi_scanner.specs.declared.element_name.ElementName.{ElementName}
use Rattle.esi_scanner.specs.declared.element_name.ElementName.TheVariants as element
use Rattle.esi_scanner.specs.declared.entity.Entity.{Entity}
use Rattle.esi_scanner.specs.declared.attribute.Attribute.{Attribute}
use Rattle.esi_scanner.specs.declared.tag.Tag.{Tag}
use Rattle.esi_scanner.specs.declared.token.Kind.{Kind}
use Rattle.esi_scanner.specs.declared.token.Kind.TheVariants as kinds
use Rattle.esi_scanner.specs.declared.token.Token.{Token}
use Rattle.esi_scanner.specs.declared.fault.ScanFault.{ScanFault}
use Rattle.esi_scanner.specs.declared.fault.ScanFault.TheVariants.{Malformed, NoMemory}
use Rattle.esi_scanner.specs.Names.{element_text, attribute_name_of}
use Rattle.esi_scanner.specs.Bytes.{is_attribute_byte, is_quote, begins_ws, begins_with}
use Rattle.esi_scanner.specs.Entities.{entity_text, entity_byte}
use Rattle.esi_scanner.specs.Tag.{all_distinct, names_of}
use Rattle.esi_scanner.specs.Scan.{begins_opener, block_after}

-- no entity is at the front
abbrev pub NoEntity : List ℕ → Type 0
NoEntity raw = (entity : Entity) (rest : List ℕ) → raw ≢ entity_text entity ++ rest

-- at the front of a raw text is a byte of its value, as an entity or as itself
abbrev pub IsLetter : List ℕ → ℕ → List ℕ → Type 0
IsLetter raw byte rest =
    ((entity : Entity) × (raw ≡ entity_text entity ++ rest) × (byte ≡ entity_byte entity)) ⊎ ((raw ≡ byte ∷ rest) × NoEntity raw)

-- the raw text between two quotes spells the value
abbrev pub SpellsValue : List ℕ → List ℕ → Type 0
SpellsValue raw [] = raw ≡ []
SpellsValue raw (byte ∷ value) = (rest : List ℕ) × IsLetter raw byte rest × SpellsValue rest value

-- white space, a name, `=` with white space around it, and a value in quotes that the value doesn't contain
pub record SpellsAttribute (piece : List ℕ) (attribute : Attribute) : Type 0 where
  pub before : List ℕ
  pub before_some : 0 < length before
  pub before_ws : AllPass is_ws before
  pub name : List ℕ
  pub name_some : 0 < length name
  pub name_bytes : AllPass is_attribute_byte name
  pub name_is : attribute.name ≡ attribute_name_of name
  pub left : List ℕ
  pub left_ws : AllPass is_ws left
  pub right : List ℕ
  pub right_ws : AllPass is_ws right
  pub quote : ℕ
  pub quote_is : is_quote quote ≡ true
  pub raw : List ℕ
  pub no_quote : AllPass (λ b. not (b == quote)) raw
  pub value_is : SpellsValue raw attribute.value
  pub piece_is : piece ≡ before ++ (name ++ (left ++ (codes "=" ++ (right ++ (quote ∷ (raw ++ quote ∷ []))))))

-- attributes one after another
abbrev pub SpellsAttributes : List ℕ → List Attribute → Type 0
SpellsAttributes piece [] = piece ≡ []
SpellsAttributes piece (attribute ∷ attributes) =
    (front : List ℕ) × (rest : List ℕ) × (piece ≡ front ++ rest) × SpellsAttribute front attribute × SpellsAttributes rest attributes

-- the end of a tag
abbrev pub end_text : Bool → List ℕ
end_text true = codes "/>"
end_text false = codes ">"

-- an opening tag, in which no name comes twice
pub record SpellsTag (piece : List ℕ) (tag : Tag) : Type 0 where
  pub attributes : List ℕ
  pub attributes_are : SpellsAttributes attributes tag.attributes
  pub distinct : all_distinct (names_of tag.attributes) ≡ true
  pub ws : List ℕ
  pub ws_is : AllPass is_ws ws
  pub piece_is : piece ≡ codes "<esi:" ++ (element_text tag.name ++ (attributes ++ (ws ++ end_text tag.closed)))

-- a closing tag
pub record SpellsClose (piece : List ℕ) (name : ElementName) : Type 0 where
  pub ws : List ℕ
  pub ws_is : AllPass is_ws ws
  pub piece_is : piece ≡ codes "</esi:" ++ (element_text name ++ (ws ++ codes ">"))

-- a `remove` tag that is closed
pub record SpellsClosedRemove (piece : List ℕ) : Type 0 where
  pub tag : Tag
  pub tag_is : SpellsTag piece tag
  pub name_is : tag.name ≡ element.Remove
  pub closed : tag.closed ≡ true

-- a `remove` tag, any bytes, and the first `</esi:remove>` after the tag
pub record SpellsRemove (piece : List ℕ) : Type 0 where
  pub opening : List ℕ
  pub tag : Tag
  pub tag_is : SpellsTag opening tag
  pub name_is : tag.name ≡ element.Remove
  pub not_closed : tag.closed ≡ false
  pub content : List ℕ
  pub first : (i : ℕ) → i < length content → begins_with (drop i (content ++ codes "</esi:remove>")) (codes "</esi:remove>") ≡ false
  pub piece_is : piece ≡ opening ++ (content ++ codes "</esi:remove>")

-- no opener of the text begins within its first n bytes
abbrev pub NoOpener : Bool → ℕ → List ℕ → Type 0
NoOpener block n text = (i : ℕ) → i < n → begins_opener block (drop i text) ≡ false

-- the piece, with this rest after it, is a token of the kind, inside a block or outside
abbrev pub IsSpelling : Bool → Kind → List ℕ → List ℕ → Type 0
IsSpelling block kinds.Text piece rest = (0 < length piece) × NoOpener block (length piece) (piece ++ rest)
IsSpelling block (kinds.Open tag) piece rest = (tag.name ≢ element.Remove) × SpellsTag piece tag
IsSpelling block (kinds.Close name) piece rest = SpellsClose piece name
IsSpelling block kinds.Remove piece rest = SpellsClosedRemove piece ⊎ SpellsRemove piece
IsSpelling block kinds.BlockStart piece rest = (block ≡ false) × (piece ≡ codes "<!--esi") × (begins_ws rest ≡ true)
IsSpelling block kinds.BlockEnd piece rest = (block ≡ true) × (piece ≡ codes "-->")

-- whether it is a text
abbrev pub is_text : Kind → Bool
is_text kinds.Text = true
is_text _ = false

-- two texts never touch
abbrev pub Apart : Kind → List Token → Type 0
Apart kinds.Text [] = Unit {0}
Apart kinds.Text (token ∷ tokens) = is_text token.kind ≡ false
Apart _ tokens = Unit {0}

-- The tokens spell the front of a text that begins at `at`, up to this rest. The block that is open before them, and
-- the one that is open after them, are given by the places where they begin.
abbrev pub SpellsTo : Option ℕ → ℕ → List Token → List ℕ → Option ℕ → List ℕ → Type 0
SpellsTo block at [] text unclosed rest = (text ≡ rest) × (block ≡ unclosed)
SpellsTo block at (token ∷ tokens) text unclosed rest =
    (piece : List ℕ) × (after : List ℕ) × (text ≡ piece ++ after) × (token.span ≡ record { start = at; end = at + length piece })
    × IsSpelling (is_some block) token.kind piece after × Apart token.kind tokens
    × SpellsTo (block_after block at token.kind) (at + length piece) tokens after unclosed rest

-- the tokens spell the text, all of it, and each block has its end
abbrev pub Spells : List ℕ → List Token → Type 0
Spells text tokens = SpellsTo None 0 tokens text None []

-- `<esi:` or `</esi:`, where no token begins
pub record IsBadOpener (block : Bool) (text : List ℕ) : Type 0 where
  pub opener : (begins_with text (codes "<esi:") ≡ true) ⊎ (begins_with text (codes "</esi:") ≡ true)
  pub no_token : (kind : Kind) (piece rest : List ℕ) → text ≡ piece ++ rest → ¬ IsSpelling block kind piece rest

-- tokens spell the text up to this place, and a bad opener is there
pub record IsFirstBadOpener (text : List ℕ) (at : ℕ) : Type 0 where
  pub tokens : List Token
  pub unclosed : Option ℕ
  pub rest : List ℕ
  pub before : SpellsTo None 0 tokens text unclosed rest
  pub bad : IsBadOpener (is_some unclosed) rest
  pub place : at + length rest ≡ length text

-- tokens spell the whole text, but the block that begins at this place has no end
pub record IsOpenBlock (text : List ℕ) (at : ℕ) : Type 0 where
  pub tokens : List Token
  pub before : SpellsTo None 0 tokens text (Some at) []

-- the place of a text's fault
abbrev pub IsFaultAt : List ℕ → ℕ → Type 0
IsFaultAt text at = IsFirstBadOpener text at ⊎ IsOpenBlock text at

-- what a refusal reports: the place of the fault, or that memory ran out
abbrev pub TellsFault : List ℕ → ScanFault → Type 0
TellsFault text (Malformed at) = IsFaultAt text at
TellsFault text NoMemory = Unit {0}

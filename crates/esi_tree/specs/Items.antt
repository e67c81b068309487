-- The items of a template: what its tokens are, without where they are.
use Rattle.std.specs.Prelude.{ℕ, List, map, slice_range}
use Rattle.esi_scanner.specs.declared.element_name.ElementName.{ElementName}
use Rattle.esi_scanner.specs.declared.tag.Tag.{Tag}
use Rattle.esi_scanner.specs.declared.token.Kind.{Kind}
use Rattle.esi_scanner.specs.declared.token.Kind.TheVariants as kinds
use Rattle.esi_scanner.specs.declared.token.Span.{Span}
use Rattle.esi_scanner.specs.declared.token.Token.{Token}

-- a run of text with its bytes, an opening or a closing tag, a remove element, the beginning or the end of a block
pub data Item : Type 0 where
  Text : (bytes : List ℕ) → Item
  Open : (tag : Tag) → Item
  Close : (name : ElementName) → Item
  Remove : Item
  Block : Item

-- the bytes in this span of a text
abbrev pub bytes_at : List ℕ → Span → List ℕ
bytes_at text span = slice_range text span.start span.end

-- the item of a kind of token, with the bytes that the token has
abbrev pub item_with : List ℕ → Kind → Item
item_with bytes kinds.Text = Text bytes
item_with bytes (kinds.Open tag) = Open tag
item_with bytes (kinds.Close name) = Close name
item_with bytes kinds.Remove = Remove
item_with bytes kinds.BlockStart = Block
item_with bytes kinds.BlockEnd = Block

-- the item of a token of a text
abbrev pub item_of : List ℕ → Token → Item
item_of text token = item_with (bytes_at text token.span) token.kind

-- the items of several tokens
abbrev pub items_of : List ℕ → List Token → List Item
items_of text tokens = map (item_of text) tokens

-- The tokens of a text, read from the left.
use Rattle.std.specs.Prelude.{◌≡◌, ℕ, zero, suc, ◌+◌, ◌-◌, Bool, true, false, ◌&&◌, ◌||◌, is_some, List, [], ◌∷◌, drop, length, codes, Option, Some, None, Result, Ok, Err, if◌then◌else◌}
use Rattle.std.specs.declared.vec.Vec.{Vec}
use Rattle.std.specs.declared.alloc.Global.{Global}
use Rattle.esi_scanner.specs.declared.element_name.ElementName.{ElementName}
use Rattle.esi_scanner.specs.declared.element_name.ElementName.TheVariants as element
use Rattle.esi_scanner.specs.declared.tag.Tag.{Tag}
use Rattle.esi_scanner.specs.declared.token.Kind.{Kind}
use Rattle.esi_scanner.specs.declared.token.Kind.TheVariants as kinds
use Rattle.esi_scanner.specs.declared.token.Token.{Token}
use Rattle.esi_scanner.specs.declared.fault.ScanFault.{ScanFault}
use Rattle.esi_scanner.specs.declared.fault.ScanFault.TheVariants.{Malformed, NoMemory}
use Rattle.esi_scanner.specs.Bytes.{begins_ws, begins_with, bytes_before, ◌>>=◌}
use Rattle.esi_scanner.specs.Tag.{tag_at, closing_at, after_removed}

-- an opener that depends on whether a block is open: `-->` inside; outside, `<!--esi` directly before white space
abbrev pub begins_mark : Bool → List ℕ → Bool
begins_mark true text = begins_with text (codes "-->")
begins_mark false text = begins_with text (codes "<!--esi") && begins_ws (drop 7 text)

-- an opener: the front of a tag, or a mark
abbrev pub begins_opener : Bool → List ℕ → Bool
begins_opener block text = begins_with text (codes "<esi:") || begins_with text (codes "</esi:") || begins_mark block text

-- whether it is the element that removes its content
abbrev pub is_remove : ElementName → Bool
is_remove element.Remove = true
is_remove _ = false

-- a remove element, from after its tag on: with its content and its end, unless the tag is closed
abbrev pub removed : Bool → List ℕ → Option (Kind × List ℕ)
removed true rest = Some (kinds.Remove, rest)
removed false rest = after_removed rest >>= λ after. Some (kinds.Remove, after)

-- the token that an opening tag begins, and what follows it
unfoldable pub opened : Tag → List ℕ → Option (Kind × List ℕ)
opened tag rest = if is_remove tag.name then removed tag.closed rest else Some (kinds.Open tag, rest)

-- the token that begins with `<esi:`, given what follows that
unfoldable pub open_at : List ℕ → Option (Kind × List ℕ)
open_at text = tag_at text >>= λ found. opened found.0 found.1

-- the token that begins with `</esi:`
unfoldable pub close_at : List ℕ → Option (Kind × List ℕ)
close_at text = closing_at text >>= λ found. Some (kinds.Close found.0, found.1)

-- the token of a mark, and what follows it
unfoldable pub mark_at : Bool → List ℕ → Option (Kind × List ℕ)
mark_at true text = if begins_mark true text then Some (kinds.BlockEnd, drop 3 text) else None
mark_at false text = if begins_mark false text then Some (kinds.BlockStart, drop 7 text) else None

-- the token of the bytes up to the next opener, and what follows it
unfoldable pub text_at : Bool → List ℕ → Kind × List ℕ
text_at block text = (kinds.Text, drop (bytes_before (begins_opener block) text) text)

-- a mark if one was found, else the text
abbrev pub mark_or_text : Kind × List ℕ → Option (Kind × List ℕ) → Option (Kind × List ℕ)
mark_or_text text None = Some text
mark_or_text text (Some mark) = Some mark

-- the token at the front, and what follows it
unfoldable pub token_at : Bool → List ℕ → Option (Kind × List ℕ)
token_at block text =
    if begins_with text (codes "<esi:") then open_at (drop 5 text)
    else (if begins_with text (codes "</esi:") then close_at (drop 6 text)
    else mark_or_text (text_at block text) (mark_at block text))

-- the place where the open block begins, after a token that begins at `at`
abbrev pub block_after : Option ℕ → ℕ → Kind → Option ℕ
block_after block at kinds.BlockStart = Some at
block_after block at kinds.BlockEnd = None
block_after block at _ = block

-- a token before those that were read after it
abbrev pub with_first : Token → Result (List Token) ℕ → Result (List Token) ℕ
with_first token (Ok tokens) = Ok (token ∷ tokens)
with_first token (Err at) = Err at

-- at the end of a text no block may be open
abbrev pub tokens_at_end : Option ℕ → Result (List Token) ℕ
tokens_at_end None = Ok []
tokens_at_end (Some start) = Err start

-- the token of this kind at the front of a text
abbrev pub token_of : ℕ → List ℕ → Kind × List ℕ → Token
token_of at text found = record { span = record { start = at; end = at + (length text - length found.1) }; kind = found.0 }

-- the token that was found and those after it, or the place where none was found
abbrev pub then_tokens : (Option ℕ → ℕ → List ℕ → Result (List Token) ℕ) → Option ℕ → ℕ → List ℕ → Option (Kind × List ℕ) → Result (List Token) ℕ
then_tokens others block at text None = Err at
then_tokens others block at text (Some found) =
    let token = token_of at text found in
    with_first token (others (block_after block at found.0) token.span.end found.1)

-- The tokens of a text that begins at `at`, at most n of them, inside a block that began at the given place: or the
-- place where none begins, else that of a block without end.
unfoldable pub tokens_at : ℕ → Option ℕ → ℕ → List ℕ → Result (List Token) ℕ
tokens_at n block at [] = tokens_at_end block
tokens_at zero block at (b ∷ bs) = Err at
tokens_at (suc n) block at (b ∷ bs) =
    then_tokens (λ opened end rest. tokens_at n opened end rest) block at (b ∷ bs) (token_at (is_some block) (b ∷ bs))

-- the tokens of a text, or the place of its fault; it has no more tokens than bytes
unfoldable pub scan_of : List ℕ → Result (List Token) ℕ
scan_of text = tokens_at (length text) None 0 text

-- a refusal reports the place that reading finds
abbrev pub Fails : ScanFault → Result (List Token) ℕ → Type 0
Fails (Malformed at) read = read ≡ Err at
Fails NoMemory read = Unit {0}

-- what a call returned is what reading yields, unless memory ran out
abbrev pub Gives : Result (Vec Token Global) ScanFault → Result (List Token) ℕ → Type 0
Gives (Ok tokens) read = read ≡ Ok tokens.items
Gives (Err fault) read = Fails fault read

-- How the tokens of a text are read, one at a time.
use Rattle.std.proofs.Common.{◌≡◌, ℕ, ◌+◌, ◌<◌, ◌≤◌, List, ◌∷◌, length, get_or, drop, Option, Some, None, Err, refl, sym, ◌∙◌, ap}
use Rattle.std.proofs.lemmas.List.{drop_more, drop_all}
use Rattle.esi_scanner.specs.declared.token.Token.{Token}
use Rattle.esi_tree.specs.Items.{item_of}
use Rattle.esi_tree.specs.Reading.{State, after, ended, then_read, read_from}

read_from-first : (text : List ℕ) (token : Token) (tokens : List Token) (state : State) → read_from text (token ∷ tokens) state ≡ then_read (λ next. read_from text tokens next) token.span.start (after (item_of text token) state)
unfolding read_from
read_from-first text token tokens state = refl

read_from-here : (text : List ℕ) (tokens : List Token) (i : ℕ) (token : Token) (state : State) (next : Option State) → i < length tokens → token ≡ get_or tokens i token → after (item_of text token) state ≡ next
    → read_from text (drop i tokens) state ≡ then_read (λ s. read_from text (drop (i + 1) tokens) s) token.span.start next
read_from-here text tokens i token state next within is step =
    ap (λ ts. read_from text ts state) (drop_more tokens i token within)
    ∙ ap (λ t. read_from text (t ∷ drop (i + 1) tokens) state) (sym is)
    ∙ read_from-first text token (drop (i + 1) tokens) state
    ∙ ap (then_read (λ s. read_from text (drop (i + 1) tokens) s) token.span.start) step

-- a template goes on with the token
pub read_from-step : (text : List ℕ) (tokens : List Token) (i : ℕ) (token : Token) (state next : State) → i < length tokens → token ≡ get_or tokens i token → after (item_of text token) state ≡ Some next
    → read_from text (drop i tokens) state ≡ read_from text (drop (i + 1) tokens) next
read_from-step text tokens i token state next within is step = read_from-here text tokens i token state (Some next) within is step

-- none goes on with it
pub read_from-fault : (text : List ℕ) (tokens : List Token) (i : ℕ) (token : Token) (state : State) → i < length tokens → token ≡ get_or tokens i token → after (item_of text token) state ≡ None
    → read_from text (drop i tokens) state ≡ Err token.span.start
read_from-fault text tokens i token state within is step = read_from-here text tokens i token state None within is step

-- the tokens are at their end
pub read_from-end : (text : List ℕ) (tokens : List Token) (i : ℕ) (state : State) → length tokens ≤ i → read_from text (drop i tokens) state ≡ ended state.frames state.content (length text)
unfolding read_from
read_from-end text tokens i state past = ap (λ ts. read_from text ts state) (drop_all i tokens past)

-- Warnings that are collected step by step.
use Rattle.std.proofs.Common.{◌≡◌, ℕ, ◌+◌, ◌==◌, ◌<◌, ◌≤◌, Bool, true, false, List, [], ◌∷◌, ◌++◌, drop, length, get_or, nat_lt, refl, sym, ◌∙◌, ap, append_assoc, arith, Option, Some, None, is_some, codes}
use Rattle.std.proofs.lemmas.List.{drop_more, drop_all, append-nil, nil_from_length}
use Rattle.std.specs.Str.{byte}
use Rattle.template_check.specs.Warnings.{begins_empty, stands_empty}
use Rattle.std.specs.Option.{option_or}
use Rattle.edge_types.specs.Asked.{asked, resolve}
use Rattle.esi_scanner.specs.declared.tag.Tag.{Tag}
use Rattle.esi_scanner.specs.declared.token.Token.{Token}
use Rattle.template_check.specs.declared.warned.Warned.{Warned}
use Rattle.template_check.specs.declared.warning.Warning.{Warning}
use Rattle.template_check.specs.declared.warning.Warning.TheVariants as warning
use Rattle.template_check.specs.Warned.{warned, text_warning, text_warnings, reference_warning, value_warning, name_warning, each_warning, due, token_warnings, depth_behind, warnings_from}

-- one step more of what is collected: `all` is what there is, `rest` what is left
pub added : (initial all found now step rest later : List Warned) → found ++ rest ≡ initial ++ all → rest ≡ step ++ later → now ≡ found ++ step → now ++ later ≡ initial ++ all
added initial all found now step rest later so_far is more =
    ap (λ (front : List Warned). front ++ later) more ∙ append_assoc found step later ∙ ap (λ (back : List Warned). found ++ back) (sym is) ∙ so_far

-- at the end nothing is left
pub whole : (initial all found rest : List Warned) → found ++ rest ≡ initial ++ all → rest ≡ [] → found ≡ initial ++ all
whole initial all found rest so_far none = sym (append-nil found) ∙ ap (λ (back : List Warned). found ++ back) (sym none) ∙ so_far

pub text-step : (replaced : Bool) (place i : ℕ) (text : List ℕ) → i < length text
    → text_warnings replaced (place + i) (drop i text) ≡ warned (place + i) (text_warning replaced (drop i text)) ++ text_warnings replaced (place + (i + 1)) (drop (i + 1) text)
unfolding text_warnings
text-step replaced place i text within = by (drop i text) (get_or text i 0) (drop (i + 1) text) (drop_more text i 0 within)
  where
    by : (here : List ℕ) (b : ℕ) (bs : List ℕ) → here ≡ b ∷ bs → text_warnings replaced (place + i) here ≡ warned (place + i) (text_warning replaced here) ++ text_warnings replaced (place + (i + 1)) bs
    by here b bs is =
        let next : place + i + 1 ≡ place + (i + 1) = omega arith in
        rw is (ap (λ n. warned (place + i) (text_warning replaced (b ∷ bs)) ++ text_warnings replaced n bs) next)

pub text-end : (replaced : Bool) (place i : ℕ) (text : List ℕ) → length text ≤ i → text_warnings replaced place (drop i text) ≡ []
unfolding text_warnings
text-end replaced place i text past = ap (text_warnings replaced place) (drop_all i text past)

pub value-step : (i : ℕ) (value : List ℕ) → i < length value → value_warning (drop i value) ≡ option_or (reference_warning true (drop i value)) (value_warning (drop (i + 1) value))
unfolding value_warning
value-step i value within = by (drop i value) (get_or value i 0) (drop (i + 1) value) (drop_more value i 0 within)
  where
    by : (here : List ℕ) (b : ℕ) (bs : List ℕ) → here ≡ b ∷ bs → value_warning here ≡ option_or (reference_warning true here) (value_warning bs)
    by here b bs is = rw is refl

-- the value is warned of at this place, where it is, and at none before it
pub value-found : (i : ℕ) (value here : List ℕ) (found : Option Warning) → i < length value → here ≡ drop i value → found ≡ reference_warning true here → is_some found ≡ true
    → value_warning (drop i value) ≡ value_warning value → found ≡ value_warning value
value-found i value here None within is judged some so_far = absurd (cc)
value-found i value here (Some w) within is judged some so_far =
    let at : reference_warning true (drop i value) ≡ Some w = sym (judged ∙ ap (reference_warning true) is) in
    sym (value-step i value within ∙ ap (λ first. option_or first (value_warning (drop (i + 1) value))) at) ∙ so_far

pub value-passed : (i : ℕ) (value here : List ℕ) (found : Option Warning) → i < length value → here ≡ drop i value → found ≡ reference_warning true here → is_some found ≡ false
    → value_warning (drop i value) ≡ value_warning value → value_warning (drop (i + 1) value) ≡ value_warning value
value-passed i value here None within is judged none so_far =
    let at : reference_warning true (drop i value) ≡ None = sym (judged ∙ ap (reference_warning true) is) in
    sym (value-step i value within ∙ ap (λ first. option_or first (value_warning (drop (i + 1) value))) at) ∙ so_far
value-passed i value here (Some w) within is judged none so_far = absurd (cc)

pub value-end : (i : ℕ) (value : List ℕ) → length value ≤ i → value_warning (drop i value) ≡ None
unfolding value_warning
value-end i value past = ap value_warning (drop_all i value past)

pub each-step : (place : ℕ) (tag : Tag) (i : ℕ) (d : Warning) (ws : List Warning) → i < length ws
    → each_warning place tag (drop i ws) ≡ warned place (due tag (get_or ws i d)) ++ each_warning place tag (drop (i + 1) ws)
unfolding each_warning
each-step place tag i d ws within = ap (each_warning place tag) (drop_more ws i d within)

pub each-end : (place : ℕ) (tag : Tag) (i : ℕ) (ws : List Warning) → length ws ≤ i → each_warning place tag (drop i ws) ≡ []
unfolding each_warning
each-end place tag i ws past = ap (each_warning place tag) (drop_all i ws past)

pub token-step : (depth : ℕ) (text : List ℕ) (i : ℕ) (d : Token) (tokens : List Token) → i < length tokens
    → warnings_from depth text (drop i tokens) ≡ token_warnings (nat_lt 0 depth) text (get_or tokens i d) ++ warnings_from (depth_behind depth (get_or tokens i d).kind) text (drop (i + 1) tokens)
unfolding warnings_from
token-step depth text i d tokens within = ap (warnings_from depth text) (drop_more tokens i d within)

pub token-end : (depth : ℕ) (text : List ℕ) (i : ℕ) (tokens : List Token) → length tokens ≤ i → warnings_from depth text (drop i tokens) ≡ []
unfolding warnings_from
token-end depth text i tokens past = ap (warnings_from depth text) (drop_all i tokens past)

-- one token more of a text
pub token-next : (depth next i : ℕ) (text : List ℕ) (token : Token) (tokens : List Token) (all found now : List Warned) → i < length tokens → token ≡ get_or tokens i token
    → found ++ warnings_from depth text (drop i tokens) ≡ all → now ≡ found ++ token_warnings (nat_lt 0 depth) text token → next ≡ depth_behind depth token.kind
    → now ++ warnings_from next text (drop (i + 1) tokens) ≡ all
token-next depth next i text token tokens all found now within is so_far more behind =
    let later : List Token = drop (i + 1) tokens in
    let own : List Warned = token_warnings (nat_lt 0 depth) text token in
    let step : warnings_from depth text (drop i tokens) ≡ own ++ warnings_from next text later =
    token-step depth text i token tokens within
    ∙ ap (λ (t : Token). token_warnings (nat_lt 0 depth) text t ++ warnings_from (depth_behind depth t.kind) text later) (sym is)
    ∙ ap (λ n. own ++ warnings_from n text later) (sym behind) in
    added [] all found now own (warnings_from depth text (drop i tokens)) (warnings_from next text later) so_far step more

-- a test that is read from the left
pub empty-end : (behind_bar : Bool) (rest : List ℕ) → length rest ≡ 0 → stands_empty behind_bar rest ≡ false
unfolding stands_empty
empty-end behind_bar rest is = rw (nil_from_length rest is) refl

pub empty-found : (behind_bar : Bool) (rest after : List ℕ) (b : ℕ) → rest ≡ b ∷ after → begins_empty behind_bar rest ≡ true → stands_empty behind_bar rest ≡ true
unfolding stands_empty
empty-found behind_bar rest after b is found =
    let begins : begins_empty behind_bar (b ∷ after) ≡ true = ap (begins_empty behind_bar) (sym is) ∙ found in
    ap (stands_empty behind_bar) is ∙ rw begins refl

pub empty-step : (behind_bar : Bool) (rest after : List ℕ) (b : ℕ) → rest ≡ b ∷ after → begins_empty behind_bar rest ≡ false → stands_empty behind_bar rest ≡ stands_empty (b == byte "|") after
unfolding stands_empty
empty-step behind_bar rest after b is none =
    let begins : begins_empty behind_bar (b ∷ after) ≡ false = ap (begins_empty behind_bar) (sym is) ∙ none in
    ap (stands_empty behind_bar) is ∙ rw begins refl

-- a name that stands for a URL, and one that doesn't
pub name-fine : (name page url : List ℕ) → asked None (codes "http://localhost/") ≡ Some page → resolve page name ≡ Some url → None ≡ name_warning name
name-fine name page url at is = rw (at, is) refl

pub name-idle : (name page : List ℕ) → asked None (codes "http://localhost/") ≡ Some page → resolve page name ≡ None → Some warning.IdleName ≡ name_warning name
name-idle name page at none = rw (at, none) refl

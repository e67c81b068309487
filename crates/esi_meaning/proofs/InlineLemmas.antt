-- The inline that a URL names is the first that does among the template's, in text order.
use Rattle.std.proofs.Common.{◌≡◌, ℕ, Bool, true, false, cond, List, [], ◌∷◌, ◌++◌, bytes_eq, Option, Some, None, if◌then◌else◌, refl, ◌∙◌, ap}
use Rattle.std.specs.List.{find, cons_option, filter_map}
use Rattle.std.specs.Option.{option_or, option_map}
use Rattle.std.proofs.lemmas.List.Folds.{find-append}
use Rattle.edge_types.specs.Asked.{resolve}
use Rattle.esi_tree.specs.Tree.{Element, Text, VarsText, Include, Choose, Try, Vars, Inline, Nothing, Elements, End, Then, Branches, NoBranch, When, Otherwise}
use Rattle.esi_meaning.specs.Inlines.{is_url, names, inline_in, inline_for, inline_in_branches, NamedBody, inlines_in, inlines, inlines_among, UrlBody, with_url, inline_urls}
use Rattle.esi_meaning.specs.Laws.{FirstInlineCounts, InlinesByUrl}

-- the content of a found inline
abbrev content_of : Option NamedBody → Option Elements
content_of found = option_map (λ (i : NamedBody). i.content) found

content_of_either : (a b : Option NamedBody) → content_of (option_or a b) ≡ option_or (content_of a) (content_of b)
content_of_either None b = refl
content_of_either (Some x) b = refl

module _ (u w : List ℕ) where
  abbrev is_named : NamedBody → Bool
  is_named i = names u w i.name

  -- the content of the first of these inlines that names w
  abbrev first_of : List NamedBody → Option Elements
  first_of all = content_of (find is_named all)

  first_of_both : (xs ys : List NamedBody) (a b : Option Elements) → a ≡ first_of xs → b ≡ first_of ys → option_or a b ≡ first_of (xs ++ ys)
  first_of_both xs ys a b ha hb =
      let found = ap content_of (find-append is_named xs ys) in
      let split = content_of_either (find is_named xs) (find is_named ys) in
      cc

  first_if : (i : NamedBody) (rest : List NamedBody) (inner : Option Elements) → inner ≡ first_of rest → (b : Bool)
      → (if b then Some i.content else inner) ≡ content_of (cond b (Some i) (find is_named rest))
  first_if i rest inner h true = refl
  first_if i rest inner h false = h

  mutual
    first_in : (e : Element) → inline_in u w e ≡ first_of (inlines_in e)
    first_in (Text text) = refl
    first_in (VarsText parts) = refl
    first_in (Include include) = refl
    first_in (Choose branches) = first_among branches
    first_in (Try attempt except false) =
        first_of_both (inlines attempt) (inlines except) (inline_for u w attempt) (inline_for u w except) (first_for attempt) (first_for except)
    first_in (Try attempt except true) =
        first_of_both (inlines except) (inlines attempt) (inline_for u w except) (inline_for u w attempt) (first_for except) (first_for attempt)
    first_in (Vars content) = first_for content
    first_in (Inline name content) =
        first_if (record { name = name; content = content }) (inlines content) (inline_for u w content) (first_for content) (names u w name)
    first_in Nothing = refl

    first_for : (es : Elements) → inline_for u w es ≡ first_of (inlines es)
    first_for End = refl
    first_for (Then first rest) =
        first_of_both (inlines_in first) (inlines rest) (inline_in u w first) (inline_for u w rest) (first_in first) (first_for rest)

    first_among : (bs : Branches) → inline_in_branches u w bs ≡ first_of (inlines_among bs)
    first_among NoBranch = refl
    first_among (When condition content rest) =
        first_of_both (inlines content) (inlines_among rest) (inline_for u w content) (inline_in_branches u w rest) (first_for content) (first_among rest)
    first_among (Otherwise content rest) =
        first_of_both (inlines content) (inlines_among rest) (inline_for u w content) (inline_in_branches u w rest) (first_for content) (first_among rest)

pub first_inline_counts : FirstInlineCounts
first_inline_counts u w t = first_for u w t

-- the content of the first of these inlines whose URL is w
abbrev first_at : List ℕ → List UrlBody → Option Elements
first_at w all = option_map (λ (i : UrlBody). i.content) (find (λ (i : UrlBody). bytes_eq i.url w) all)

by_url_if : (i : NamedBody) (j : UrlBody) (rest : Option NamedBody) (others : Option UrlBody) → i.content ≡ j.content
    → content_of rest ≡ option_map (λ (x : UrlBody). x.content) others → (b : Bool)
    → content_of (cond b (Some i) rest) ≡ option_map (λ (x : UrlBody). x.content) (cond b (Some j) others)
by_url_if i j rest others same e true = ap Some same
by_url_if i j rest others same e false = e

by_url_step : (w : List ℕ) (i : NamedBody) (rest : Option NamedBody) (others : List UrlBody) → content_of rest ≡ first_at w others → (url : Option (List ℕ))
    → content_of (cond (is_url w url) (Some i) rest) ≡ first_at w (cons_option (option_map (λ v. record { url = v; content = i.content }) url) others)
by_url_step w i rest others e None = e
by_url_step w i rest others e (Some found) =
    by_url_if i (record { url = found; content = i.content }) rest (find (λ (x : UrlBody). bytes_eq x.url w) others) refl e (bytes_eq found w)

by_url : (u w : List ℕ) (all : List NamedBody) → first_of u w all ≡ first_at w (filter_map (with_url u) all)
unfolding names
by_url u w [] = refl
by_url u w (i ∷ all) = by_url_step w i (find (is_named u w) all) (filter_map (with_url u) all) (by_url u w all) (resolve u i.name)

pub inlines_by_url : InlinesByUrl
unfolding inline_urls
inlines_by_url u w t = first_for u w t ∙ by_url u w (inlines t)

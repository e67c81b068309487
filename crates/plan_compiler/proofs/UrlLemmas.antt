-- The inlines by their URLs, from the last on.
use Rattle.std.proofs.Common.{◌≡◌, ℕ, ◌+◌, ◌<◌, Bool, true, false, cond, bytes_eq, List, [], ◌∷◌, ◌++◌, length, map, reverse, drop, get_or, Option, Some, sym, ap, ◌∙◌, if◌then◌else◌}
use Rattle.std.proofs.lemmas.List.{drop_more, reverse-append}
use Rattle.std.proofs.lemmas.Map.Text.{is_eq-slice_cmp}
use Rattle.std.proofs.lemmas.Option.{slice_get-get_or}
use Rattle.std.specs.BTreeMap.{BTreeMap, get, is_at}
use Rattle.std.specs.Cmp.Lexicographic.{slice_cmp}
use Rattle.std.specs.Ordering.{nat_cmp}
use Rattle.esi_meaning.specs.Inlines.{is_url, names}
use Rattle.plan_compiler.specs.declared.inline.Inline.{Inline}
use Rattle.plan_compiler.specs.Urls.{entry_among, entry_found, url_of}

-- one URL more in a map, or another number for it
pub number_put : (before after : BTreeMap (List ℕ) ℕ) (key url : List ℕ) (number : ℕ) → key ≡ url
    → ((q : List ℕ) → get (slice_cmp nat_cmp) after q ≡ cond (is_at (slice_cmp nat_cmp key) q) (Some number) (get (slice_cmp nat_cmp) before q))
    → (w : List ℕ) → get (slice_cmp nat_cmp) after w ≡ (if is_url w (Some url) then Some number else get (slice_cmp nat_cmp) before w)
number_put before after key url number same updates w =
    updates w
    ∙ ap (λ (b : Bool). cond b (Some number) (get (slice_cmp nat_cmp) before w)) (is_eq-slice_cmp key w ∙ ap (λ (k : List ℕ). bytes_eq k w) same)

-- those from one on: this one, and those behind it
first_before : (is : List Inline) (at next : ℕ) (x : Inline) → next ≡ at + 1 → at < length is → drop at is ≡ get_or is at x ∷ drop next is
first_before is at next x step within = drop_more is at x within ∙ ap (λ (n : ℕ). get_or is at x ∷ drop n is) (sym step)

-- the first of the entries from one on
pub number_before : (u : List ℕ) (is : List Inline) (at next : ℕ) (x : Inline) (url : Option (List ℕ)) (before after : List ℕ → Option ℕ) → next ≡ at + 1 → at < length is → x ≡ get_or is at x → url ≡ url_of u x
    → ((w : List ℕ) → after w ≡ (if is_url w url then Some at else before w))
    → ((w : List ℕ) → entry_found is (before w) ≡ entry_among u w (drop next is)) → (w : List ℕ) → entry_found is (after w) ≡ entry_among u w (drop at is)
unfolding names
number_before u is at next x url before after step within there found put old w =
    ap (entry_found is) (put w)
    ∙ ap (λ (o : Option (List ℕ)). entry_found is (if is_url w o then Some at else before w)) found
    ∙ by_test (is_url w (url_of u x))
    ∙ ap (λ (y : Inline). cond (is_url w (url_of u y)) (Some y) (entry_among u w (drop next is))) there
    ∙ ap (entry_among u w) (sym (first_before is at next x step within))
  where
    by_test : (b : Bool) → entry_found is (if b then Some at else before w) ≡ cond b (Some x) (entry_among u w (drop next is))
    by_test true = slice_get-get_or is at x within ∙ ap Some (sym there)
    by_test false = old w

-- their URLs
pub urls_before : (u : List ℕ) (is : List Inline) (at next : ℕ) (x : Inline) (url : Option (List ℕ)) (before after : List (Option (List ℕ))) → next ≡ at + 1 → at < length is → x ≡ get_or is at x → url ≡ url_of u x
    → after ≡ before ++ url ∷ [] → before ≡ reverse (map (url_of u) (drop next is)) → after ≡ reverse (map (url_of u) (drop at is))
urls_before u is at next x url before after step within there found put old =
    put
    ∙ ap (λ (l : List (Option (List ℕ))). l ++ url ∷ []) old
    ∙ ap (λ (o : Option (List ℕ)). reverse (map (url_of u) (drop next is)) ++ o ∷ []) (found ∙ ap (url_of u) there)
    ∙ sym (reverse-append (url_of u (get_or is at x) ∷ []) (map (url_of u) (drop next is)))
    ∙ ap (λ (l : List Inline). reverse (map (url_of u) l)) (sym (first_before is at next x step within))

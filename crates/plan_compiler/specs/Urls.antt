-- The inlines of a plan by the URLs that their names denote.
use Rattle.std.specs.Prelude.{◌≡◌, ℕ, List, [], find, map, slice_get, Option, Some, None, Result, Ok, Err, if◌then◌else◌}
use Rattle.std.specs.BTreeMap.{get}
use Rattle.std.specs.Cmp.Lexicographic.{slice_cmp}
use Rattle.std.specs.Ordering.{nat_cmp}
use Rattle.edge_types.specs.Answered.{Answered, processed, body_of}
use Rattle.edge_types.specs.Asked.{resolve}
use Rattle.esi_tree.specs.Reading.{tree_of}
use Rattle.esi_tree.specs.Tree.{Elements}
use Rattle.esi_meaning.specs.Inlines.{names}
use Rattle.plan_compiler.specs.declared.inline.Inline.{Inline}
use Rattle.plan_compiler.specs.declared.inline_urls.InlineUrls.{InlineUrls}
use Rattle.plan_compiler.specs.Bodies.{entries}

-- the first of these entries that names the URL w, in a template of the URL u
abbrev pub entry_among : List ℕ → List ℕ → List Inline → Option Inline
entry_among u w is = find (λ (i : Inline). names u w i.name) is

-- the first entry of a tree that names the URL w, in a template of the URL u
unfoldable pub entry_for : List ℕ → List ℕ → Elements → Option Inline
entry_for u w t = entry_among u w (entries t)

-- the URL that the name of an entry denotes, in a template of the URL u
abbrev pub url_of : List ℕ → Inline → Option (List ℕ)
url_of u i = resolve u i.name

abbrev pub url_found : List ℕ → Option Inline → Option (List ℕ)
url_found u None = None
url_found u (Some i) = url_of u i

-- the entry with a number
abbrev pub entry_found : List Inline → Option ℕ → Option Inline
entry_found is None = None
entry_found is (Some i) = slice_get is i

abbrev pub entries_read : Result Elements ℕ → List Inline
entries_read (Ok t) = entries t
entries_read (Err at) = []

-- the entries of an answer's plan; none if it isn't processed, or isn't a template
abbrev pub entries_of : Answered → List Inline
entries_of a = if processed a.reply then entries_read (tree_of (body_of a.reply)) else []

-- the first entry of an answer's plan that names the URL w
abbrev pub entry_of : Answered → List ℕ → Option Inline
entry_of a w = entry_among a.url w (entries_of a)

-- the URL of the entry with this number in an answer's plan
abbrev pub url_at : Answered → ℕ → Option (List ℕ)
url_at a i = url_found a.url (slice_get (entries_of a) i)

-- the URL of a place in a list of them
abbrev pub url_in : Option (Option (List ℕ)) → Option (List ℕ)
url_in None = None
url_in (Some url) = url

-- the number that a map of URLs has for a URL
abbrev pub number_of : InlineUrls → List ℕ → Option ℕ
number_of urls w = get (slice_cmp nat_cmp) urls.firsts w

-- these are the URLs of the entries, in a template of the URL u; and each URL has the number of the first entry that names it
pub record AreUrls (u : List ℕ) (is : List Inline) (urls : InlineUrls) : Type 0 where
  pub each : urls.urls.items ≡ map (url_of u) is
  pub first : (w : List ℕ) → entry_found is (number_of urls w) ≡ entry_among u w is

-- What `Cache-Control` lets an edge keep where `Surrogate-Control` gives no age (RFC 9111, section 5.2).
use Rattle.std.specs.Prelude.{ℕ, Bool, true, false, not, ◌&&◌, ◌||◌, ◌==◌, nat_le, List, [], ◌∷◌, codes, Option, Some, None, option_map, option_and_then, unwrap_or, is_some, if◌then◌else◌}
use Rattle.std.specs.List.{list_all, list_any, filter_map}
use Rattle.std.specs.Str.{byte, str_eq_ignore_ascii_case}
use Rattle.edge_types.specs.declared.control.Control.{Control}
use Rattle.edge_types.specs.Blanks.{trimmed}
use Rattle.edge_types.specs.Halves.{around}
use Rattle.surrogate_headers.specs.Cut.{parts_of}
use Rattle.surrogate_headers.specs.Parameter.{◌>>=◌, seconds_of}
use Rattle.edge_types.specs.Token.{is_token}
use Rattle.surrogate_headers.specs.declared.cache_control.CacheDirective.{CacheDirective as LentDirective}

-- a directive: its name, and its argument if it has one
pub record CacheDirective : Type 0 where
  pub name : List ℕ
  pub argument : Option (List ℕ)

-- a byte that stands for itself between quotes: `qdtext` (RFC 9110, section 5.6.4)
unfoldable pub is_quotable : ℕ → Bool
is_quotable b = b == byte "\t" || (nat_le 32 b && not (b == byte "\"" || (b == byte "\\" || b == 127)))

-- the text up to a closing quote, if nothing follows that
abbrev pub closed : List ℕ → List ℕ → Option (List ℕ)
closed text [] = if list_all is_quotable text then Some text else None
closed text (b ∷ bs) = None

-- the text of a quoted-string; one with a `\` in it isn't read
unfoldable pub unquoted : List ℕ → Option (List ℕ)
unquoted [] = None
unquoted (b ∷ bs) = if b == byte "\"" then around (byte "\"") bs >>= (λ halves. closed halves.0 halves.1) else None

-- an argument, written as a token or as a quoted-string
unfoldable pub argument_of : List ℕ → Option (List ℕ)
argument_of text = if is_token text then Some text else unquoted text

-- a directive, if its name is a token
abbrev pub named : List ℕ → Option (List ℕ) → Option CacheDirective
named name argument = if is_token name then Some (record { name = name; argument = argument }) else None

-- a name alone, or a name and an argument round the `=`
abbrev pub around_equals : List ℕ → Option (List ℕ × List ℕ) → Option CacheDirective
around_equals part None = named part None
around_equals part (Some halves) = do
  argument ← argument_of halves.1
  named halves.0 (Some argument)

-- the directive that a part is, if it is well formed
unfoldable pub cache_directive_of : List ℕ → Option CacheDirective
cache_directive_of part = around_equals part (around (byte "=") part)

-- a directive or nothing: an element of a list (RFC 9110, section 5.6.1)
unfoldable pub is_element : List ℕ → Bool
is_element [] = true
is_element (b ∷ bs) = is_some (cache_directive_of (b ∷ bs))

-- a value of the grammar
unfoldable pub is_cache_control : List ℕ → Bool
is_cache_control value = list_all (λ part. is_element (trimmed part)) (parts_of value)

-- the number of seconds that an argument writes, if it is there and writes one
abbrev pub seconds_in : Option (List ℕ) → Option ℕ
seconds_in argument = option_and_then seconds_of argument

-- what a part says under a name: a number, if it gives one
unfoldable pub said : List ℕ → List ℕ → Option (Option ℕ)
said name part = do
  directive ← cache_directive_of (trimmed part)
  if str_eq_ignore_ascii_case directive.name name then Some (seconds_in directive.argument) else None

-- whether a value has a directive with this name
unfoldable pub has : List ℕ → List ℕ → Bool
has name value = list_any (λ part. is_some (said name part)) (parts_of value)

-- whether this number was given
abbrev pub gives : ℕ → Option ℕ → Bool
gives n None = false
gives n (Some m) = m == n

-- the number that all give
abbrev pub agreed : List (Option ℕ) → Option ℕ
agreed [] = None
agreed (None ∷ others) = None
agreed (Some n ∷ others) = if list_all (gives n) others then Some n else None

-- the number of seconds that all directives with this name give
unfoldable pub seconds_under : List ℕ → List ℕ → Option ℕ
seconds_under name value = agreed (filter_map (said name) (parts_of value))

-- the answer isn't for everyone, or not to be stored, or not to be used unasked (sections 5.2.2.7, 5.2.2.5, 5.2.2.4)
unfoldable pub forbids_keeping : List ℕ → Bool
forbids_keeping value = has (codes "private") value || (has (codes "no-store") value || has (codes "no-cache") value)

-- the answer isn't to be used once it is stale (sections 5.2.2.2, 5.2.2.8)
unfoldable pub forbids_staleness : List ℕ → Bool
forbids_staleness value = has (codes "must-revalidate") value || has (codes "proxy-revalidate") value

-- for how long past its age an answer may bridge a failing origin (RFC 5861, section 4)
unfoldable pub extension_of : List ℕ → ℕ
extension_of value = if forbids_staleness value then 0 else unwrap_or (seconds_under (codes "stale-if-error") value) 0

-- nothing stands against keeping the answer by `Cache-Control`
unfoldable pub may_heed : Control → List ℕ → Bool → Bool
may_heed control value sets_cookies =
    not (control.no_store || (is_some control.max_age || sets_cookies)) && (is_cache_control value && not (forbids_keeping value))

-- a control with the age and the extension that a value gives, if it gives an age (section 5.2.2.10)
abbrev pub with_age : Control → List ℕ → Option ℕ → Control
with_age control value None = control
with_age control value (Some seconds) = record control { max_age = Some seconds; extension = extension_of value }

-- what is asked where `Cache-Control` is heeded
unfoldable pub heeded : Control → List ℕ → Bool → Control
heeded control value sets_cookies =
    if may_heed control value sets_cookies then with_age control value (seconds_under (codes "s-maxage") value) else control

-- what the readers of the code lend
abbrev pub shown_cache_directive : LentDirective → CacheDirective
shown_cache_directive d = record { name = d.name.now; argument = option_map (λ a. a.now) d.argument }

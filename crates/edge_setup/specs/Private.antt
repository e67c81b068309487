-- The URLs whose answers are one reader's own, and the names of the cookies by which they are fetched.
use Rattle.std.specs.Prelude.{ℕ, Bool, false, not, ◌&&◌, nat_eq, nat_le, bytes_eq, List, [], length, codes, Option, Some, None, is_some, if◌then◌else◌}
use Rattle.std.specs.List.{ends_with, list_all, slice_split}
use Rattle.std.specs.Str.{byte}
use Rattle.clap.specs.Words.{Row, Text}
use Rattle.edge_types.specs.Asked.{asked}
use Rattle.edge_types.specs.Blanks.{trimmed}
use Rattle.edge_types.specs.Token.{is_token}
use Rattle.edge_setup.specs.Lists.{is_comma, members}
use Rattle.edge_setup.specs.Options.{word_said}
use Rattle.edge_setup.specs.OriginWord.{has_byte}
use Rattle.edge_setup.specs.declared.word.Word.TheVariants as word

-- ---- prefixes

abbrev is_same : Text → Option (List ℕ) → Bool
is_same text None = false
is_same text (Some url) = bytes_eq url text

-- the text is a URL that is fetched, written as the edge writes it
abbrev pub is_url : Text → Bool
is_url text = is_same text (asked None text)

-- such a URL that ends with a `/`, has no query, and can't be read as a pattern
unfoldable pub is_prefix : Text → Bool
is_prefix text = ends_with nat_eq text (codes "/") && not (has_byte (byte "?") text) && not (has_byte (byte "*") text) && is_url text

-- a prefix, where the text is one
abbrev pub prefix_of : Text → Option (List ℕ)
prefix_of text = if is_prefix text then Some text else None

-- the prefixes that texts are, where each is one
abbrev pub prefixes_among : List Text → Option (List Text)
prefixes_among texts = if list_all is_prefix texts then Some texts else None

-- the prefixes that a word writes, with commas between; without a word there are none
abbrev pub prefixes_of : Option Text → Option (List Text)
prefixes_of None = Some []
prefixes_of (Some word) = prefixes_among (members word)

-- the prefixes that the options give, and whether they give some
abbrev pub prefixes_said : List Row → Option (List Text)
prefixes_said rows = prefixes_of (word_said word.Private rows)

abbrev pub has_private : List Row → Bool
has_private rows = is_some (word_said word.Private rows)

-- ---- cookies

-- the name of a cookie: a token (RFC 6265, "Syntax") of at most 64 bytes
abbrev pub is_cookie_name : Text → Bool
is_cookie_name name = is_token name && nat_le (length name) 64

-- such names, with commas between, and blanks around each
unfoldable pub are_cookie_names : Text → Bool
are_cookie_names text = list_all (λ name. is_cookie_name (trimmed name)) (slice_split is_comma text)

-- the names of cookies that a word writes, where there are private URLs; without a word there are none
abbrev pub cookies_of : Bool → Option Text → Option (Option Text)
cookies_of is_private None = Some None
cookies_of is_private (Some word) = if is_private && are_cookie_names word then Some (Some word) else None

-- the names that the options give
abbrev pub cookies_said : List Row → Option (Option Text)
cookies_said rows = cookies_of (has_private rows) (word_said word.PrivateCookies rows)

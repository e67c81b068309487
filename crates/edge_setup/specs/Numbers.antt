-- The options that take a number, and what they say by the rows of `clap`'s matches.
use Rattle.std.specs.Prelude.{ℕ, Bool, true, false, ◌&&◌, nat_le, List, [], ◌∷◌, map, codes, Option, Some, None, option_and_then, option_map, is_none, if◌then◌else◌}
use Rattle.clap.specs.Words.{App, Row, Rule, Text, first_of, with_rule}
use Rattle.edge_types.specs.Decimal.{decimal_of}
use Rattle.edge_setup.specs.Rules.{named_option, with_default}
use Rattle.edge_setup.specs.declared.number.Number.{Number}
use Rattle.edge_setup.specs.declared.number.Number.TheVariants.{Workers, Fetches, Ahead, Levels, Capacity, BodyBytes, TemplateBytes, PageBytes, Timeout, PageTimeout, OriginKeepAlive, OriginFetches, OriginQueue, OriginRest, OriginLookup, UrlRest, Accept, ClientTimeout, KeepAlive, Threads, Connections}
use Rattle.edge_setup.specs.declared.number.NumberRow.{NumberRow}

-- its name, its limits, the word that counts where it isn't there, if one does, and the line for a word that is no such number
pub record Numeric : Type 0 where
  pub name : Text
  pub least : ℕ
  pub most : ℕ
  pub default : Option Text
  pub refusal : Text

-- a row of the code
abbrev pub shown : NumberRow → Numeric
shown row = record { name = row.name.now; least = row.least; most = row.most; default = option_map (λ word. word.now) row.default; refusal = row.refusal.now }

abbrev numeric : Text → ℕ → ℕ → Option Text → Text → Numeric
numeric name least most default refusal = record { name = name; least = least; most = most; default = default; refusal = refusal }

-- ---- the options

-- the row of each
abbrev pub row_of : Number → Numeric
row_of Workers = numeric (codes "workers") 1 16 (Some (codes "4")) (codes "error: --workers takes a number from 1 to 16")
row_of Fetches = numeric (codes "fetches") 1 256 (Some (codes "1")) (codes "error: --fetches takes a number from 1 to 256")
row_of Ahead = numeric (codes "ahead") 0 256 None (codes "error: --ahead takes a number from 0 to 256")
row_of Levels = numeric (codes "levels") 1 8 (Some (codes "4")) (codes "error: --levels takes a number from 1 to 8")
row_of Capacity = numeric (codes "capacity") 1 1024 (Some (codes "128")) (codes "error: --capacity takes a number from 1 to 1024")
row_of BodyBytes = numeric (codes "body-bytes") 262144 16777216 (Some (codes "262144")) (codes "error: --body-bytes takes a number from 262144 to 16777216")
row_of TemplateBytes = numeric (codes "template-bytes") 262144 16777216 (Some (codes "262144")) (codes "error: --template-bytes takes a number from 262144 to 16777216")
row_of PageBytes = numeric (codes "page-bytes") 0 4294967295 (Some (codes "0")) (codes "error: --page-bytes takes a number from 0 to 4294967295")
row_of Timeout = numeric (codes "timeout") 0 86400000 (Some (codes "10000")) (codes "error: --timeout takes milliseconds, from 0 to 86400000")
row_of PageTimeout = numeric (codes "page-timeout") 0 86400000 (Some (codes "0")) (codes "error: --page-timeout takes milliseconds, from 0 to 86400000")
row_of OriginKeepAlive = numeric (codes "origin-keep-alive") 0 1024 (Some (codes "0")) (codes "error: --origin-keep-alive takes a number from 0 to 1024")
row_of OriginFetches = numeric (codes "origin-fetches") 0 65535 (Some (codes "0")) (codes "error: --origin-fetches takes a number from 0 to 65535")
row_of OriginQueue = numeric (codes "origin-queue") 0 65536 None (codes "error: --origin-queue takes a number from 0 to 65536")
row_of OriginRest = numeric (codes "origin-rest") 0 86400 (Some (codes "0")) (codes "error: --origin-rest takes seconds, from 0 to 86400")
row_of OriginLookup = numeric (codes "origin-lookup") 0 86400 (Some (codes "0")) (codes "error: --origin-lookup takes seconds, from 0 to 86400")
row_of UrlRest = numeric (codes "url-rest") 0 86400 (Some (codes "0")) (codes "error: --url-rest takes seconds, from 0 to 86400")
row_of Accept = numeric (codes "accept") 0 18446744073709551615 None (codes "error: --accept takes a number from 0 to 18446744073709551615")
row_of ClientTimeout = numeric (codes "client-timeout") 0 86400000 (Some (codes "60000")) (codes "error: --client-timeout takes milliseconds, from 0 to 86400000")
row_of KeepAlive = numeric (codes "keep-alive") 0 86400 (Some (codes "0")) (codes "error: --keep-alive takes seconds, from 0 to 86400")
row_of Threads = numeric (codes "threads") 1 64 (Some (codes "64")) (codes "error: --threads takes a number from 1 to 64")
row_of Connections = numeric (codes "connections") 1 65536 (Some (codes "64")) (codes "error: --connections takes a number from 1 to 65536")

-- all of them, in the order of the command
abbrev pub numbers : List Number
numbers =
    Workers ∷ Fetches ∷ Ahead ∷ Levels ∷ Capacity ∷ BodyBytes ∷ TemplateBytes ∷ PageBytes ∷ Timeout ∷ PageTimeout
    ∷ OriginKeepAlive ∷ OriginFetches ∷ OriginQueue ∷ OriginRest ∷ OriginLookup ∷ UrlRest ∷ Accept ∷ ClientTimeout ∷ KeepAlive ∷ Threads
    ∷ Connections ∷ []

-- the place of each in this order
abbrev pub place_of : Number → ℕ
place_of Workers = 0
place_of Fetches = 1
place_of Ahead = 2
place_of Levels = 3
place_of Capacity = 4
place_of BodyBytes = 5
place_of TemplateBytes = 6
place_of PageBytes = 7
place_of Timeout = 8
place_of PageTimeout = 9
place_of OriginKeepAlive = 10
place_of OriginFetches = 11
place_of OriginQueue = 12
place_of OriginRest = 13
place_of OriginLookup = 14
place_of UrlRest = 15
place_of Accept = 16
place_of ClientTimeout = 17
place_of KeepAlive = 18
place_of Threads = 19
place_of Connections = 20

-- ---- what they are to `clap`

-- an option, with its default, if it has one
abbrev pub defaulted : Option Text → Rule → Rule
defaulted None option = option
defaulted (Some word) option = with_default word option

abbrev pub numeric_option : Numeric → Rule
numeric_option row = defaulted row.default (named_option row.name)

-- a command with one more of them
abbrev pub with_number : App → Number → App
with_number command number = with_rule command (numeric_option (row_of number))

-- ---- what they say

-- a number that is at least so large
abbrev pub at_least : ℕ → Option ℕ → Option ℕ
at_least least number = option_and_then (λ n. if nat_le least n then Some n else None) number

-- the number from `least` to `most` that a word writes
abbrev pub number_in : ℕ → ℕ → Text → Option ℕ
number_in least most word = at_least least (decimal_of word most)

-- the word of an option, or else its default
abbrev pub or_default : Option Text → Option Text → Option Text
or_default default None = default
or_default default (Some word) = Some word

-- the number within its limits that a word says for an option; without a word it says none
abbrev pub said_by : Numeric → Option Text → Option (Option ℕ)
said_by row None = Some None
said_by row (Some word) = option_map Some (number_in row.least row.most word)

-- what is said of an option: nothing valid, or a number, or none where it has no default
abbrev pub said_of : Numeric → List Row → Option (Option ℕ)
said_of row rows = said_by row (or_default row.default (first_of row.name rows))

-- what is said of each of these
abbrev pub all_said : List Row → List Number → List (Option (Option ℕ))
all_said rows options = map (λ number. said_of (row_of number) rows) options

-- ---- what was said

-- a number is within the limits of its option, and none is only where the option has no default
abbrev pub fits : Numeric → Option ℕ → Bool
fits row None = is_none row.default
fits row (Some n) = nat_le row.least n && nat_le n row.most

-- the same of each of these options
abbrev pub all_fit : List Number → List (Option ℕ) → Bool
all_fit [] [] = true
all_fit [] (value ∷ values) = false
all_fit (option ∷ options) [] = false
all_fit (option ∷ options) (value ∷ values) = fits (row_of option) value && all_fit options values

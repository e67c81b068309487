-- The options of `serve` that take a word, and those without a value; `Numbers` has those that take a number.
use Rattle.std.specs.Prelude.{ℕ, Bool, List, [], ◌∷◌, map, codes, Option}
use Rattle.clap.specs.Words.{App, Row, Rule, Text, all_of, first_of, with_rule}
use Rattle.edge_setup.specs.Rules.{is_set, named_flag, named_option, repeated, wanted}
use Rattle.edge_setup.specs.declared.flag.Flag.{Flag}
use Rattle.edge_setup.specs.declared.flag.Flag.TheVariants as flag
use Rattle.edge_setup.specs.declared.word.Occurrence.{Occurrence}
use Rattle.edge_setup.specs.declared.word.Occurrence.TheVariants.{Once, AtMostOnce, AnyTimes}
use Rattle.edge_setup.specs.declared.word.Word.{Word}
use Rattle.edge_setup.specs.declared.word.Word.TheVariants as word
use Rattle.edge_setup.specs.declared.word.WordRow.{WordRow}

-- ---- the options that take a word

-- its name, and how often it may be given
pub record Worded : Type 0 where
  pub name : Text
  pub occurs : Occurrence

-- a row of the code
abbrev pub shown : WordRow → Worded
shown row = record { name = row.name.now; occurs = row.occurs }

abbrev worded : Text → Occurrence → Worded
worded name occurs = record { name = name; occurs = occurs }

-- the row of each
abbrev pub word_row : Word → Worded
word_row word.Listen = worded (codes "listen") Once
word_row word.Origin = worded (codes "origin") AnyTimes
word_row word.Admin = worded (codes "admin") AtMostOnce
word_row word.AdminHost = worded (codes "admin-host") AtMostOnce
word_row word.LogFormat = worded (codes "log-format") AtMostOnce
word_row word.Forwarded = worded (codes "forwarded") AtMostOnce
word_row word.Name = worded (codes "name") AtMostOnce
word_row word.PassFields = worded (codes "pass-fields") AtMostOnce
word_row word.SendFields = worded (codes "send-fields") AnyTimes
word_row word.Private = worded (codes "private") AtMostOnce
word_row word.PrivateCookies = worded (codes "private-cookies") AtMostOnce
word_row word.ForwardFields = worded (codes "forward-fields") AtMostOnce
word_row word.Config = worded (codes "config") AtMostOnce

-- all of them, in the order of the command
abbrev pub word_options : List Word
word_options =
    word.Listen ∷ word.Origin ∷ word.Admin ∷ word.AdminHost ∷ word.LogFormat ∷ word.Forwarded ∷ word.Name ∷ word.PassFields ∷ word.SendFields
    ∷ word.Private ∷ word.PrivateCookies ∷ word.ForwardFields ∷ word.Config ∷ []

-- to `clap` an option that may be given so often
abbrev pub occurring : Occurrence → Rule → Rule
occurring Once option = wanted option
occurring AtMostOnce option = option
occurring AnyTimes option = repeated option

abbrev pub word_option : Worded → Rule
word_option row = occurring row.occurs (named_option row.name)

-- a command with one more of them
abbrev pub with_word : App → Word → App
with_word command option = with_rule command (word_option (word_row option))

-- its word, and all its words, by the rows of `clap`'s matches
abbrev pub word_said : Word → List Row → Option Text
word_said option rows = first_of (word_row option).name rows

abbrev pub all_words_said : Word → List Row → Option (List Text)
all_words_said option rows = all_of (word_row option).name rows

-- ---- the options without a value

-- the name of each
abbrev pub flag_name : Flag → Text
flag_name flag.Head = codes "head"
flag_name flag.AbortOnClose = codes "abort-on-close"
flag_name flag.CacheControl = codes "cache-control"
flag_name flag.ProcessErrors = codes "process-errors"
flag_name flag.Etag = codes "etag"
flag_name flag.StopWithInput = codes "stop-with-input"
flag_name flag.Log = codes "log"
flag_name flag.PrintConfig = codes "print-config"

-- all of them, in the order of the command
abbrev pub flag_options : List Flag
flag_options = flag.Head ∷ flag.AbortOnClose ∷ flag.CacheControl ∷ flag.ProcessErrors ∷ flag.Etag ∷ flag.StopWithInput ∷ flag.Log ∷ flag.PrintConfig ∷ []

-- the place of each in this order
abbrev pub flag_place : Flag → ℕ
flag_place flag.Head = 0
flag_place flag.AbortOnClose = 1
flag_place flag.CacheControl = 2
flag_place flag.ProcessErrors = 3
flag_place flag.Etag = 4
flag_place flag.StopWithInput = 5
flag_place flag.Log = 6
flag_place flag.PrintConfig = 7

-- a command with one more of them
abbrev pub with_flag : App → Flag → App
with_flag command option = with_rule command (named_flag (flag_name option))

-- whether it is set
abbrev pub is_flag_set : Flag → List Row → Bool
is_flag_set option rows = is_set (first_of (flag_name option) rows)

-- whether each of them is set
abbrev pub all_flags_said : List Row → List Bool
all_flags_said rows = map (λ option. is_flag_set option rows) flag_options

-- The options of `serve` in a configuration file.
use Rattle.std.specs.Prelude.{Bool, true, false, ◌||◌, List, [], ◌∷◌, ◌++◌, codes, Option, Some, None, unwrap_or, if◌then◌else◌}
use Rattle.std.specs.Borrow.{Bor}
use Rattle.std.specs.List.{flat_map}
use Rattle.std.specs.Option.{option_map_or}
use Rattle.clap.specs.Words.{Row, Text, all_of, first_of}
use Rattle.clap.specs.declared.builder.action.ArgAction.{ArgAction}
use Rattle.clap.specs.declared.builder.action.ArgAction.TheVariants.{Append, Set, SetTrue}
use Rattle.clap.specs.declared.builder.arg.Arg.{Arg}
use Rattle.config_file.specs.Lines.{is_of_line, is_origin}
use Rattle.config_file.specs.Writing.{line_text, list_text, row_text}
use Rattle.edge_setup.specs.Options.{all_words_said}
use Rattle.edge_setup.specs.declared.word.Word.TheVariants as word

abbrev sets_true : ArgAction → Bool
sets_true SetTrue = true
sets_true _ = false

-- an option without a value
abbrev pub is_flag : Arg → Bool
is_flag option = sets_true (unwrap_or option.action Set)

abbrev appends : ArgAction → Bool
appends Append = true
appends _ = false

-- an option that may be given more than once
abbrev pub is_repeated : Arg → Bool
is_repeated option = appends (unwrap_or option.action Set)

-- its name, where it is one without a value, one that may be given more than once, and another
abbrev pub flag_of : Arg → List (Bor Text)
flag_of option = if is_flag option then option.id ∷ [] else []

abbrev pub valued_of : Arg → List (Bor Text)
valued_of option = if is_flag option || is_repeated option then [] else option.id ∷ []

abbrev pub repeated_of : Arg → List (Bor Text)
repeated_of option = if is_repeated option then option.id ∷ [] else []

-- ---- what holds

-- the line of an option, where it holds: not of those that name a file or print one, nor of origins
abbrev pub line_of : List Row → Arg → Text
line_of rows option =
    if is_of_line option.id.now || is_origin option.id.now then []
    else (if is_repeated option then option_map_or (list_text option.id.now) (all_of option.id.now rows) []
    else option_map_or (line_text option.id.now (is_flag option)) (first_of option.id.now rows) [])

abbrev pub rows_text : List Text → Text
rows_text words = flat_map row_text words

-- the origins, by the words of their option
abbrev pub origins_text : Option (List Text) → Text
origins_text None = []
origins_text (Some words) = codes "\n[origins]\n" ++ rows_text words

-- the options in the order of the command, and then the origins
abbrev pub held_text : List Arg → List Row → Text
held_text options rows = flat_map (line_of rows) options ++ origins_text (all_words_said word.Origin rows)

-- The subcommand `serve`, by `clap`'s definitions of commands.
use Rattle.std.specs.Prelude.{codes, fold}
use Rattle.clap.specs.Words.{App, new_app}
use Rattle.edge_setup.specs.Numbers.{numbers, with_number}
use Rattle.edge_setup.specs.Options.{flag_options, with_flag, with_word, word_options}

-- the options that take a word
abbrev pub with_words : App → App
with_words command = fold with_word command word_options

-- the options that take a number
abbrev pub with_numbers : App → App
with_numbers command = fold with_number command numbers

-- the options without a value
abbrev pub with_flags : App → App
with_flags command = fold with_flag command flag_options

-- the subcommand `serve`
abbrev pub serve_command : App
serve_command = with_flags (with_numbers (with_words (new_app (codes "serve"))))

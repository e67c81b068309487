use Rattle.std.proofs.Common.{◌≡◌, fold, take}
use Rattle.clap.specs.Words.{app_of}
use Rattle.clap.specs.declared.builder.command.Command.TheViews.{out-Command as fields_of}
use Rattle.edge_setup.specs.Options.{word_options, with_word}
use Rattle.edge_setup.proofs.command.with_words.Given as goal

abbrev pub invariant-loop-word : goal.invariant-loop-word
invariant-loop-word l =
    (app_of l.command ≡ fold with_word (app_of l.fn.command) (take l.word-index word_options))
    × ((fields_of l.command).has_globals ≡ (fields_of l.fn.command).has_globals)

use Rattle.std.proofs.Common.{◌∙◌, fold, sym, ap, ap₂, arith}
use Rattle.std.proofs.lemmas.List.{take_all}
use Rattle.clap.specs.Words.{app_of, with_rule}
use Rattle.edge_setup.specs.Options.{word_options, with_word}
use Rattle.edge_setup.proofs.NumberLemmas.{fold_next}
use Rattle.edge_setup.proofs.command.with_words.Goals as goal

pub loop-word-preserved : goal.loop-word-preserved
loop-word-preserved c = (
  c.in_ok-command.ensures.app ∙ ap₂ with_rule c.loop-word.invariant.0 c.arg.ensures.rule
      ∙ sym (fold_next with_word (app_of c.args.command) word_options c.loop-word.word-index _ c.loop-word-test.true),
  c.in_ok-command.ensures.local ∙ c.loop-word.invariant.1,
)

pub returns-clause-app : goal.returns-clause-app
returns-clause-app c =
    let from = c.loop-word-test.false in
    c.loop-word.invariant.0 ∙ ap (fold with_word (app_of c.args.command)) (take_all c.loop-word.word-index word_options (omega (arith, from)))

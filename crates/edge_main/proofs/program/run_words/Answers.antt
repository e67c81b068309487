use Rattle.std.proofs.Common.{◌≡◌, ◌∙◌, map, string_bytes, true, rules}
use Rattle.edge_commands.specs.declared.command.Invocation.TheVariants.{Case, Serve}
use Rattle.edge_commands.specs.CommandLine.{Asks}
use Rattle.edge_main.proofs.ProgramLemmas.{does_explained}
use Rattle.edge_main.proofs.program.run_words.Goals as goal

pub returns-then-is_why-clause-ran : goal.returns-then-is_why-clause-ran
returns-then-is_why-clause-ran g c =
    let words = map string_bytes c.args.words.now in
    let ran = c.run_case_and_keep-ended.ensures in
    let asks : Asks words (Case c.in-Case.order c.in-Case.ahead c.in-Case.levels c.in-Case.is_why) = rw c.in-Case.is at c.in_ok-order.ensures.judged in
    let is : c.in-Case.is_why ≡ true = search rules in
    rw c.explained_by.ensures (does_explained words c.in-Case.levels _ _ _ c.run_case_and_keep-ended.result ran.printed ran.text ran.leg ran.bad_case ran.nothing ran.part
    (c.in-Case.order.items, c.in-Case.ahead, asks.0) (asks.1 ∙ is))

pub returns-in-Serve-clause-ran : goal.returns-in-Serve-clause-ran
returns-in-Serve-clause-ran g c =
    let words = map string_bytes c.args.words.now in
    let asks : Asks words (Serve c.in-Serve.setup) = rw c.in-Serve.is at c.in_ok-order.ensures.judged in
    record { setup = c.in-Serve.setup; asks = asks; options_are = c.options_of.ensures; untouched = search rules }

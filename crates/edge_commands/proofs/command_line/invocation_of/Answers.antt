use Rattle.std.proofs.Common.{◌≡◌, map, string_bytes, [], ap, sym, subst, ◌∙◌, rules}
use Rattle.std.specs.Prelude.{MatchResult, List, Option}
use Rattle.clap.specs.Words.{App, HasKind, Row, Text, fault_of, is_simple, is_simple_and_free, subcommand_of}
use Rattle.edge_commands.specs.CommandLine.{program, IsInvokedBy, IsRefusedBy}
use Rattle.edge_commands.proofs.Matches.{program_is_simple, program_is_free, judged}
use Rattle.edge_commands.proofs.command_line.invocation_of.Goals as goal

pub returns-clause-judged : goal.returns-clause-judged
returns-clause-judged c =
    let words = map string_bytes c.args.words.now in
    let is = c.in_ok-command.ensures in
    let met = (c.in_ok-matches.ensures.matches (ap is_simple is ∙ program_is_simple)).1 ∙ ap (λ (a : App). subcommand_of a words) is in
    let taken : fault_of program words ≡ [] = sym (ap (λ (a : App). fault_of a words) is) ∙ c.in_ok-matches.ensures.kinds (ap is_simple_and_free is ∙ program_is_free) in
    judged words c.invocation_by.result taken
    (subst (λ (m : Option (Text × List Row)). MatchResult c.invocation_by.result (IsInvokedBy m) (IsRefusedBy m)) met c.invocation_by.ensures.judged)

pub returns-in_err-matches-clause-judged : goal.returns-in_err-matches-clause-judged
returns-in_err-matches-clause-judged c =
    let words = map string_bytes c.args.words.now in
    let is = c.in_ok-command.ensures in
    let kinds = c.in_err-matches.ensures.kinds (ap is_simple_and_free is ∙ program_is_free) in
    let refused : HasKind (fault_of program words) c.in_err-matches.field-0.0 = subst (λ (a : App). HasKind (fault_of a words) c.in_err-matches.field-0.0) is kinds in
    search rules

-- The subcommand `check`, by `clap`'s definitions of commands, and what its words ask for.
use Rattle.std.specs.Prelude.{◌≡◌, List, [], map, true, codes, Option, Some, None}
use Rattle.clap.specs.Words.{App, Row, Rule, Text, all_of, first_of, new_app, new_rule, with_rule}
use Rattle.clap.specs.declared.builder.action.ArgAction.TheVariants.{Append}
use Rattle.edge_setup.specs.declared.check.Checking.{Checking}
use Rattle.edge_setup.specs.Rules.{is_set, named_flag}

-- words without an option, one or more
abbrev pub named_files : Text → Rule
named_files name = record (new_rule name) { value_names = 1; required = true; action = Some Append }

-- the subcommand `check`
abbrev pub check_command : App
check_command = with_rule (with_rule (new_app (codes "check")) (named_flag (codes "strict"))) (named_files (codes "file"))

-- the files that the words name, in order
abbrev pub files_of : Option (List Text) → List Text
files_of None = []
files_of (Some words) = words

-- what the words ask for
pub record SaysChecking (rows : List Row) (checking : Checking) : Type 0 where
  pub files_are : map (λ file. file.now) checking.files.items ≡ files_of (all_of (codes "file") rows)
  pub strict_is : is_set (first_of (codes "strict") rows) ≡ checking.is_strict

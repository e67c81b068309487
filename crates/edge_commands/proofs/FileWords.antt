-- What `clap` makes of the words of `check`.
use Rattle.std.proofs.Common.{◌≡◌, Bool, true, false, List, [], ◌∷◌, map, codes, refl, sym, ◌∙◌, ap, Option, Some, None}
use Rattle.clap.specs.Words.{Row, Text, all_of, fault_of, first_of, subcommand_of}
use Rattle.clap.specs.declared.error.kind.ErrorKind.TheVariants.{MissingRequiredArgument}
use Rattle.clap.proofs.OnLiterals.{clap_on_literals}
use Rattle.edge_setup.specs.Check.{files_of}
use Rattle.edge_setup.specs.Rules.{is_set}
use Rattle.edge_setup.specs.declared.check.Checking.{Checking}
use Rattle.edge_commands.specs.CommandLine.{program, AsksCheck}
use Rattle.edge_commands.specs.Laws.{IsPlain, AskForCheck, FilesAreAsked, FilesAreWanted}
use Rattle.edge_commands.proofs.WrittenOut.{no_dashes, no_dash}

-- the name and the rows of what was met; none where nothing was
abbrev name_met : Option (Text × List Row) → Text
name_met None = []
name_met (Some met) = met.0

abbrev rows_met : Option (Text × List Row) → List Row
rows_met None = []
rows_met (Some met) = met.1

-- the words are taken, and name these files
abbrev Name : List Text → List Text → Bool → Type 0
Name words files is_strict = (fault_of program words ≡ [])
    × (name_met (subcommand_of program words) ≡ codes "check")
    × (files_of (all_of (codes "file") (rows_met (subcommand_of program words))) ≡ files)
    × (is_set (first_of (codes "strict") (rows_met (subcommand_of program words))) ≡ is_strict)

met-is : (met : Option (Text × List Row)) → name_met met ≡ codes "check" → met ≡ Some (codes "check", rows_met met)
met-is None named = absurd (cc)
met-is (Some met) named = ap (λ name. Some (name, met.1)) named

asks : (words files : List Text) (is_strict : Bool) → Name words files is_strict → AskForCheck words files is_strict
asks words files is_strict names checking = ((λ asked. said asked), λ wanted. asked wanted)
  where
    said : AsksCheck words checking → (map (λ file. file.now) checking.files.items ≡ files) × (checking.is_strict ≡ is_strict)
    said asked =
        let same : asked.says.rows ≡ rows_met (subcommand_of program words) = sym (ap rows_met asked.says.met_is) in (
          asked.says.says.files_are ∙ (ap (λ rows. files_of (all_of (codes "file") rows)) same ∙ names.2),
          sym asked.says.says.strict_is ∙ (ap (λ rows. is_set (first_of (codes "strict") rows)) same ∙ names.3),
        )

    asked : (map (λ file. file.now) checking.files.items ≡ files) × (checking.is_strict ≡ is_strict) → AsksCheck words checking
    asked wanted = record {
      taken = names.0;
      says = record {
        rows = rows_met (subcommand_of program words);
        met_is = met-is (subcommand_of program words) names.1;
        says = record { files_are = wanted.0 ∙ sym names.2; strict_is = names.3 ∙ sym wanted.1 };
      };
    }

-- one file, and two
one-file : (name file : Text) → IsPlain file → Name (name ∷ codes "check" ∷ file ∷ []) (file ∷ []) false
unfolding clap_on_literals
one-file name file plain =
    rw (no_dashes file plain, no_dash file plain, no_dash file plain)
    (refl {a = []}, refl {a = codes "check"}, refl {a = file ∷ []}, refl {a = false})

two-files : (name file other : Text) → IsPlain file → IsPlain other → Name (name ∷ codes "check" ∷ file ∷ other ∷ []) (file ∷ other ∷ []) false
unfolding clap_on_literals
two-files name file other plain other_plain =
    rw (no_dashes file plain, no_dash file plain, no_dash file plain, no_dashes other other_plain, no_dash other other_plain, no_dash other other_plain)
    (refl {a = []}, refl {a = codes "check"}, refl {a = file ∷ other ∷ []}, refl {a = false})

-- standard input, and a file
input-and-file : (name file : Text) → IsPlain file → Name (name ∷ codes "check" ∷ codes "-" ∷ file ∷ []) (codes "-" ∷ file ∷ []) false
unfolding clap_on_literals
input-and-file name file plain =
    rw (no_dashes file plain, no_dash file plain, no_dash file plain)
    (refl {a = []}, refl {a = codes "check"}, refl {a = codes "-" ∷ file ∷ []}, refl {a = false})

-- `--strict` before the files, and between them
strict-before : (name file : Text) → IsPlain file → Name (name ∷ codes "check" ∷ codes "--strict" ∷ file ∷ []) (file ∷ []) true
unfolding clap_on_literals
strict-before name file plain =
    rw (no_dashes file plain, no_dash file plain, no_dash file plain)
    (refl {a = []}, refl {a = codes "check"}, refl {a = file ∷ []}, refl {a = true})

strict-between : (name file other : Text) → IsPlain file → IsPlain other → Name (name ∷ codes "check" ∷ file ∷ codes "--strict" ∷ other ∷ []) (file ∷ other ∷ []) true
unfolding clap_on_literals
strict-between name file other plain other_plain =
    rw (no_dashes file plain, no_dash file plain, no_dash file plain, no_dashes other other_plain, no_dash other other_plain, no_dash other other_plain)
    (refl {a = []}, refl {a = codes "check"}, refl {a = file ∷ other ∷ []}, refl {a = true})

pub files_are_asked : FilesAreAsked
files_are_asked name file other plain other_plain = (
  asks _ _ _ (one-file name file plain),
  asks _ _ _ (two-files name file other plain other_plain),
  asks _ _ _ (input-and-file name file plain),
  asks _ _ _ (strict-before name file plain),
  asks _ _ _ (strict-between name file other plain other_plain),
)

-- without a file
none-named : (name : Text) → fault_of program (name ∷ codes "check" ∷ []) ≡ MissingRequiredArgument ∷ []
unfolding clap_on_literals
none-named name = refl

none-named_strictly : (name : Text) → fault_of program (name ∷ codes "check" ∷ codes "--strict" ∷ []) ≡ MissingRequiredArgument ∷ []
unfolding clap_on_literals
none-named_strictly name = refl

faulty : (words : List Text) (checking : Checking) → fault_of program words ≡ MissingRequiredArgument ∷ [] → AsksCheck words checking → ⊥
faulty words checking fault asked = let clash : [] ≡ MissingRequiredArgument ∷ [] = sym asked.taken ∙ fault in absurd (cc)

pub files_are_wanted : FilesAreWanted
files_are_wanted name checking = (faulty _ checking (none-named name), faulty _ checking (none-named_strictly name))

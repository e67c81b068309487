-- Laws of the command line: what words that are given in full ask for.
use Rattle.std.specs.Prelude.{◌≡◌, ◌≢◌, ◌↔◌, ◌≤◌, ℕ, Bool, true, false, List, [], ◌∷◌, map, codes}
use Rattle.std.specs.Str.{byte}
use Rattle.clap.specs.Words.{Text}
use Rattle.edge_types.specs.Decimal.{WritesNumber}
use Rattle.esi_meaning.specs.Meaning.{AreLevels}
use Rattle.plan_runner.specs.declared.events.Event.{Event}
use Rattle.plan_runner.specs.declared.page.TheConstants.{MAX_AHEAD}
use Rattle.edge_case.specs.Order.{Lists}
use Rattle.edge_setup.specs.declared.check.Checking.{Checking}
use Rattle.edge_commands.specs.CommandLine.{AsksCase, AsksCheck, AsksWhy}

-- the words `NAME case`
abbrev pub plain_words : Text → List Text
plain_words name = name ∷ codes "case" ∷ []

-- the words `NAME case --order WORD`, and so on
abbrev pub order_words : Text → Text → List Text
order_words name word = name ∷ codes "case" ∷ codes "--order" ∷ word ∷ []

abbrev pub ahead_words : Text → Text → List Text
ahead_words name word = name ∷ codes "case" ∷ codes "--ahead" ∷ word ∷ []

abbrev pub levels_words : Text → Text → List Text
levels_words name word = name ∷ codes "case" ∷ codes "--levels" ∷ word ∷ []

-- the words `NAME case --why`
abbrev pub why_words : Text → List Text
why_words name = name ∷ codes "case" ∷ codes "--why" ∷ []

-- the words `NAME case --order LIST --ahead N --levels N`
abbrev pub all_words : Text → Text → Text → Text → List Text
all_words name list ahead levels = name ∷ codes "case" ∷ codes "--order" ∷ list ∷ codes "--ahead" ∷ ahead ∷ codes "--levels" ∷ levels ∷ []

-- a word that doesn't begin with `-`
abbrev pub IsPlain : Text → Type 0
IsPlain [] = Unit {0}
IsPlain (b ∷ bs) = b ≢ byte "-"

-- the word writes a number of slots ahead
abbrev pub IsAhead : Text → ℕ → Type 0
IsAhead word ahead = WritesNumber word ahead × (ahead ≤ MAX_AHEAD)

-- the word writes a number of levels
abbrev pub IsLevels : Text → ℕ → Type 0
IsLevels word levels = WritesNumber word levels × AreLevels levels

-- the words don't ask for a case
abbrev pub AskForNone : List Text → Type 0
AskForNone words = (order : List Event) (ahead levels : ℕ) → AsksCase words order ahead levels → ⊥

-- without an option: no event, 16 slots ahead, 4 levels
abbrev pub DefaultsAreAsked : Type 0
DefaultsAreAsked = (name : Text) (order : List Event) (ahead levels : ℕ)
    → AsksCase (plain_words name) order ahead levels ↔ ((order ≡ []) × (ahead ≡ 16) × (levels ≡ 4))

-- `--order` asks for the events that its value lists, and for no case if it lists none
abbrev pub OrderIsAsked : Type 0
OrderIsAsked = (name word : Text) → IsPlain word → (order : List Event) (ahead levels : ℕ)
    → AsksCase (order_words name word) order ahead levels ↔ (Lists word order × (ahead ≡ 16) × (levels ≡ 4))

-- `--ahead` asks for the number of slots that its value writes, and for no case if it writes none
abbrev pub AheadIsAsked : Type 0
AheadIsAsked = (name word : Text) → IsPlain word → (order : List Event) (ahead levels : ℕ)
    → AsksCase (ahead_words name word) order ahead levels ↔ ((order ≡ []) × IsAhead word ahead × (levels ≡ 4))

-- `--levels` asks for the number of levels that its value writes, and for no case if it writes none
abbrev pub LevelsAreAsked : Type 0
LevelsAreAsked = (name word : Text) → IsPlain word → (order : List Event) (ahead levels : ℕ)
    → AsksCase (levels_words name word) order ahead levels ↔ ((order ≡ []) × (ahead ≡ 16) × IsLevels word levels)

-- the three options together
abbrev pub AllAreAsked : Type 0
AllAreAsked = (name list slots depth : Text) → IsPlain list → IsPlain slots → IsPlain depth → (order : List Event) (ahead levels : ℕ)
    → AsksCase (all_words name list slots depth) order ahead levels ↔ (Lists list order × IsAhead slots ahead × IsLevels depth levels)

-- `--why` asks for the reason of a fault, and without it nothing does; the run is the same as without the option
abbrev pub WhyIsAsked : Type 0
WhyIsAsked = (name : Text) → AsksWhy (why_words name) true × AsksWhy (plain_words name) false
    × ((order : List Event) (ahead levels : ℕ) → AsksCase (why_words name) order ahead levels ↔ ((order ≡ []) × (ahead ≡ 16) × (levels ≡ 4)))

-- a value that isn't a number from 1 to 8 is refused
abbrev pub OtherLevelsAreRefused : Type 0
OtherLevelsAreRefused = (name word : Text) → IsPlain word → ((n : ℕ) → IsLevels word n → ⊥) → AskForNone (levels_words name word)

-- an option without its value is refused
abbrev pub OptionsWantWords : Type 0
OptionsWantWords = (name : Text) → AskForNone (name ∷ codes "case" ∷ codes "--order" ∷ [])
    × AskForNone (name ∷ codes "case" ∷ codes "--ahead" ∷ [])
    × AskForNone (name ∷ codes "case" ∷ codes "--levels" ∷ [])

-- an option that is given twice is refused
abbrev pub OptionsStandOnce : Type 0
OptionsStandOnce = (name one other : Text) → IsPlain one → IsPlain other
    → AskForNone (name ∷ codes "case" ∷ codes "--order" ∷ one ∷ codes "--order" ∷ other ∷ [])
    × AskForNone (name ∷ codes "case" ∷ codes "--ahead" ∷ one ∷ codes "--ahead" ∷ other ∷ [])
    × AskForNone (name ∷ codes "case" ∷ codes "--levels" ∷ one ∷ codes "--levels" ∷ other ∷ [])

-- ---- the words of `check`

-- the words ask for the checks of these files, strict or not, and for no other check
abbrev pub AskForCheck : List Text → List Text → Bool → Type 0
AskForCheck words files is_strict = (checking : Checking) → AsksCheck words checking ↔ ((map (λ file. file.now) checking.files.items ≡ files) × (checking.is_strict ≡ is_strict))

-- the words after the command name files; `-` is one, and `--strict` isn't, before them or between
abbrev pub FilesAreAsked : Type 0
FilesAreAsked = (name file other : Text) → IsPlain file → IsPlain other
    → AskForCheck (name ∷ codes "check" ∷ file ∷ []) (file ∷ []) false
    × AskForCheck (name ∷ codes "check" ∷ file ∷ other ∷ []) (file ∷ other ∷ []) false
    × AskForCheck (name ∷ codes "check" ∷ codes "-" ∷ file ∷ []) (codes "-" ∷ file ∷ []) false
    × AskForCheck (name ∷ codes "check" ∷ codes "--strict" ∷ file ∷ []) (file ∷ []) true
    × AskForCheck (name ∷ codes "check" ∷ file ∷ codes "--strict" ∷ other ∷ []) (file ∷ other ∷ []) true

-- without a file they ask for no check
abbrev pub FilesAreWanted : Type 0
FilesAreWanted = (name : Text) (checking : Checking)
    → (AsksCheck (name ∷ codes "check" ∷ []) checking → ⊥) × (AsksCheck (name ∷ codes "check" ∷ codes "--strict" ∷ []) checking → ⊥)

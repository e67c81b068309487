-- The grammar of directives: which texts spell one.
use Rattle.std.specs.Prelude.{◌≡◌, ℕ, ◌<◌, min, Bool, true, not, ◌==◌, ◌⊎◌, List, [], ◌∷◌, ◌++◌, length, codes, Some}
use Rattle.std.specs.List.{list_all}
use Rattle.std.specs.Char.{is_ascii_digit}
use Rattle.std.specs.Str.{byte, str_eq_ignore_ascii_case}
use Rattle.std.specs.Str.Parse.{digits_value}
use Rattle.surrogate_headers.specs.declared.parameter.Age.{Age}
use Rattle.surrogate_headers.specs.declared.directive.Asks.{Asks}
use Rattle.surrogate_headers.specs.declared.directive.Asks.TheVariants.{NoStore, MaxAge, Content}
use Rattle.edge_types.specs.Token.{is_token}
use Rattle.edge_types.specs.Blanks.{is_blank}
use Rattle.surrogate_headers.specs.Parameter.{ends_value, max_seconds, names_esi}
use Rattle.surrogate_headers.specs.Directive.{Target, Every, Device, Directive, directive_of}

-- each byte of the text passes the test, and no byte does
abbrev pub EachPasses : (ℕ → Bool) → List ℕ → Type 0
EachPasses p text = list_all p text ≡ true

abbrev pub NonePasses : (ℕ → Bool) → List ℕ → Type 0
NonePasses p text = list_all (λ b. not (p b)) text ≡ true

-- the text is this name, ignoring case
abbrev pub IsNamed : List ℕ → List ℕ → Type 0
IsNamed text name = str_eq_ignore_ascii_case text name ≡ true

-- a value between quotes, without a quote in it
pub record SpellsQuoted (spelling value : List ℕ) : Type 0 where
  pub spelled : spelling ≡ byte "\"" ∷ (value ++ byte "\"" ∷ [])
  pub no_quote : NonePasses (λ b. b == byte "\"") value

-- a value without quotes: one or more bytes, of which none ends a value
pub record SpellsBare (spelling value : List ℕ) : Type 0 where
  pub spelled : spelling ≡ value
  pub some : 0 < length value
  pub no_end : NonePasses ends_value value

abbrev pub SpellsValue : List ℕ → List ℕ → Type 0
SpellsValue spelling value = SpellsQuoted spelling value ⊎ SpellsBare spelling value

-- one or more digits that write a number of seconds
pub record SpellsSeconds (digits : List ℕ) (n : ℕ) : Type 0 where
  pub some : 0 < length digits
  pub each_digit : EachPasses is_ascii_digit digits
  pub value : n ≡ min (digits_value 10 digits) max_seconds

-- an age without an extension
pub record SpellsPlainAge (value : List ℕ) (age : Age) : Type 0 where
  pub seconds : SpellsSeconds value age.seconds
  pub none : age.extension ≡ 0

-- an age, a `+` and an extension
pub record SpellsExtendedAge (value : List ℕ) (age : Age) : Type 0 where
  pub front : List ℕ
  pub back : List ℕ
  pub joined : value ≡ front ++ byte "+" ∷ back
  pub seconds : SpellsSeconds front age.seconds
  pub extension : SpellsSeconds back age.extension

abbrev pub SpellsAge : List ℕ → Age → Type 0
SpellsAge value age = SpellsPlainAge value age ⊎ SpellsExtendedAge value age

-- a name, `=` and a value
pub record SpellsParameter (text name value : List ℕ) : Type 0 where
  pub front : List ℕ
  pub back : List ℕ
  pub joined : text ≡ front ++ byte "=" ∷ back
  pub named : IsNamed front name
  pub spelled : SpellsValue back value

-- a name, with its value if it has one
abbrev pub SpellsAsks : List ℕ → Asks → Type 0
SpellsAsks text NoStore = IsNamed text (codes "no-store") ⊎ IsNamed text (codes "no-store-remote")
SpellsAsks text (MaxAge age) = (value : List ℕ) × SpellsParameter text (codes "max-age") value × SpellsAge value age
SpellsAsks text (Content esi) = (value : List ℕ) × SpellsParameter text (codes "content") value × (esi ≡ names_esi value)

-- a `;` and a token, with any blanks around the `;`
pub record SpellsDevice (text token : List ℕ) : Type 0 where
  pub before : List ℕ
  pub after : List ℕ
  pub joined : text ≡ before ++ byte ";" ∷ (after ++ token)
  pub blank_before : EachPasses is_blank before
  pub blank_after : EachPasses is_blank after
  pub is_one : is_token token ≡ true

abbrev pub SpellsTarget : List ℕ → Target → Type 0
SpellsTarget text Every = text ≡ []
SpellsTarget text (Device token) = SpellsDevice text token

-- what is asked, and after it the device if there is one
pub record Spells (part : List ℕ) (directive : Directive) : Type 0 where
  pub front : List ℕ
  pub back : List ℕ
  pub joined : part ≡ front ++ back
  pub asks : SpellsAsks front directive.asks
  pub target : SpellsTarget back directive.target

-- What is read is spelled by the text, and what is spelled is read.
pub record ReadsDirectives : Type 0 where
  pub sound : (part : List ℕ) (directive : Directive) → directive_of part ≡ Some directive → Spells part directive
  pub complete : (part : List ℕ) (directive : Directive) → Spells part directive → directive_of part ≡ Some directive

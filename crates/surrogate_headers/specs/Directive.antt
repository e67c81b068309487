-- A directive: what it asks, and which device it is aimed at.
use Rattle.std.specs.Prelude.{ℕ, Bool, ◌||◌, ◌==◌, List, [], ◌∷◌, take, drop, codes, Option, Some, None, if◌then◌else◌}
use Rattle.std.specs.List.{position_or_len}
use Rattle.std.specs.Borrow.{Bor}
use Rattle.std.specs.Str.{byte, str_eq_ignore_ascii_case}
use Rattle.edge_types.specs.Token.{is_token}
use Rattle.edge_types.specs.Blanks.{is_blank, skip_blanks}
use Rattle.surrogate_headers.specs.Parameter.{◌>>=◌, value_at, age_of, names_esi}
use Rattle.surrogate_headers.specs.declared.directive.Name.{Name}
use Rattle.surrogate_headers.specs.declared.directive.Name.TheVariants as name
use Rattle.surrogate_headers.specs.declared.directive.Asks.{Asks}
use Rattle.surrogate_headers.specs.declared.directive.Asks.TheVariants.{NoStore, MaxAge, Content}
use Rattle.surrogate_headers.specs.declared.directive.Target.{Target as LentTarget}
use Rattle.surrogate_headers.specs.declared.directive.Target.TheVariants as lent
use Rattle.surrogate_headers.specs.declared.directive.Directive.{Directive as LentDirective}

-- which devices a directive is aimed at: every one, or the one with this token
pub data Target : Type 0 where
  Every : Target
  Device : List ℕ → Target

pub record Directive : Type 0 where
  pub asks : Asks
  pub target : Target

-- a byte that ends a name
unfoldable pub ends_name : ℕ → Bool
ends_name b = is_blank b || (b == byte "=" || b == byte ";")

-- the name that a text writes, ignoring case
unfoldable pub name_of : List ℕ → Option Name
name_of text =
    if str_eq_ignore_ascii_case text (codes "no-store") || str_eq_ignore_ascii_case text (codes "no-store-remote") then Some name.NoStore
    else (if str_eq_ignore_ascii_case text (codes "max-age") then Some name.MaxAge
    else (if str_eq_ignore_ascii_case text (codes "content") then Some name.Content else None))

-- what a name asks with its value, and the text after them
unfoldable pub asked_by : Name → List ℕ → Option (Asks × List ℕ)
asked_by name.NoStore text = Some (NoStore, text)
asked_by name.MaxAge text = do
  value ← value_at text
  age ← age_of value.0
  Some (MaxAge age, value.1)
asked_by name.Content text = do
  value ← value_at text
  Some (Content (names_esi value.0), value.1)

-- the token after a `;`, with or without blanks before it
abbrev pub token_behind : List ℕ → Option Target
token_behind [] = None
token_behind (b ∷ bs) = if b == byte ";" then (if is_token (skip_blanks bs) then Some (Device (skip_blanks bs)) else None) else None

-- the target that ends a directive
unfoldable pub target_of : List ℕ → Option Target
target_of [] = Some Every
target_of (b ∷ bs) = token_behind (skip_blanks (b ∷ bs))

-- the directive that a part of a header is, if it is well formed
unfoldable pub directive_of : List ℕ → Option Directive
directive_of part = do
  let n = position_or_len ends_name part
  name ← name_of (take n part)
  asked ← asked_by name (drop n part)
  target ← target_of asked.1
  Some (record { asks = asked.0; target = target })

-- what the readers of the code lend
abbrev pub shown_asked : Asks × Bor (List ℕ) → Asks × List ℕ
shown_asked asked = (asked.0, asked.1.now)

abbrev pub shown_target : LentTarget → Target
shown_target lent.Every = Every
shown_target (lent.Device token) = Device token.now

abbrev pub shown_directive : LentDirective → Directive
shown_directive d = record { asks = d.asks; target = shown_target d.target }

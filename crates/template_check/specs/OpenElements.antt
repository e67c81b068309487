-- Which elements are open after tokens, of which the last comes first.
use Rattle.std.specs.Prelude.{ℕ, zero, suc, ◌+◌, ◌==◌, Bool, true, false, ◌&&◌, List, [], ◌∷◌, Option, Some, None, if◌then◌else◌}
use Rattle.esi_scanner.specs.declared.element_name.ElementName.{ElementName}
use Rattle.esi_scanner.specs.declared.token.Kind.{Kind}
use Rattle.esi_scanner.specs.declared.token.Kind.TheVariants as kinds
use Rattle.esi_scanner.specs.declared.token.Token.{Token}
use Rattle.esi_tree.specs.Reading.{is_same}
use Rattle.template_check.specs.declared.elements.Opened.{Opened}

-- one less, if there is one
abbrev pub one_less : ℕ → Option ℕ
one_less zero = None
one_less (suc n) = Some n

-- How many elements that end after a token began before it, if this many end after it: none, and the token opens
-- one that doesn't end. A closed tag opens its element and ends it.
abbrev pub ended_before : Kind → ℕ → Option ℕ
ended_before (kinds.Open tag) n = if tag.closed then Some n else one_less n
ended_before (kinds.Close name) n = Some (n + 1)
ended_before _ n = Some n

-- the element that a token opens
abbrev opened_as : Kind → ℕ → Option Opened
opened_as (kinds.Open tag) place = Some (record { name = tag.name; place = place })
opened_as _ place = None

abbrev pub opened_by : Token → Option Opened
opened_by token = opened_as token.kind token.span.start

-- whether a token ends an element with this name
abbrev pub ends : ElementName → Kind → Bool
ends wanted (kinds.Open tag) = tag.closed && is_same tag.name wanted
ends wanted (kinds.Close name) = is_same name wanted
ends wanted _ = false

-- and one that is directly in the innermost open element
abbrev pub ends_part : ElementName → Kind → ℕ → Bool
ends_part wanted kind n = n == 0 && ends wanted kind

-- the innermost element that is open
abbrev pub then_innermost : (ℕ → Option Opened) → Token → Option ℕ → Option Opened
then_innermost others token None = opened_by token
then_innermost others token (Some n) = others n

unfoldable pub innermost : ℕ → List Token → Option Opened
innermost n [] = None
innermost n (token ∷ tokens) = then_innermost (λ m. innermost m tokens) token (ended_before token.kind n)

-- how many are open
abbrev pub then_count : (ℕ → ℕ) → ℕ → Option ℕ → ℕ
then_count others n None = others n + 1
then_count others n (Some m) = others m

unfoldable pub open_count : ℕ → List Token → ℕ
open_count n [] = 0
open_count n (token ∷ tokens) = then_count (λ m. open_count m tokens) n (ended_before token.kind n)

-- whether an element with this name is directly in the innermost
abbrev pub then_part : (ℕ → Bool) → Option ℕ → Bool
then_part others None = false
then_part others (Some n) = others n

unfoldable pub has_part : ElementName → ℕ → List Token → Bool
has_part wanted n [] = false
has_part wanted n (token ∷ tokens) =
    if ends_part wanted token.kind n then true else then_part (λ m. has_part wanted m tokens) (ended_before token.kind n)

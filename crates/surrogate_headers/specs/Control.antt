-- What the directives of a value mean for a device.
use Rattle.std.specs.Prelude.{ℕ, Bool, true, false, ◌&&◌, ◌||◌, List, [], ◌∷◌, filter, bytes_eq, Option, Some, None, option_map, unwrap_or}
use Rattle.std.specs.List.{filter_map, list_any}
use Rattle.std.specs.Option.{option_map_or, option_or}
use Rattle.edge_types.specs.declared.control.Control.{Control}
use Rattle.surrogate_headers.specs.declared.parameter.Age.{Age}
use Rattle.surrogate_headers.specs.declared.directive.Asks.{Asks}
use Rattle.surrogate_headers.specs.declared.directive.Asks.TheVariants.{NoStore, MaxAge, Content}
use Rattle.edge_types.specs.Blanks.{trimmed}
use Rattle.surrogate_headers.specs.Cut.{parts_of}
use Rattle.surrogate_headers.specs.Directive.{Target, Every, Device, Directive, directive_of}

-- the directives among the parts, in order; a part that isn't one is skipped
abbrev pub directives_among : List (List ℕ) → List Directive
directives_among parts = filter_map (λ part. directive_of (trimmed part)) parts

-- the directives of a value
unfoldable pub directives_of : List ℕ → List Directive
directives_of value = directives_among (parts_of value)

-- aimed at this very device
abbrev pub is_aimed_at : List ℕ → Target → Bool
is_aimed_at device Every = false
is_aimed_at device (Device token) = bytes_eq token device

-- aimed at no device in particular
abbrev pub is_unaimed : Target → Bool
is_unaimed Every = true
is_unaimed (Device token) = false

-- what directives with one name say: nothing under another name
abbrev pub is_no_store : Asks → Bool
is_no_store NoStore = true
is_no_store _ = false

abbrev pub age_asked : Asks → Option Age
age_asked (MaxAge age) = Some age
age_asked _ = None

abbrev pub esi_asked : Asks → Option Bool
esi_asked (Content esi) = Some esi
esi_asked _ = None

-- the first of a list
abbrev pub first : {A : Type 0} → List A → Option A
first [] = None
first (x ∷ xs) = Some x

-- what the first directive says that says something of this kind
abbrev pub first_said : {A : Type 0} → (Asks → Option A) → List Directive → Option A
first_said say ds = first (filter_map (λ d. say d.asks) ds)

-- what counts: the first of the directives aimed at the device, else the first of the unaimed ones
abbrev pub counting : {A : Type 0} → (Asks → Option A) → List ℕ → List Directive → Option A
counting say device ds =
    option_or (first_said say (filter (λ d. is_aimed_at device d.target) ds)) (first_said say (filter (λ d. is_unaimed d.target) ds))

-- some directive forbids storing and is aimed at the device or at none
abbrev pub forbids_storing : List ℕ → List Directive → Bool
forbids_storing device ds = list_any (λ d. is_no_store d.asks && (is_aimed_at device d.target || is_unaimed d.target)) ds

-- what directives ask of a device
unfoldable pub control_by : List Directive → List ℕ → Control
control_by ds device = record {
  no_store = forbids_storing device ds;
  max_age = option_map (λ a. a.seconds) (counting age_asked device ds);
  extension = option_map_or (λ a. a.extension) (counting age_asked device ds) 0;
  esi = unwrap_or (counting esi_asked device ds) false;
  errors = false;
}

-- what a value asks of a device
unfoldable pub control_of : List ℕ → List ℕ → Control
control_of value device = control_by (directives_of value) device

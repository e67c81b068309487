-- What was found so far among a value's directives, and what further ones add to it.
use Rattle.std.specs.Prelude.{ℕ, true, false, ◌||◌, List, filter, bytes_eq, Option, Some, None, option_map, unwrap_or, if◌then◌else◌}
use Rattle.std.specs.Option.{option_map_or, option_or}
use Rattle.edge_types.specs.declared.control.Control.{Control}
use Rattle.surrogate_headers.specs.declared.directive.Asks.{Asks}
use Rattle.surrogate_headers.specs.declared.directive.Asks.TheVariants.{NoStore, MaxAge, Content}
use Rattle.surrogate_headers.specs.declared.found.Aim.{Aim}
use Rattle.surrogate_headers.specs.declared.found.Aim.TheVariants.{Here, Anywhere}
use Rattle.surrogate_headers.specs.declared.found.Choice.{Choice}
use Rattle.surrogate_headers.specs.declared.found.Found.{Found}
use Rattle.surrogate_headers.specs.Directive.{Target, Every, Device, Directive}
use Rattle.surrogate_headers.specs.Control.{is_aimed_at, is_unaimed, age_asked, esi_asked, first_said, forbids_storing}

-- how a target concerns a device, if it does
abbrev pub aim_of : Target → List ℕ → Option Aim
aim_of Every device = Some Anywhere
aim_of (Device token) device = if bytes_eq token device then Some Here else None

-- nothing is found yet
abbrev pub no_choice : {A : Type 0} → Choice A
no_choice = record { aimed = None; unaimed = None }

abbrev pub nothing : Found
nothing = record { no_store = false; age = no_choice; esi = no_choice }

-- the first of each kind is kept
abbrev pub offered : {A : Type 0} → Choice A → Aim → A → Choice A
offered choice Here x = record choice { aimed = option_or choice.aimed (Some x) }
offered choice Anywhere x = record choice { unaimed = option_or choice.unaimed (Some x) }

-- what is found with one more directive that concerns the device
abbrev pub noted : Found → Asks → Aim → Found
noted found NoStore aim = record found { no_store = true }
noted found (MaxAge age) aim = record found { age = offered found.age aim age }
noted found (Content esi) aim = record found { esi = offered found.esi aim esi }

-- what counts, given the choice so far and further directives
abbrev pub settled_choice : {A : Type 0} → Choice A → (Asks → Option A) → List ℕ → List Directive → Option A
settled_choice choice say device ds =
    option_or (option_or choice.aimed (first_said say (filter (λ d. is_aimed_at device d.target) ds)))
    (option_or choice.unaimed (first_said say (filter (λ d. is_unaimed d.target) ds)))

-- what is asked in the end, with more directives to come
unfoldable pub settled : Found → List ℕ → List Directive → Control
settled found device ds = record {
  no_store = found.no_store || forbids_storing device ds;
  max_age = option_map (λ a. a.seconds) (settled_choice found.age age_asked device ds);
  extension = option_map_or (λ a. a.extension) (settled_choice found.age age_asked device ds) 0;
  esi = unwrap_or (settled_choice found.esi esi_asked device ds) false;
  errors = false;
}

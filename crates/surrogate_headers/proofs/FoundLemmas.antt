-- What is found so far, and the directives to come.
use Rattle.std.proofs.Common.{◌≡◌, ℕ, Bool, true, false, ◌||◌, cond, List, ◌∷◌, filter, Option, Some, None, refl, sym, ap, ◌∙◌}
use Rattle.std.specs.Prelude.{bytes_eq, option_map, unwrap_or}
use Rattle.std.specs.Option.{option_or, option_map_or}
use Rattle.std.specs.List.{cons_option}
use Rattle.edge_types.specs.declared.control.Control.{Control}
use Rattle.surrogate_headers.specs.declared.directive.Asks.{Asks}
use Rattle.surrogate_headers.specs.declared.directive.Asks.TheVariants.{NoStore, MaxAge, Content}
use Rattle.surrogate_headers.specs.declared.parameter.Age.{Age}
use Rattle.surrogate_headers.specs.declared.found.Aim.{Aim}
use Rattle.surrogate_headers.specs.declared.found.Aim.TheVariants.{Here, Anywhere}
use Rattle.surrogate_headers.specs.declared.found.Choice.{Choice}
use Rattle.surrogate_headers.specs.declared.found.Found.{Found}
use Rattle.edge_types.specs.Blanks.{trimmed}
use Rattle.surrogate_headers.specs.Directive.{Target, Every, Device, Directive, directive_of}
use Rattle.surrogate_headers.specs.Control.{directives_among, is_aimed_at, is_unaimed, age_asked, esi_asked, first_said, forbids_storing, control_by}
use Rattle.surrogate_headers.specs.Found.{aim_of, nothing, noted, settled_choice, settled}

-- what counts in the end, by what counts of each name
abbrev control_from : Bool → Option Age → Option Bool → Control
control_from no_store age esi = record {
  no_store = no_store;
  max_age = option_map (λ a. a.seconds) age;
  extension = option_map_or (λ a. a.extension) age 0;
  esi = unwrap_or esi false;
  errors = false;
}

pub settled_nothing : (device : List ℕ) (ds : List Directive) → settled nothing device ds ≡ control_by ds device
unfolding settled control_by
settled_nothing device ds = refl

abbrev directive : Asks → Target → Directive
directive asks target = record { asks = asks; target = target }

-- a value more at the front of those to come
or-or : {A : Type 0} (o : Option A) (x : A) (p : Option A) → option_or (option_or o (Some x)) p ≡ option_or o (Some x)
or-or None x p = refl
or-or (Some y) x p = refl

or-true : (b : Bool) → (b || true) ≡ true
or-true true = refl
or-true false = refl

same_control : (b b' : Bool) (a a' : Option Age) (e e' : Option Bool) → b ≡ b' → a ≡ a' → e ≡ e' → control_from b a e ≡ control_from b' a' e'
same_control b b' a a' e e' p q r = λ i. control_from (p i) (q i) (r i)

-- a directive of another device
forbids-passed : (asks : Asks) (token device : List ℕ) (ds : List Directive) → bytes_eq token device ≡ false → forbids_storing device (directive asks (Device token) ∷ ds) ≡ forbids_storing device ds
forbids-passed NoStore token device ds off = ap (λ t. (t || false) || forbids_storing device ds) off
forbids-passed (MaxAge age) token device ds off = refl
forbids-passed (Content esi) token device ds off = refl

choice-passed : {A : Type 0} (choice : Choice A) (say : Asks → Option A) (asks : Asks) (token device : List ℕ) (ds : List Directive) → bytes_eq token device ≡ false
    → settled_choice choice say device (directive asks (Device token) ∷ ds) ≡ settled_choice choice say device ds
choice-passed choice say asks token device ds off =
    let aimed = filter (λ (d : Directive). is_aimed_at device d.target) ds in
    let unaimed = filter (λ (d : Directive). is_unaimed d.target) ds in
    ap (λ t. option_or (option_or choice.aimed (first_said say (cond t (directive asks (Device token) ∷ aimed) aimed))) (option_or choice.unaimed (first_said say unaimed))) off

-- a directive that doesn't concern the device changes nothing
pub settled-passed : (found : Found) (asks : Asks) (target : Target) (device : List ℕ) (ds : List Directive) → aim_of target device ≡ None → settled found device (directive asks target ∷ ds) ≡ settled found device ds
unfolding settled
settled-passed found asks Every device ds e = absurd (cc)
settled-passed found asks (Device token) device ds e =
    let off : bytes_eq token device ≡ false = by_test (bytes_eq token device) e in
    same_control _ _ _ _ _ _ (ap (λ t. found.no_store || t) (forbids-passed asks token device ds off))
    (choice-passed found.age age_asked asks token device ds off) (choice-passed found.esi esi_asked asks token device ds off)
  where
    by_test : (t : Bool) → ◌≡◌ {A = Option Aim} (cond t (Some Here) None) None → t ≡ false
    by_test true h = absurd (cc)
    by_test false h = refl

noted-anywhere : (found : Found) (asks : Asks) (device : List ℕ) (ds : List Directive) → settled (noted found asks Anywhere) device ds ≡ settled found device (directive asks Every ∷ ds)
unfolding settled
noted-anywhere found NoStore device ds =
    let age = settled_choice found.age age_asked device ds in
    let esi = settled_choice found.esi esi_asked device ds in
    same_control _ _ age age esi esi (sym (or-true found.no_store)) refl refl
noted-anywhere found (MaxAge age) device ds =
    let aimed = first_said age_asked (filter (λ (d : Directive). is_aimed_at device d.target) ds) in
    let unaimed = first_said age_asked (filter (λ (d : Directive). is_unaimed d.target) ds) in
    let esi = settled_choice found.esi esi_asked device ds in
    same_control _ _ _ _ esi esi refl (ap (option_or (option_or found.age.aimed aimed)) (or-or found.age.unaimed age unaimed)) refl
noted-anywhere found (Content esi) device ds =
    let aimed = first_said esi_asked (filter (λ (d : Directive). is_aimed_at device d.target) ds) in
    let unaimed = first_said esi_asked (filter (λ (d : Directive). is_unaimed d.target) ds) in
    same_control _ _ _ _ _ _ refl refl (ap (option_or (option_or found.esi.aimed aimed)) (or-or found.esi.unaimed esi unaimed))

-- the device's own directive, where its token passes the test
choice-here : {A : Type 0} (choice : Choice A) (say : Asks → Option A) (asks : Asks) (token device : List ℕ) (ds : List Directive) → bytes_eq token device ≡ true
    → settled_choice choice say device (directive asks (Device token) ∷ ds)
    ≡ option_or (option_or choice.aimed (first_said say (directive asks (Device token) ∷ filter (λ (d : Directive). is_aimed_at device d.target) ds))) (option_or choice.unaimed (first_said say (filter (λ (d : Directive). is_unaimed d.target) ds)))
choice-here choice say asks token device ds on =
    let aimed = filter (λ (d : Directive). is_aimed_at device d.target) ds in
    let unaimed = filter (λ (d : Directive). is_unaimed d.target) ds in
    ap (λ t. option_or (option_or choice.aimed (first_said say (cond t (directive asks (Device token) ∷ aimed) aimed))) (option_or choice.unaimed (first_said say unaimed))) on

noted-here : (found : Found) (asks : Asks) (token device : List ℕ) (ds : List Directive) → bytes_eq token device ≡ true → settled (noted found asks Here) device ds ≡ settled found device (directive asks (Device token) ∷ ds)
unfolding settled
noted-here found NoStore token device ds on =
    let forbidden : true ≡ found.no_store || forbids_storing device (directive NoStore (Device token) ∷ ds) = sym (ap (λ t. found.no_store || ((t || false) || forbids_storing device ds)) on ∙ or-true found.no_store) in
    same_control _ _ _ _ _ _ forbidden (sym (choice-here found.age age_asked NoStore token device ds on)) (sym (choice-here found.esi esi_asked NoStore token device ds on))
noted-here found (MaxAge age) token device ds on =
    let aimed = first_said age_asked (filter (λ (d : Directive). is_aimed_at device d.target) ds) in
    let unaimed = option_or found.age.unaimed (first_said age_asked (filter (λ (d : Directive). is_unaimed d.target) ds)) in
    same_control _ _ _ _ _ _ refl
    (ap (λ o. option_or o unaimed) (or-or found.age.aimed age aimed) ∙ sym (choice-here found.age age_asked (MaxAge age) token device ds on))
    (sym (choice-here found.esi esi_asked (MaxAge age) token device ds on))
noted-here found (Content esi) token device ds on =
    let aimed = first_said esi_asked (filter (λ (d : Directive). is_aimed_at device d.target) ds) in
    let unaimed = option_or found.esi.unaimed (first_said esi_asked (filter (λ (d : Directive). is_unaimed d.target) ds)) in
    same_control _ _ _ _ _ _ refl
    (sym (choice-here found.age age_asked (Content esi) token device ds on))
    (ap (λ o. option_or o unaimed) (or-or found.esi.aimed esi aimed) ∙ sym (choice-here found.esi esi_asked (Content esi) token device ds on))

-- one that does is as good as noted
pub settled-noted : (found : Found) (asks : Asks) (target : Target) (aim : Aim) (device : List ℕ) (ds : List Directive) → aim_of target device ≡ Some aim → settled (noted found asks aim) device ds ≡ settled found device (directive asks target ∷ ds)
settled-noted found asks Every aim device ds e =
    let same : Anywhere ≡ aim = cc in ap (λ a. settled (noted found asks a) device ds) (sym same) ∙ noted-anywhere found asks device ds
settled-noted found asks (Device token) aim device ds e =
    let on = by_test (bytes_eq token device) e in
    ap (λ a. settled (noted found asks a) device ds) (sym on.1) ∙ noted-here found asks token device ds on.0
  where
    by_test : (t : Bool) → ◌≡◌ {A = Option Aim} (cond t (Some Here) None) (Some aim) → (t ≡ true) × (Here ≡ aim)
    by_test true h = (refl, cc)
    by_test false h = absurd (cc)

pub among-some : (part : List ℕ) (parts : List (List ℕ)) (d : Directive) → directive_of (trimmed part) ≡ Some d → directives_among (part ∷ parts) ≡ d ∷ directives_among parts
among-some part parts d e = ap (λ (o : Option Directive). cons_option o (directives_among parts)) e

pub among-none : (part : List ℕ) (parts : List (List ℕ)) → directive_of (trimmed part) ≡ None → directives_among (part ∷ parts) ≡ directives_among parts
among-none part parts e = ap (λ (o : Option Directive). cons_option o (directives_among parts)) e

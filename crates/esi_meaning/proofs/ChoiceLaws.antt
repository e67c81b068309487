-- A choose is the content of its first `when` whose test holds, else that of its otherwise.
use Rattle.std.proofs.Common.{◌≡◌, Bool, true, false, cond, List, Option, Some, refl, sym, ◌∙◌, ap, if◌then◌else◌}
use Rattle.std.specs.List.{find}
use Rattle.std.specs.Option.{option_map, unwrap_or}
use Rattle.edge_types.specs.declared.request.Request.{Request}
use Rattle.esi_vars.specs.declared.part.Part.{Part}
use Rattle.esi_expr.specs.Truth.{holds}
use Rattle.esi_tree.specs.Tree.{Elements, End, Branches, NoBranch, When, Otherwise}
use Rattle.esi_meaning.specs.Ahead.{ahead_sources, ahead_among}
use Rattle.esi_meaning.specs.Laws.{Guarded, whens, otherwise_or, FirstWhenCounts, FirstWhenIsAhead}
use Rattle.esi_meaning.specs.Meaning.{elements_run, chosen_content}
use Rattle.esi_meaning.proofs.Legs.{chosen_run_content}

-- the content that is found, or this where none is
abbrev content_or : Elements → Option Guarded → Elements
content_or otherwise found = unwrap_or (option_map (λ (w : Guarded). w.content) found) otherwise

taken_if : (w : Guarded) (later : Elements) (found : Option Guarded) (otherwise : Elements) → later ≡ content_or otherwise found
    → (b : Bool) → (if b then w.content else later) ≡ content_or otherwise (cond b (Some w) found)
taken_if w later found otherwise e true = refl
taken_if w later found otherwise e false = e

chosen_is : (r : Request) (none : Elements) (bs : Branches)
    → chosen_content r none bs ≡ content_or (otherwise_or none bs) (find (λ (w : Guarded). holds r w.test) (whens bs))
chosen_is r none NoBranch = refl
chosen_is r none (When test content rest) =
    taken_if (record { test = test; content = content }) (chosen_content r none rest) (find (λ (w : Guarded). holds r w.test) (whens rest)) (otherwise_or none rest)
    (chosen_is r none rest) (holds r test)
chosen_is r none (Otherwise content rest) = chosen_is r content rest

pub first_when_counts : FirstWhenCounts
first_when_counts r leg bs = sym (chosen_run_content r leg bs) ∙ ap (elements_run r leg) (chosen_is r End bs)

-- the same of the sources to fetch ahead
ahead_if : (r : Request) (content later : Elements) (rest : List (List Part)) → rest ≡ ahead_sources r later
    → (b : Bool) → (if b then ahead_sources r content else rest) ≡ ahead_sources r (if b then content else later)
ahead_if r content later rest e true = refl
ahead_if r content later rest e false = e

ahead_is : (r : Request) (none : Elements) (bs : Branches) → ahead_among r (ahead_sources r none) bs ≡ ahead_sources r (chosen_content r none bs)
ahead_is r none NoBranch = refl
ahead_is r none (When test content rest) =
    ahead_if r content (chosen_content r none rest) (ahead_among r (ahead_sources r none) rest) (ahead_is r none rest) (holds r test)
ahead_is r none (Otherwise content rest) = ahead_is r content rest

pub first_when_is_ahead : FirstWhenIsAhead
first_when_is_ahead r bs = ahead_is r End bs ∙ ap (ahead_sources r) (chosen_is r End bs)

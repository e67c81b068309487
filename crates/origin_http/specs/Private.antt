-- Which URLs are private, and what is told of a reader for them.
use Rattle.std.specs.Prelude.{ℕ, nat_eq, Bool, List, [], if◌then◌else◌}
use Rattle.std.specs.List.{list_any, starts_with}
use Rattle.edge_types.specs.declared.head_fields.HeadField.{HeadField}

-- a URL begins with one of these prefixes
abbrev pub is_private : List (List ℕ) → List ℕ → Bool
is_private prefixes url = list_any (λ prefix. starts_with nat_eq url prefix) prefixes

-- what an origin is told of a reader's own fields: all of them, but only where the URL is private
abbrev pub told_for : Bool → List HeadField → List HeadField
told_for private own = if private then own else []

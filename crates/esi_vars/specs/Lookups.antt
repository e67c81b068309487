-- Where a value that was looked up is.
use Rattle.std.specs.Prelude.{◌≡◌, ℕ, ◌≤◌, List, length, slice_range}
use Rattle.esi_vars.specs.declared.lookups.Place.{Place}
use Rattle.esi_vars.specs.declared.lookups.Place.TheVariants as place

-- the value is at this place: it is the name, or these bytes of the field
abbrev pub StandsIn : Place → List ℕ → List ℕ → Type 0
StandsIn (place.Name name) value field = name.now ≡ value
StandsIn (place.Part from to) value field = (from ≤ to) × (to ≤ length field) × (slice_range field from to ≡ value)

-- What the readers of the code lend, as the lists that the definitions speak of.
use Rattle.std.specs.Prelude.{ℕ, List, [], ◌∷◌, Option, Some, None}
use Rattle.std.specs.Option.{option_copied, option_map}
use Rattle.std.specs.Borrow.{Bor}
use Rattle.edge_types.specs.Halves.{lent_pair}
use Rattle.esi_vars.specs.declared.reference.Reference.{Reference}
use Rattle.esi_vars.specs.declared.written.Written as code
use Rattle.esi_vars.specs.declared.part.Found as found
use Rattle.esi_vars.specs.declared.looked_up.LookedUp.{LookedUp}
use Rattle.esi_vars.specs.declared.looked_up.LookedUp.TheVariants as looked_up
use Rattle.esi_vars.specs.Reading.{Written}
use Rattle.esi_vars.specs.Parts.{Found}
use Rattle.esi_vars.specs.Field.{parts_between}

-- a reference as it is written
abbrev pub shown_written : code.Written → Written
shown_written w = record { name = w.name.now; key = option_copied w.key; default = option_copied w.default }

-- a run and what follows it
abbrev pub shown_run : Option (Bor (List ℕ) × Bor (List ℕ)) → Option (List ℕ × List ℕ)
shown_run found = option_map lent_pair found

-- a key or a default, if there is one, and what follows it
abbrev pub shown_optional : Option (Option (Bor (List ℕ)) × Bor (List ℕ)) → Option (Option (List ℕ) × List ℕ)
shown_optional None = None
shown_optional (Some x) = Some (option_copied x.0, x.1.now)

-- a reference as it is written, if there is one, and what follows it
abbrev pub shown_found : Option (code.Written × Bor (List ℕ)) → Option (Written × List ℕ)
shown_found None = None
shown_found (Some x) = Some (shown_written x.0, x.1.now)

-- a reference and what follows it
abbrev pub shown_reference : Option (Reference × Bor (List ℕ)) → Option (Reference × List ℕ)
shown_reference None = None
shown_reference (Some x) = Some (x.0, x.1.now)

-- the first reference of a text, if there is one
abbrev pub shown_next : Option found.Found → Option Found
shown_next None = None
shown_next (Some x) = Some (record { before = x.before.now; written = shown_written x.written; rest = x.rest.now })

-- the parts of what is left of a field
abbrev pub parts_left : ℕ → Option (List ℕ) → List (List ℕ)
parts_left c None = []
parts_left c (Some text) = parts_between c text

-- a field's first part, and the parts of what follows it
abbrev pub shown_parts : ℕ → Bor (List ℕ) × Option (Bor (List ℕ)) → List (List ℕ)
shown_parts c x = x.0.now ∷ parts_left c (option_copied x.1)

-- what is before a byte and what follows it
abbrev pub shown_halves : Bor (List ℕ) × Bor (List ℕ) → List ℕ × List ℕ
shown_halves x = (x.0.now, x.1.now)

-- the value that was looked up
abbrev pub said : LookedUp → List ℕ
said (looked_up.Name name) = name.now
said (looked_up.Part value place) = value.now

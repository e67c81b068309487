-- Sources of includes in which a reader may choose the host or the folder (ESI Language Specification 1.0,
-- "Variables": a reference in an attribute is replaced by its value before the URL is read).
use Rattle.std.specs.Prelude.{ℕ, Bool, true, false, ◌||◌, ◌==◌, List, [], ◌∷◌, codes, bytes_eq, Option, Some, None, is_none, if◌then◌else◌}
use Rattle.std.specs.Str.{byte}
use Rattle.std.specs.List.{list_any}
use Rattle.esi_vars.specs.declared.part.Part.{Part}
use Rattle.esi_vars.specs.declared.part.Part.TheVariants as part
use Rattle.esi_vars.specs.declared.reference.Variable.{Variable}
use Rattle.esi_vars.specs.declared.reference.Variable.TheVariants as variable
use Rattle.esi_vars.specs.Parts.{parts_of}
use Rattle.template_check.specs.declared.warning.Warning.{Warning}
use Rattle.template_check.specs.declared.warning.Warning.TheVariants as warning

-- an agent's whole field, or its version, which is digits and points and so may be `..`; the names of browsers and of
-- systems are the standard's
abbrev pub is_written_agent : Option (List ℕ) → Bool
is_written_agent None = true
is_written_agent (Some key) = bytes_eq key (codes "version")

-- whether the value of this variable with this key may be bytes that a reader writes: a cookie's and a part of the
-- query may, a language is `true` or nothing, and a variable without parts says nothing under a key
abbrev pub is_written : Variable → Option (List ℕ) → Bool
is_written variable.HttpCookie key = true
is_written variable.QueryString key = true
is_written variable.HttpUserAgent key = is_written_agent key
is_written (variable.Unknown name) key = false
is_written _ key = is_none key

-- what ends the host and the path of a URL
abbrev pub is_end : ℕ → Bool
is_end b = b == byte "?" || b == byte "#"

-- whether a reader writes bytes before the first `?` or `#` in these parts: there they may be `//host`, `\\host`,
-- `http://host` or `/../folder`
unfoldable pub is_chosen : List Part → Bool
is_chosen [] = false
is_chosen (part.Reference r ∷ ps) = if is_written r.variable r.key then true else is_chosen ps
is_chosen (part.Text bytes ∷ ps) = if list_any is_end bytes then false else is_chosen ps

abbrev pub source_warning : List ℕ → Option Warning
source_warning source = if is_chosen (parts_of source) then Some warning.ChosenSource else None

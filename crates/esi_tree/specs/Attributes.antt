-- What the attributes of a tag mean.
use Rattle.std.specs.Prelude.{ℕ, Bool, List, codes, bytes_eq, Option, Some, None, option_map, unwrap_or, if◌then◌else◌}
use Rattle.std.specs.List.{list_all}
use Rattle.edge_types.specs.WhiteSpace.{is_ws}
use Rattle.esi_scanner.specs.declared.attribute.Attribute.{Attribute}
use Rattle.esi_scanner.specs.declared.attribute.KnownAttribute.TheVariants as known
use Rattle.esi_scanner.specs.Bytes.{◌>>=◌}
use Rattle.esi_scanner.specs.Tag.{value_of}
use Rattle.esi_vars.specs.declared.part.Part.{Part}
use Rattle.esi_vars.specs.Parts.{parts_of}
use Rattle.esi_expr.specs.Tree.{Test}
use Rattle.esi_expr.specs.Reading.{read_test}
use Rattle.esi_tree.specs.declared.include.Include.{Include}
use Rattle.esi_tree.specs.declared.include.OnError.{OnError}
use Rattle.esi_tree.specs.declared.include.OnError.TheVariants.{Fails, Continues}

-- where an include's resource is, and where another one is
abbrev pub src_of : List Attribute → Option (List Part)
src_of attributes = option_map parts_of (value_of known.Src attributes)

abbrev pub alt_of : List Attribute → Option (List Part)
alt_of attributes = option_map parts_of (value_of known.Alt attributes)

-- what a value of `onerror` asks for; any value other than `continue` has no meaning
abbrev pub on_error_for : List ℕ → Option OnError
on_error_for value = if bytes_eq value (codes "continue") then Some Continues else None

-- what an include does where nothing that it names can be had: it fails if its `onerror` asks for nothing else
unfoldable pub on_error_of : List Attribute → OnError
on_error_of attributes = unwrap_or (value_of known.OnError attributes >>= on_error_for) Fails

-- what an include says, where it has a `src`
abbrev pub include_of : List Attribute → Option Include
include_of attributes = option_map (λ src. record { src = src; alt = alt_of attributes; on_error = on_error_of attributes }) (src_of attributes)

-- the test of a `when`, if there is one that can be read
abbrev pub when_test : List Attribute → Option Test
when_test attributes = value_of known.Test attributes >>= read_test

-- the name of an inline
abbrev pub inline_name : List Attribute → Option (List ℕ)
inline_name attributes = value_of known.Name attributes

-- only white space
abbrev pub is_white : List ℕ → Bool
is_white bytes = list_all is_ws bytes

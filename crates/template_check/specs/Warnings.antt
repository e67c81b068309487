-- Likely mistakes in a tag that aren't faults.
use Rattle.std.specs.Prelude.{ℕ, Bool, true, false, not, ◌&&◌, ◌==◌, List, [], ◌∷◌, length, codes, bytes_eq, Option, Some, None, is_none, if◌then◌else◌}
use Rattle.std.specs.Str.{byte}
use Rattle.std.specs.List.{list_any}
use Rattle.esi_scanner.specs.declared.attribute.Attribute.{Attribute}
use Rattle.esi_scanner.specs.declared.attribute.AttributeName.{AttributeName}
use Rattle.esi_scanner.specs.declared.attribute.AttributeName.TheVariants.{Known, Other}
use Rattle.esi_scanner.specs.declared.attribute.KnownAttribute.TheVariants as known
use Rattle.esi_scanner.specs.declared.element_name.ElementName.{ElementName}
use Rattle.esi_scanner.specs.declared.element_name.ElementName.TheVariants as element
use Rattle.esi_scanner.specs.declared.tag.Tag.{Tag}
use Rattle.esi_scanner.specs.Bytes.{begins_with}
use Rattle.esi_scanner.specs.Tag.{value_of}
use Rattle.esi_tree.specs.Attributes.{on_error_for}
use Rattle.template_check.specs.declared.warning.Warning.{Warning}
use Rattle.template_check.specs.declared.warning.Warning.TheVariants as warning

abbrev pub is_include : ElementName → Bool
is_include element.Include = true
is_include _ = false

abbrev pub is_when : ElementName → Bool
is_when element.When = true
is_when _ = false

-- whether there is a value that passes the test
abbrev passes : (List ℕ → Bool) → Option (List ℕ) → Bool
passes test None = false
passes test (Some value) = test value

-- an `onerror` that has no meaning
abbrev pub is_idle_onerror : List Attribute → Bool
is_idle_onerror attributes = passes (λ value. is_none (on_error_for value)) (value_of known.OnError attributes)

-- a name that the language doesn't define
abbrev unknown_name : AttributeName → Bool
unknown_name (Known _) = false
unknown_name (Other _) = true

abbrev pub is_unknown : Attribute → Bool
is_unknown attribute = unknown_name attribute.name

-- a source that is empty, and one that is never fetched
abbrev pub is_source_empty : List Attribute → Bool
is_source_empty attributes = passes (λ value. length value == 0) (value_of known.Src attributes)

abbrev pub is_source_secure : List Attribute → Bool
is_source_secure attributes = passes (λ value. begins_with value (codes "https:")) (value_of known.Src attributes)

-- whether `''` is at the front, with no bar before it
abbrev pub begins_empty : Bool → List ℕ → Bool
begins_empty behind_bar text = not behind_bar && begins_with text (codes "''")

-- whether `''` is in a test other than directly after a bar, where it is a default; whether a bar is before the
-- text is given
unfoldable pub stands_empty : Bool → List ℕ → Bool
stands_empty behind_bar [] = false
stands_empty behind_bar (b ∷ bs) =
    if begins_empty behind_bar (b ∷ bs) then true else stands_empty (b == byte "|") bs

abbrev pub has_empty_text : List Attribute → Bool
has_empty_text attributes = passes (stands_empty false) (value_of known.Test attributes)

-- whether this warning applies to a tag; never for one that isn't about tags alone
abbrev pub is_of : Warning → Tag → Bool
is_of warning.OnError tag = is_include tag.name && is_idle_onerror tag.attributes
is_of warning.UnknownAttribute tag = list_any is_unknown tag.attributes
is_of warning.EmptySource tag = is_include tag.name && is_source_empty tag.attributes
is_of warning.SecureSource tag = is_include tag.name && is_source_secure tag.attributes
is_of warning.EmptyText tag = is_when tag.name && has_empty_text tag.attributes
is_of _ tag = false

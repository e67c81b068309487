-- The names of elements and attributes.
use Rattle.std.specs.Prelude.{ℕ, Bool, true, false, List, [], ◌∷◌, codes, Option, Some, None, find}
use Rattle.std.specs.Str.{bytes_eq}
use Rattle.esi_scanner.specs.declared.element_name.ElementName.{ElementName}
use Rattle.esi_scanner.specs.declared.element_name.ElementName.TheVariants as element
use Rattle.esi_scanner.specs.declared.attribute.KnownAttribute.{KnownAttribute}
use Rattle.esi_scanner.specs.declared.attribute.KnownAttribute.TheVariants as known
use Rattle.esi_scanner.specs.declared.attribute.AttributeName.{AttributeName}
use Rattle.esi_scanner.specs.declared.attribute.AttributeName.TheVariants.{Known, Other}

-- the bytes of an element's name
abbrev pub element_text : ElementName → List ℕ
element_text element.Include = codes "include"
element_text element.Inline = codes "inline"
element_text element.Choose = codes "choose"
element_text element.When = codes "when"
element_text element.Otherwise = codes "otherwise"
element_text element.Try = codes "try"
element_text element.Attempt = codes "attempt"
element_text element.Except = codes "except"
element_text element.Comment = codes "comment"
element_text element.Remove = codes "remove"
element_text element.Vars = codes "vars"

-- all of them
abbrev pub elements : List ElementName
elements =
    element.Include ∷ element.Inline ∷ element.Choose ∷ element.When ∷ element.Otherwise ∷ element.Try
    ∷ element.Attempt ∷ element.Except ∷ element.Comment ∷ element.Remove ∷ element.Vars ∷ []

-- the element whose name the bytes spell
unfoldable pub element_of : List ℕ → Option ElementName
element_of bytes = find (λ name. bytes_eq (element_text name) bytes) elements

-- the bytes of an attribute name that has a meaning
abbrev pub known_text : KnownAttribute → List ℕ
known_text known.Src = codes "src"
known_text known.Alt = codes "alt"
known_text known.OnError = codes "onerror"
known_text known.Name = codes "name"
known_text known.Test = codes "test"

-- all of them
abbrev pub known_attributes : List KnownAttribute
known_attributes = known.Src ∷ known.Alt ∷ known.OnError ∷ known.Name ∷ known.Test ∷ []

-- the attribute whose name the bytes spell, among those that have a meaning
unfoldable pub known_of : List ℕ → Option KnownAttribute
known_of bytes = find (λ name. bytes_eq (known_text name) bytes) known_attributes

-- whether two are the same
abbrev pub same_known : KnownAttribute → KnownAttribute → Bool
same_known known.Src known.Src = true
same_known known.Alt known.Alt = true
same_known known.OnError known.OnError = true
same_known known.Name known.Name = true
same_known known.Test known.Test = true
same_known _ _ = false

-- the bytes of any attribute's name
abbrev pub attribute_text : AttributeName → List ℕ
attribute_text (Known name) = known_text name
attribute_text (Other bytes) = bytes

-- a known name if one was found, else the bytes
abbrev known_or_other : Option KnownAttribute → List ℕ → AttributeName
known_or_other (Some name) bytes = Known name
known_or_other None bytes = Other bytes

-- the name that the bytes spell
unfoldable pub attribute_name_of : List ℕ → AttributeName
attribute_name_of bytes = known_or_other (known_of bytes) bytes

-- whether a name is this known one
abbrev pub is_named : KnownAttribute → AttributeName → Bool
is_named wanted (Known other) = same_known other wanted
is_named wanted (Other bytes) = false

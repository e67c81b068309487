-- Likely mistakes in a text that aren't faults of a template.
use Rattle.std.specs.Prelude.{ℕ, ◌+◌, ◌-◌, Bool, true, false, not, ◌&&◌, nat_lt, List, [], ◌∷◌, ◌++◌, take, drop, length, min, codes, Option, Some, None, Result, Ok, Err, if◌then◌else◌}
use Rattle.std.specs.Option.{option_or}
use Rattle.std.specs.Str.{str_eq_ignore_ascii_case}
use Rattle.edge_types.specs.Asked.{asked, resolve}
use Rattle.edge_types.specs.WhiteSpace.{after_ws}
use Rattle.esi_scanner.specs.declared.attribute.KnownAttribute.{KnownAttribute}
use Rattle.esi_scanner.specs.declared.attribute.KnownAttribute.TheVariants as known
use Rattle.esi_scanner.specs.declared.element_name.ElementName.{ElementName}
use Rattle.esi_scanner.specs.declared.element_name.ElementName.TheVariants as element
use Rattle.esi_scanner.specs.declared.tag.Tag.{Tag}
use Rattle.esi_scanner.specs.declared.token.Kind.{Kind}
use Rattle.esi_scanner.specs.declared.token.Kind.TheVariants as kinds
use Rattle.esi_scanner.specs.declared.token.Span.{Span}
use Rattle.esi_scanner.specs.declared.token.Token.{Token}
use Rattle.esi_scanner.specs.Bytes as bytes
use Rattle.esi_scanner.specs.Scan.{scan_of}
use Rattle.esi_scanner.specs.Tag.{value_of}
use Rattle.esi_vars.specs.declared.reference.Reference.{Reference}
use Rattle.esi_vars.specs.declared.reference.Variable.{Variable}
use Rattle.esi_vars.specs.declared.reference.Variable.TheVariants as variable
use Rattle.esi_vars.specs.Reading.{reference_at}
use Rattle.template_check.specs.declared.warned.Warned.{Warned}
use Rattle.template_check.specs.declared.warning.Warning.{Warning}
use Rattle.template_check.specs.declared.warning.Warning.TheVariants as warning
use Rattle.template_check.specs.Chosen.{source_warning}
use Rattle.template_check.specs.Warnings.{is_of}

-- ---- references

-- whether requests can say something about a variable
abbrev pub is_known : Variable → Bool
is_known (variable.Unknown name) = false
is_known _ = true

-- for a reference to a variable, known or not, where references are replaced or are not: outside `vars` the known ones
-- are meant to be replaced, inside it the unknown ones denote nothing
abbrev by_variable : Bool → Bool → Option Warning
by_variable true true = None
by_variable true false = Some warning.UnknownVariable
by_variable false true = Some warning.IdleReference
by_variable false false = None

-- for what begins with `$(`, by the reference that was found there
abbrev pub judged : Bool → Option (Reference × List ℕ) → Option Warning
judged true None = Some warning.NoReference
judged false None = None
judged replaced (Some found) = by_variable replaced (is_known found.0.variable)

abbrev pub reference_warning : Bool → List ℕ → Option Warning
reference_warning replaced text = if bytes.begins_with text (codes "$(") then judged replaced (reference_at text) else None

-- ---- text

-- `esi:`, in letters of any case
abbrev pub begins_name : List ℕ → Bool
begins_name text = str_eq_ignore_ascii_case (take (min (length text) 4) text) (codes "esi:")

-- what follows a `/` and the white space after it
abbrev pub after_slash : List ℕ → List ℕ
after_slash text = if bytes.begins_with text (codes "/") then after_ws (drop 1 text) else text

-- what looks like a tag: `<`, perhaps white space, perhaps `/` and white space, and the name
abbrev pub begins_tag : List ℕ → Bool
begins_tag text = bytes.begins_with text (codes "<") && begins_name (after_slash (after_ws (drop 1 text)))

-- the warning about the front of a text
abbrev pub text_warning : Bool → List ℕ → Option Warning
text_warning replaced text = if begins_tag text then Some warning.TagInText else reference_warning replaced text

-- a warning at its place, if there is one
abbrev pub warned : ℕ → Option Warning → List Warned
warned place None = []
warned place (Some found) = record { place = place; warning = found } ∷ []

-- the warnings about each place of a text, of which the first is given
unfoldable pub text_warnings : Bool → ℕ → List ℕ → List Warned
text_warnings replaced place [] = []
text_warnings replaced place (b ∷ bs) = warned place (text_warning replaced (b ∷ bs)) ++ text_warnings replaced (place + 1) bs

-- ---- tags

-- the first warning about a reference in a value, or about a missing one; references in it are replaced
unfoldable pub value_warning : List ℕ → Option Warning
value_warning [] = None
value_warning (b ∷ bs) = option_or (reference_warning true (b ∷ bs)) (value_warning bs)

abbrev warning_in : Option (List ℕ) → Option Warning
warning_in None = None
warning_in (Some value) = value_warning value

abbrev pub attribute_warning : Tag → KnownAttribute → Option Warning
attribute_warning tag attribute = warning_in (value_of attribute tag.attributes)

-- the warning about an attribute that a reader may point at another host or folder
abbrev choice_in : Option (List ℕ) → Option Warning
choice_in None = None
choice_in (Some source) = source_warning source

abbrev pub choice_warning : Tag → KnownAttribute → Option Warning
choice_warning tag attribute = choice_in (value_of attribute tag.attributes)

-- the warnings about a source of an include
abbrev pub source_warnings : ℕ → Tag → KnownAttribute → List Warned
source_warnings place tag attribute = warned place (attribute_warning tag attribute) ++ warned place (choice_warning tag attribute)

-- the warning about an inline's name: that it doesn't denote a URL that is fetched; names are tried at one page, since
-- relative ones denote a URL at any page
abbrev by_url : Option (List ℕ) → Option Warning
by_url None = Some warning.IdleName
by_url (Some url) = None

abbrev at_page : List ℕ → Option (List ℕ) → Option Warning
at_page name None = None
at_page name (Some page) = by_url (resolve page name)

abbrev pub name_warning : List ℕ → Option Warning
name_warning name = at_page name (asked None (codes "http://localhost/"))

abbrev of_name : Option (List ℕ) → Option Warning
of_name None = None
of_name (Some name) = name_warning name

abbrev pub inline_warning : Tag → Option Warning
inline_warning tag = of_name (value_of known.Name tag.attributes)

-- references are replaced in the sources of an include and read in the test of a `when`; an inline has a name
abbrev values_by : ElementName → ℕ → Tag → List Warned
values_by element.Include place tag = source_warnings place tag known.Src ++ source_warnings place tag known.Alt
values_by element.When place tag = warned place (attribute_warning tag known.Test)
values_by element.Inline place tag = warned place (inline_warning tag)
values_by _ place tag = []

abbrev pub value_warnings : ℕ → Tag → List Warned
value_warnings place tag = values_by tag.name place tag

-- a warning, if it applies to a tag
abbrev pub due : Tag → Warning → Option Warning
due tag w = if is_of w tag then Some w else None

-- those of these that apply to a tag
unfoldable pub each_warning : ℕ → Tag → List Warning → List Warned
each_warning place tag [] = []
each_warning place tag (w ∷ ws) = warned place (due tag w) ++ each_warning place tag ws

-- those that a tag alone shows
abbrev pub of_tags : List Warning
of_tags = warning.OnError ∷ warning.UnknownAttribute ∷ warning.EmptySource ∷ warning.SecureSource ∷ warning.EmptyText ∷ []

-- all warnings about a tag, at the tag's place
abbrev pub tag_warnings : ℕ → Tag → List Warned
tag_warnings place tag = each_warning place tag of_tags ++ value_warnings place tag

-- ---- tokens

-- the bytes of a span
abbrev pub spanned : List ℕ → Span → List ℕ
spanned text span =
    let front = take (min span.end (length text)) text in
    drop (min span.start (length front)) front

-- for a token, by whether references are replaced there
abbrev by_kind : Bool → List ℕ → Span → Kind → List Warned
by_kind replaced text span kinds.Text = text_warnings replaced span.start (spanned text span)
by_kind replaced text span (kinds.Open tag) = tag_warnings span.start tag
by_kind replaced text span _ = []

abbrev pub token_warnings : Bool → List ℕ → Token → List Warned
token_warnings replaced text token = by_kind replaced text token.span token.kind

-- how many `vars` are open after a token
abbrev is_vars : ElementName → Bool
is_vars element.Vars = true
is_vars _ = false

abbrev pub depth_behind : ℕ → Kind → ℕ
depth_behind depth (kinds.Open tag) = if is_vars tag.name && not tag.closed then depth + 1 else depth
depth_behind depth (kinds.Close name) = if is_vars name then depth - 1 else depth
depth_behind depth _ = depth

-- for tokens before which this many `vars` are open: references are replaced if one is
unfoldable pub warnings_from : ℕ → List ℕ → List Token → List Warned
warnings_from depth text [] = []
warnings_from depth text (token ∷ tokens) =
    token_warnings (nat_lt 0 depth) text token ++ warnings_from (depth_behind depth token.kind) text tokens

-- for a text by its tokens; a text without tokens gets no warnings
abbrev warnings_in : List ℕ → Result (List Token) ℕ → List Warned
warnings_in text (Ok tokens) = warnings_from 0 text tokens
warnings_in text (Err at) = []

abbrev pub warnings_of : List ℕ → List Warned
warnings_of text = warnings_in text (scan_of text)

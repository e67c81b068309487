-- Why a text isn't a template from a place on. Tokens before a place are given with the last one first.
use Rattle.std.specs.Prelude.{ℕ, Bool, true, false, not, ◌&&◌, nat_lt, List, [], ◌∷◌, take, drop, reverse, Option, Some, None, if◌then◌else◌}
use Rattle.std.specs.List.{prefix_len}
use Rattle.esi_scanner.specs.declared.attribute.Attribute.{Attribute}
use Rattle.esi_scanner.specs.declared.attribute.KnownAttribute.TheVariants as known
use Rattle.esi_scanner.specs.declared.element_name.ElementName.{ElementName}
use Rattle.esi_scanner.specs.declared.element_name.ElementName.TheVariants as element
use Rattle.esi_scanner.specs.declared.tag.Tag.{Tag}
use Rattle.esi_scanner.specs.declared.token.Kind.{Kind}
use Rattle.esi_scanner.specs.declared.token.Kind.TheVariants as kinds
use Rattle.esi_scanner.specs.declared.token.Token.{Token}
use Rattle.esi_scanner.specs.Tag.{value_of}
use Rattle.template_check.specs.Troubles.{trouble_of}
use Rattle.esi_tree.specs.declared.open_elements.TheConstants.{OPEN_LIMIT}
use Rattle.esi_tree.specs.Reading.{is_same, stands_in_run}
use Rattle.template_check.specs.declared.elements.Opened.{Opened}
use Rattle.template_check.specs.declared.reason.Reason.{Reason}
use Rattle.template_check.specs.declared.reason.Reason.TheVariants as why
use Rattle.template_check.specs.OpenElements.{innermost, open_count, has_part}

-- whether an element may be directly in another, by their names alone
abbrev pub is_branch : ElementName → Bool
is_branch element.When = true
is_branch element.Otherwise = true
is_branch _ = false

abbrev pub is_half : ElementName → Bool
is_half element.Attempt = true
is_half element.Except = true
is_half _ = false

abbrev pub stands_in : ElementName → ElementName → Bool
stands_in name element.Include = false
stands_in name element.Comment = false
stands_in name element.Choose = is_branch name
stands_in name element.Try = is_half name
stands_in name _ = stands_in_run name

-- whether it may be directly in the innermost open element
abbrev pub may_stand : ElementName → Option Opened → Bool
may_stand name None = stands_in_run name
may_stand name (Some opened) = stands_in name opened.name

-- whether at most one with this name may be in an element
abbrev pub is_single : ElementName → Bool
is_single element.Otherwise = true
is_single element.Attempt = true
is_single element.Except = true
is_single _ = false

-- why an element can't end: its `when` is missing in a choose, its attempt in a try, or else its except
abbrev pub ending_by : ElementName → Opened → List Token → Reason
ending_by element.Choose opened before = why.NoWhen opened
ending_by element.Try opened before = why.NoHalf (if has_part element.Attempt 0 before then element.Except else element.Attempt) opened
ending_by name opened before = why.Unopened name

abbrev pub ending : Opened → List Token → Reason
ending opened before = ending_by opened.name opened before

-- why a `when` can't be opened: it has no test, or one that can't be read
abbrev pub by_test : Option (List ℕ) → Reason
by_test None = why.Lacks element.When known.Test
by_test (Some test) = why.BadTest (trouble_of test)

abbrev pub when_lacks : List Attribute → Reason
when_lacks attributes = by_test (value_of known.Test attributes)

-- why a tag opens no element, or one that can't end at once
abbrev pub lacking_by : ElementName → List Attribute → ℕ → Reason
lacking_by element.Include attributes place = why.Lacks element.Include known.Src
lacking_by element.Inline attributes place = why.Lacks element.Inline known.Name
lacking_by element.When attributes place = when_lacks attributes
lacking_by element.Try attributes place = why.NoHalf element.Attempt (record { name = element.Try; place = place })
lacking_by name attributes place = why.NoWhen (record { name = name; place = place })

abbrev pub lacking : Tag → ℕ → Reason
lacking tag place = lacking_by tag.name tag.attributes place

-- why no template continues with an opening tag at this place
abbrev pub open_reason : Tag → ℕ → List Token → Reason
open_reason tag place before =
    let within = innermost 0 before in
    if not (nat_lt (open_count 0 before) OPEN_LIMIT) then why.TooDeep
    else (if not (may_stand tag.name within) then why.Misplaced tag.name within
    else (if is_single tag.name && has_part tag.name 0 before then why.Second tag.name within else lacking tag place))

-- and with a closing tag
abbrev pub close_in : ElementName → Option Opened → List Token → Reason
close_in name None before = why.Unopened name
close_in name (Some opened) before = if is_same opened.name name then ending opened before else why.Crossed name opened

abbrev pub close_reason : ElementName → List Token → Reason
close_reason name before = close_in name (innermost 0 before) before

-- and with any token
abbrev pub by_kind : Kind → ℕ → List Token → Reason
by_kind (kinds.Open tag) place before = open_reason tag place before
by_kind (kinds.Close name) place before = close_reason name before
by_kind _ place before = why.NoRun (innermost 0 before)

abbrev pub token_reason : Token → List Token → Reason
token_reason token before = by_kind token.kind token.span.start before

-- how many tokens begin before a place
abbrev pub count_before : List Token → ℕ → ℕ
count_before tokens place = prefix_len (λ (token : Token). nat_lt token.span.start place) tokens

-- the reason of the first token after others, else of the text's end
abbrev pub first_reason : List Token → List Token → Reason
first_reason before [] = why.Ends (innermost 0 before)
first_reason before (token ∷ tokens) = token_reason token before

-- why a text with these tokens isn't a template from this place on
abbrev pub reason_of : List Token → ℕ → Reason
reason_of tokens place =
    let n = count_before tokens place in
    first_reason (reverse (take n tokens)) (drop n tokens)

-- What is printed of a fault and of a warning, in words.
use Rattle.std.specs.Prelude.{ℕ, ◌+◌, ◌-◌, ◌^◌, List, [], ◌++◌, take, drop, length, min, codes, Option, Some, None, if◌then◌else◌}
use Rattle.std.specs.Fmt.{decimal}
use Rattle.std.specs.Str.{is_utf8}
use Rattle.esi_scanner.specs.declared.attribute.KnownAttribute.{KnownAttribute}
use Rattle.esi_scanner.specs.declared.attribute.KnownAttribute.TheVariants as known
use Rattle.esi_scanner.specs.declared.element_name.ElementName.{ElementName}
use Rattle.esi_scanner.specs.declared.element_name.ElementName.TheVariants as element
use Rattle.esi_scanner.specs.declared.problem.Problem.{Problem}
use Rattle.esi_scanner.specs.declared.problem.Problem.TheVariants as problem
use Rattle.esi_scanner.specs.declared.problem.Trouble.{Trouble}
use Rattle.esi_scanner.specs.Bytes.{attribute_len}
use Rattle.esi_scanner.specs.Names.{element_text, known_text}
use Rattle.esi_vars.specs.Reference.{variable_names}
use Rattle.template_check.specs.declared.trouble.TestTrouble.{TestTrouble}
use Rattle.template_check.specs.Words.{words_of}
use Rattle.template_check.specs.declared.checker.Fault.{Fault}
use Rattle.template_check.specs.declared.elements.Opened.{Opened}
use Rattle.template_check.specs.declared.position.Position.{Position}
use Rattle.template_check.specs.declared.reason.Reason.{Reason}
use Rattle.template_check.specs.declared.reason.Reason.TheVariants as why
use Rattle.template_check.specs.declared.warning.Warning.{Warning}
use Rattle.template_check.specs.declared.warning.Warning.TheVariants as warning
use Rattle.template_check.specs.Checking.{shown_at}
use Rattle.template_check.specs.Positions.{position_of}
use Rattle.template_check.specs.Reasons.{is_branch}

-- one text and then another; unlike those of `++`, several group to the right, as in what a format prints
infixr 65 ◌⊕◌
abbrev pub ◌⊕◌ : List ℕ → List ℕ → List ℕ
a ⊕ b = a ++ b

-- ---- names

-- bytes as text: all that is printed of a template's own bytes are names, which are ASCII
abbrev pub shown : List ℕ → List ℕ
shown bytes = if is_utf8 bytes then bytes else []

abbrev pub element_words : ElementName → List ℕ
element_words name = shown (element_text name)

abbrev pub attribute_words : KnownAttribute → List ℕ
attribute_words name = shown (known_text name)

-- the name at a place
abbrev name_at : List ℕ → List ℕ
name_at rest = shown (take (attribute_len rest) rest)

abbrev pub word_at : List ℕ → ℕ → List ℕ
word_at text place = name_at (drop (min place (length text)) text)

-- an element that was opened, by its name and the line of its tag
unfoldable pub opened_at : List ℕ → Opened → List ℕ
opened_at text opened = codes "<esi:" ⊕ element_words opened.name ⊕ codes "> from line " ⊕ decimal (position_of text opened.place).line

-- what an attribute that an element needs may look like
abbrev pub example_of : KnownAttribute → List ℕ
example_of known.Test = codes "test=\"$(HTTP_COOKIE{name})=='text'\""
example_of known.Name = codes "name=\"/box\""
example_of _ = codes "src=\"/news\""

-- a part that is missing in an element, with what the part needs itself
abbrev pub part_words : ElementName → List ℕ
part_words element.When = codes "<esi:when test=\"..\">"
part_words element.Attempt = codes "<esi:attempt>"
part_words _ = codes "<esi:except>"

-- ---- reasons

-- a tag that can't be read, by the word at the place of the trouble
abbrev pub problem_words : List ℕ → Problem → List ℕ
problem_words word problem.UnknownElement = codes "no element has the name `" ⊕ word ⊕ codes "`: there are include, inline, choose, when, otherwise, try, attempt, except, vars, comment and remove"
problem_words word problem.NoSpace = codes "white space is missing before the attribute `" ⊕ word ⊕ codes "`"
problem_words word problem.NoEquals = codes "`=` is missing after the attribute `" ⊕ word ⊕ codes "`"
problem_words word problem.NoQuote = codes "the value of the attribute `" ⊕ word ⊕ codes "` needs quotes"
problem_words word problem.OpenQuote = codes "the quote before the value of the attribute `" ⊕ word ⊕ codes "` has no second one"
problem_words word problem.Twice = codes "the attribute `" ⊕ word ⊕ codes "` is given twice"
problem_words word problem.TextEnds = codes "the text ends before the tag does: `>` is missing"
problem_words word problem.StrayByte = codes "this can't stand in a tag: is `>` or a quote missing?"
problem_words word problem.NoRemoveEnd = codes "<esi:remove> has no </esi:remove> after it: put it where the part to be left out ends"
problem_words word problem.NoBlockEnd = codes "<!--esi has no --> after it"

abbrev pub trouble_words : List ℕ → Trouble → List ℕ
trouble_words text trouble = problem_words (word_at text trouble.place) trouble.problem

-- an element where it may not be
abbrev pub alone_words : ElementName → List ℕ
alone_words name = codes "<esi:" ⊕ element_words name ⊕ (if is_branch name then codes "> can stand in <esi:choose> alone" else codes "> can stand in <esi:try> alone")

abbrev pub misplaced_words : List ℕ → ElementName → Option Opened → List ℕ
misplaced_words text name None = alone_words name
misplaced_words text name (Some opened) =
    codes "<esi:" ⊕ element_words name ⊕ codes "> can't stand directly in " ⊕ opened_at text opened
    ⊕ codes ": is </esi:" ⊕ element_words opened.name ⊕ codes "> missing before it?"

-- text where it may not be, in an element that takes only these parts, or none
abbrev pub parts_words : List ℕ → List ℕ → Opened → List ℕ
parts_words parts text opened =
    codes "only " ⊕ parts ⊕ codes " can stand directly in " ⊕ opened_at text opened
    ⊕ codes ": move this into one of them, or out of <esi:" ⊕ element_words opened.name ⊕ codes ">"

abbrev run_by : ElementName → List ℕ → Opened → List ℕ
run_by element.Choose text opened = parts_words (codes "<esi:when> and <esi:otherwise>") text opened
run_by element.Try text opened = parts_words (codes "<esi:attempt> and, for where that fails, <esi:except>") text opened
run_by _ text opened = opened_at text opened ⊕ codes " is still open here: end its tag with `/>`"

abbrev pub run_words : List ℕ → Opened → List ℕ
run_words text opened = run_by opened.name text opened

-- a second part of a kind of which there may be one
abbrev pub second_words : List ℕ → ElementName → Option Opened → List ℕ
second_words text name None = codes "a second <esi:" ⊕ element_words name ⊕ codes ">"
second_words text name (Some opened) = opened_at text opened ⊕ codes " has an <esi:" ⊕ element_words name ⊕ codes "> already"

abbrev pub lack_words : ElementName → KnownAttribute → List ℕ
lack_words name attribute =
    codes "<esi:" ⊕ element_words name ⊕ codes "> needs the attribute `" ⊕ attribute_words attribute ⊕ codes "`, such as " ⊕ example_of attribute

abbrev pub test_words : TestTrouble → List ℕ
test_words trouble =
    codes "the attribute `test` can't be read from its byte " ⊕ decimal (min (trouble.place + 1) (2 ^ 64 - 1))
    ⊕ codes " on: " ⊕ words_of trouble.problem ⊕ codes "; a test looks like $(HTTP_COOKIE{name})=='text'"

-- an element without a part that it needs
abbrev pub ending_words : List ℕ → Opened → ElementName → List ℕ
ending_words text opened part = opened_at text opened ⊕ codes " has no " ⊕ part_words part

-- a closing tag that closes nothing
abbrev pub closing_words : List ℕ → ElementName → Option Opened → List ℕ
closing_words text name None = codes "</esi:" ⊕ element_words name ⊕ codes "> closes nothing: no element is open"
closing_words text name (Some opened) =
    codes "</esi:" ⊕ element_words name ⊕ codes "> closes nothing here: " ⊕ opened_at text opened ⊕ codes " is still open, so close that first"

-- a text that ends inside an element
abbrev pub ends_words : List ℕ → Opened → List ℕ
ends_words text opened = codes "the text ends, and " ⊕ opened_at text opened ⊕ codes " is still open: </esi:" ⊕ element_words opened.name ⊕ codes "> is missing"

abbrev pub reason_words : List ℕ → Reason → List ℕ
reason_words text (why.Malformed trouble) = trouble_words text trouble
reason_words text (why.NoRun None) = codes "nothing can stand here"
reason_words text (why.NoRun (Some opened)) = run_words text opened
reason_words text why.TooDeep = codes "32 elements are open here, and no more may be"
reason_words text (why.Misplaced name within) = misplaced_words text name within
reason_words text (why.Second name within) = second_words text name within
reason_words text (why.Lacks name attribute) = lack_words name attribute
reason_words text (why.BadTest trouble) = test_words trouble
reason_words text (why.NoWhen opened) = ending_words text opened element.When
reason_words text (why.NoHalf part opened) = ending_words text opened part
reason_words text (why.Unopened name) = closing_words text name None
reason_words text (why.Crossed name opened) = closing_words text name (Some opened)
reason_words text (why.Ends None) = codes "the text ends too early"
reason_words text (why.Ends (Some opened)) = ends_words text opened

-- a fault of a text, as `LINE:COLUMN: error: WORDS`
abbrev error_at : Position → List ℕ → List ℕ
error_at position words = (decimal position.line ⊕ codes ":" ⊕ decimal position.column ⊕ codes ": error: ") ++ words

abbrev pub message_of : List ℕ → Fault → List ℕ
message_of text fault = error_at (position_of text (shown_at text fault)) (reason_words text fault.reason)

-- ---- warnings

abbrev pub warning_words : Warning → List ℕ
warning_words warning.OnError = codes "`onerror` says nothing here: its one value is `continue`, which leaves out an include that fails"
warning_words warning.UnknownAttribute = codes "an attribute here says nothing: the language doesn't name it"
warning_words warning.EmptySource = codes "an empty `src` asks for this page itself"
warning_words warning.SecureSource = codes "this can only fail: origins are asked by `http:` alone, so write a path or an `http:` URL"
warning_words warning.EmptyText = codes "a comparison with `''` is always false: a reference alone asks whether it is empty"
warning_words warning.IdleReference = codes "this reference is printed as it stands: it isn't between <esi:vars> and </esi:vars>"
warning_words warning.UnknownVariable = codes "no variable has this name: there are " ++ variable_names
warning_words warning.NoReference = codes "this `$(` begins no reference: it stands as it is"
warning_words warning.TagInText = codes "this is text and no tag: a tag begins with `<esi:`, in small letters and without spaces"
warning_words warning.IdleName = codes "no include can ask for this inline: name it by a path, such as /box, or by an `http:` URL"
warning_words warning.ChosenSource = codes "a reader may choose the host or the folder of this `src` or `alt`, by `//`, `\\` or `..`: put the reference behind a `?`, or choose by <esi:when>"

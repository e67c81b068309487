-- Reading a case text from the left.
use Rattle.std.specs.Prelude.{ℕ, zero, suc, Bool, false, not, ◌&&◌, ◌==◌, nat_lt, nat_le, List, [], ◌∷◌, ◌++◌, length, map, take, drop, codes, bytes_eq, Option, Some, None, is_some, option_and_then, if◌then◌else◌}
use Rattle.std.specs.Option.{option_map, option_or, option_copied}
use Rattle.std.specs.Borrow.{Bor}
use Rattle.std.specs.List.{list_all}
use Rattle.std.specs.Char.{is_ascii_digit}
use Rattle.std.specs.Str.{byte}
use Rattle.std.specs.Str.Parse.{digits_value}
use Rattle.edge_types.specs.Head.{head_of}
use Rattle.edge_types.specs.Halves.{around}
use Rattle.edge_types.specs.Asked.{asked}
use Rattle.edge_types.specs.Answered.{Answered, failed, got}
use Rattle.edge_types.specs.declared.answer.TheConstants.{MAX_BODY}
use Rattle.edge_types.specs.declared.head.TheConstants.{MIN_STATUS, MAX_STATUS, MAX_CONTENT_TYPE}
use Rattle.edge_types.specs.Table.{answer_of}
use Rattle.surrogate_headers.specs.Control.{control_of}
use Rattle.edge_case.specs.declared.number.TheConstants.{MAX_DIGITS}
use Rattle.edge_case.specs.declared.case_text.TheConstants.{MAX_CASE}
use Rattle.edge_case.specs.declared.case_text.Case.{Case}
use Rattle.edge_case.specs.declared.heading.Heading.{Heading as LentHeading}
use Rattle.edge_case.specs.declared.entry.Entry.{Entry as LentEntry}
use Rattle.edge_case.specs.declared.entry.Entry.TheVariants as lent
use Rattle.edge_case.specs.Document.{space, line_feed, Heading, field_words, Entry, Failed, Got}
use Rattle.edge_case.specs.Case.{request_of, value_or_empty, device}

infixl 10 ◌>>=◌
abbrev pub ◌>>=◌ : {A B : Type 0} → Option A → (A → Option B) → Option B
o >>= f = option_and_then f o

-- what follows a word at the front
unfoldable pub after_word : List ℕ → List ℕ → Option (List ℕ)
after_word word text = if bytes_eq (take (length word) text) word then Some (drop (length word) text) else None

-- the rest of a line that begins with a word, and what follows the line
unfoldable pub line_at : List ℕ → List ℕ → Option (List ℕ × List ℕ)
line_at word text = do
  value ← after_word word text
  around line_feed value

-- the rest of a line that is there, and what follows it
abbrev pub some_field : List ℕ × List ℕ → Option (List ℕ) × List ℕ
some_field line = (Some line.0, line.1)

abbrev pub field_from : List ℕ → Option (List ℕ) → Option (Option (List ℕ) × List ℕ)
field_from text None = Some (None, text)
field_from text (Some value) = option_map some_field (around line_feed value)

-- the rest of a line that begins with a word, which may be absent, and what follows it
unfoldable pub field_at : List ℕ → List ℕ → Option (Option (List ℕ) × List ℕ)
field_at word text = field_from text (after_word word text)

-- the rests of lines that begin with these words, in order, each of which may be absent, and what follows them
abbrev pub fields_at : List (List ℕ) → List ℕ → Option (List (Option (List ℕ)) × List ℕ)
fields_at [] text = Some ([], text)
fields_at (word ∷ words) text = do
  value ← field_at word text
  others ← fields_at words value.1
  Some (value.0 ∷ others.0, others.1)

-- the lines before the answers, and what follows them
unfoldable pub heading_at : List ℕ → Option (Heading × List ℕ)
heading_at text = do
  page ← line_at (codes "page ") text
  values ← fields_at field_words page.1
  Some (record { page = page.0; values = values.0 }, values.1)

-- a zero before another digit
abbrev pub has_needless_zero : List ℕ → Bool
has_needless_zero [] = false
has_needless_zero (d ∷ []) = false
has_needless_zero (d ∷ e ∷ ds) = d == byte "0"

-- one to six digits, without needless zeros
unfoldable pub is_number : List ℕ → Bool
is_number text = nat_lt 0 (length text) && (nat_le (length text) MAX_DIGITS && (not (has_needless_zero text) && list_all is_ascii_digit text))

-- the number that a text writes
unfoldable pub number_of : List ℕ → Option ℕ
number_of text = if is_number text then Some (digits_value 10 text) else None

-- the status, the length and the URL of the first line of what was fetched
unfoldable pub got_line_of : List ℕ → Option (ℕ × ℕ × List ℕ)
got_line_of line = do
  first ← around space line
  status ← number_of first.0
  second ← around space first.1
  len ← number_of second.0
  Some (status, len, second.1)

-- a body of this many bytes, and what follows the line feed after it
unfoldable pub body_at : ℕ → List ℕ → Option (List ℕ × List ℕ)
body_at len text = if nat_lt (length text) len then None else option_map (λ rest. (take len text, rest)) (after_word (codes "\n") (drop len text))

-- a failure, and what follows it
unfoldable pub failed_at : List ℕ → Option (Entry × List ℕ)
failed_at text = do
  line ← line_at (codes "failed ") text
  Some (Failed line.0, line.1)

-- what was fetched, and what follows it
unfoldable pub got_at : List ℕ → Option (Entry × List ℕ)
got_at text = do
  line ← line_at (codes "answer ") text
  head ← got_line_of line.0
  content_type ← field_at (codes "type ") line.1
  control ← field_at (codes "control ") content_type.1
  start ← after_word (codes "body\n") control.1
  body ← body_at head.1 start
  Some (Got head.0 head.2 content_type.0 control.0 body.0, body.1)

-- an answer, and what follows it
unfoldable pub entry_at : List ℕ → Option (Entry × List ℕ)
entry_at text = option_or (failed_at text) (got_at text)

-- a printable ASCII character, or a space
abbrev pub is_printable : ℕ → Bool
is_printable b = nat_le 32 b && nat_le b 126

-- which answers the edge accepts
unfoldable pub is_acceptable : ℕ → List ℕ → List ℕ → Bool
is_acceptable status content_type body =
    nat_le MIN_STATUS status && (nat_le status MAX_STATUS && (nat_le (length body) MAX_BODY
    && (nat_le (length content_type) MAX_CONTENT_TYPE && list_all is_printable content_type)))

-- what was fetched at a URL, if the edge accepts it
unfoldable pub got_from : ℕ → List ℕ → List ℕ → List ℕ → List ℕ → Option Answered
got_from status content_type control body u =
    if is_acceptable status content_type body then Some (got u (head_of status content_type) (control_of control device) body) else None

-- the answer that a written one denotes
unfoldable pub answered_by : Entry → Option Answered
answered_by (Failed url) = do
  u ← asked None url
  Some (failed u)
answered_by (Got status url content_type control body) = do
  u ← asked None url
  got_from status (value_or_empty content_type) (value_or_empty control) body u

-- the answers with one more, whose URL has none yet
abbrev pub with_answer : List Answered → Answered → Option (List Answered)
with_answer answers answer = if is_some (answer_of answers answer.url) then None else Some (answers ++ answer ∷ [])

-- the answers with one more as it is written
unfoldable pub with_entry : List Answered → Entry → Option (List Answered)
with_entry answers e = do
  answer ← answered_by e
  with_answer answers answer

-- after the answers so far: one more and those that follow it, or the end of the text
abbrev pub answers_after : (List Answered → List ℕ → Option (List Answered)) → List Answered → List ℕ → Option (Entry × List ℕ) → Option (List Answered)
answers_after next answers text None = if bytes_eq text (codes "end\n") then Some answers else None
answers_after next answers text (Some found) = with_entry answers found.0 >>= (λ more. next more found.1)

-- the answers so far with those that the text writes, of which there are fewer than fuel
unfoldable pub answers_within : ℕ → List Answered → List ℕ → Option (List Answered)
answers_within zero answers text = None
answers_within (suc fuel) answers text = answers_after (answers_within fuel) answers text (entry_at text)

-- the answers so far with those that the text writes
unfoldable pub answers_at : List Answered → List ℕ → Option (List Answered)
answers_at answers text = answers_within (suc (length text)) answers text

-- the case that a text of lines spells
unfoldable pub lines_case : List ℕ → Option Case
lines_case text = do
  heading ← heading_at text
  url ← asked None heading.0.page
  table ← answers_at [] heading.1
  Some (record { url = url; request = request_of heading.0; table = table })

-- the case that a text spells
unfoldable pub case_of : List ℕ → Option Case
case_of text = if nat_le (length text) MAX_CASE then lines_case text else None

-- what the readers of the code lend
abbrev pub lent_field : Option (Bor (List ℕ)) × Bor (List ℕ) → Option (List ℕ) × List ℕ
lent_field field = (option_copied field.0, field.1.now)

abbrev pub lent_got_line : ℕ × ℕ × Bor (List ℕ) → ℕ × ℕ × List ℕ
lent_got_line line = (line.0, line.1, line.2.now)

abbrev pub lent_values : List (Option (Bor (List ℕ))) × Bor (List ℕ) → List (Option (List ℕ)) × List ℕ
lent_values values = (map option_copied values.0, values.1.now)

abbrev pub shown_heading : LentHeading → Heading
shown_heading h = record { page = h.page.now; values = map option_copied h.values }

abbrev pub lent_heading : LentHeading × Bor (List ℕ) → Heading × List ℕ
lent_heading heading = (shown_heading heading.0, heading.1.now)

abbrev pub shown_entry : LentEntry → Entry
shown_entry (lent.Failed url) = Failed url.now
shown_entry (lent.Got got) = Got got.status got.url.now (option_copied got.content_type) (option_copied got.control) got.body.now

abbrev pub lent_entry : LentEntry × Bor (List ℕ) → Entry × List ℕ
lent_entry entry = (shown_entry entry.0, entry.1.now)

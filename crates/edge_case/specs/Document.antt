-- A case text by its parts, as they are written.
use Rattle.std.specs.Prelude.{◌≡◌, ◌≢◌, ℕ, List, [], ◌∷◌, ◌++◌, length, map, decimal, codes, Option, Some, None}
use Rattle.std.specs.List.{All, AllByRecursion}
use Rattle.edge_types.specs.Request.{request_fields, heading_word}

-- the byte between the parts of a line
abbrev pub space : ℕ
space = 32

-- the byte that ends a line
abbrev pub line_feed : ℕ
line_feed = 10

-- the lines before the answers: the page's, and one for each field of a request, in their order; an absent line says
-- nothing
pub record Heading : Type 0 where
  pub page : List ℕ
  pub values : List (Option (List ℕ))

-- the words at the front of the fields' lines
abbrev pub field_words : List (List ℕ)
field_words = map heading_word request_fields

-- an answer as it is written: a failure, or what was fetched
pub data Entry : Type 0 where
  Failed : (url : List ℕ) → Entry
  Got : (status : ℕ) (url : List ℕ) (content_type control : Option (List ℕ)) (body : List ℕ) → Entry

-- the whole text
pub record Document : Type 0 where
  pub heading : Heading
  pub entries : List Entry

-- a word and the rest of its line, and the text that follows
abbrev pub line : List ℕ → List ℕ → List ℕ → List ℕ
line word value text = word ++ (value ++ line_feed ∷ text)

-- such a line, if there is one
abbrev pub field : List ℕ → Option (List ℕ) → List ℕ → List ℕ
field word None text = text
field word (Some value) text = line word value text

-- the first line of what was fetched: status, length and URL
abbrev pub got_line : ℕ → ℕ → List ℕ → List ℕ
got_line status len url = decimal status ++ space ∷ (decimal len ++ space ∷ url)

-- an answer, and the text that follows
abbrev pub entry : Entry → List ℕ → List ℕ
entry (Failed url) text = line (codes "failed ") url text
entry (Got status url content_type control body) text =
    line (codes "answer ") (got_line status (length body) url)
    (field (codes "type ") content_type
    (field (codes "control ") control
    (codes "body\n" ++ (body ++ line_feed ∷ text))))

abbrev pub entries : List Entry → List ℕ → List ℕ
entries [] text = text
entries (e ∷ es) text = entry e (entries es text)

-- such a line for each word that has a value, in order
abbrev pub fields : List (List ℕ) → List (Option (List ℕ)) → List ℕ → List ℕ
fields [] values text = text
fields (word ∷ words) [] text = text
fields (word ∷ words) (value ∷ values) text = field word value (fields words values text)

-- the lines before the answers, and the text that follows
abbrev pub heading : Heading → List ℕ → List ℕ
heading h text = line (codes "page ") h.page (fields field_words h.values text)

-- the text that a document is written as
abbrev pub spelling : Document → List ℕ
spelling d = heading d.heading (entries d.entries (codes "end\n"))

-- what a line may contain: any bytes but a line feed
abbrev pub IsValue : List ℕ → Type 0
IsValue value = All (λ b. b ≢ line_feed) value

abbrev pub IsField : Option (List ℕ) → Type 0
IsField None = Unit {0}
IsField (Some value) = IsValue value

pub record IsHeading (h : Heading) : Type 0 where
  pub page : IsValue h.page
  pub count : length h.values ≡ length request_fields
  pub values : AllByRecursion IsField h.values

abbrev pub IsEntry : Entry → Type 0
IsEntry (Failed url) = IsValue url
IsEntry (Got status url content_type control body) = IsValue url × IsField content_type × IsField control

-- each line contains only what it may
pub record IsDocument (d : Document) : Type 0 where
  pub heading : IsHeading d.heading
  pub entries : AllByRecursion IsEntry d.entries

-- What is sent to a client that asks for a page.
use Rattle.std.specs.Prelude.{◌≡◌, ◌≢◌, ◌⊎◌, ℕ, List}
use Rattle.edge_types.specs.Answered.{Answered}
use Rattle.edge_types.specs.Outcome.{shown}
use Rattle.edge_types.specs.declared.outcome.Outcome.{Outcome}
use Rattle.edge_types.specs.declared.request.Request.{Request}
use Rattle.fetch_workers.specs.Rests.{IsAssembled}
use Rattle.page_http.specs.Head.{served, Asks, NamesHost}
use Rattle.page_http.specs.Sent.{Sent, Tells, refusal}
use Rattle.page_http.specs.declared.field.Field.{Field}

-- a target and fields don't ask for a page
abbrev pub AsksNothing : List ℕ → List Field → Type 0
AsksNothing target fields = (url : List ℕ) (request : Request) → ¬ (Asks target fields url request)

-- a head that is read as far as its host: what is missing is room
abbrev pub NamesSomeHost : List Field → Type 0
NamesSomeHost fields = (host : List ℕ) × NamesHost fields host

-- a page was asked for, and what is missing is room for it
abbrev pub WantsRoom : List ℕ → List Field → Type 0
WantsRoom method fields = (method ≡ served) × NamesSomeHost fields

-- the page at a URL, as it follows from answers that the source gave: its outcome over them alone, and
-- so over every table that agrees with them, is what is sent
pub record TellsPageAt (gives : List ℕ → Answered → Type 0) (url : List ℕ) (request : Request) (levels : ℕ) (response : Sent) : Type 0 where
  pub log : List Answered
  pub outcome : Outcome
  pub assembled : IsAssembled gives request levels url log (shown outcome)
  pub told : Tells outcome response

-- the page that is asked for
pub record SendsPage (gives : List ℕ → Answered → Type 0) (target : List ℕ) (fields : List Field) (levels : ℕ) (response : Sent) : Type 0 where
  pub url : List ℕ
  pub request : Request
  pub asks : Asks target fields url request
  pub page : TellsPageAt gives url request levels response

-- the page that a head asks for by the method that is served
pub record IsAskedFor (method target : List ℕ) (fields : List Field) (url : List ℕ) (request : Request) : Type 0 where
  pub is_served : method ≡ served
  pub asks : Asks target fields url request

-- what is sent if the method is served: 400 if no page is asked for, 503 if there is no
-- room for it, and the page (RFC 9110, sections 15.5.1 and 15.6.4)
abbrev pub RespondsToGet : (List ℕ → Answered → Type 0) → List ℕ → List Field → ℕ → Sent → Type 0
RespondsToGet gives target fields levels response =
    (AsksNothing target fields × (response ≡ refusal 400))
    ⊎ ((NamesSomeHost fields × (response ≡ refusal 503))
    ⊎ SendsPage gives target fields levels response)

-- what is sent: 405 for any other method (RFC 9110, section 15.5.6)
abbrev pub Responds : (List ℕ → Answered → Type 0) → List ℕ → List ℕ → List Field → ℕ → Sent → Type 0
Responds gives method target fields levels response =
    ((method ≢ served) × (response ≡ refusal 405))
    ⊎ ((method ≡ served) × RespondsToGet gives target fields levels response)

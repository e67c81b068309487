-- What is true of the meaning, whatever the template.
use Rattle.std.specs.Prelude.{◌≡◌, ◌⊎◌, ℕ, ◌+◌, ◌≤◌, Bool, false, List, [], ◌∷◌, ◌++◌, length, bytes_eq, Any, Contains, Option, None, Some}
use Rattle.std.specs.List.{AllByRecursion, find}
use Rattle.std.specs.Option.{option_map, unwrap_or}
use Rattle.edge_types.specs.declared.request.Request.{Request}
use Rattle.edge_types.specs.Answered.{Answered}
use Rattle.edge_types.specs.Table.{answer_of, reply_of, IsTable, Agrees}
use Rattle.edge_types.specs.Outcome.{Shown}
use Rattle.esi_vars.specs.declared.part.Part.{Part}
use Rattle.esi_expr.specs.Tree.{Test}
use Rattle.esi_expr.specs.Truth.{holds}
use Rattle.esi_scanner.specs.declared.token.Token.{Token}
use Rattle.esi_scanner.specs.Spelling.{Spells}
use Rattle.esi_tree.specs.Items.{items_of}
use Rattle.esi_tree.specs.Template.{IsTemplate}
use Rattle.esi_tree.specs.Tree.{Elements, End, Choose, Try, Branches, NoBranch, When, Otherwise}
use Rattle.esi_meaning.specs.declared.limits.TheConstants.{MAX_LEGS}
use Rattle.esi_meaning.specs.Ahead.{ahead_in, ahead_sources, ahead, ahead_of, HasSource, AsksFor, MayFollow, IsLegal}
use Rattle.esi_meaning.specs.Inlines.{names, inline_for, NamedBody, inlines, UrlBody, inline_urls}
use Rattle.esi_meaning.specs.Meaning.{element_run, elements_run, outcome, asked}
use Rattle.esi_meaning.specs.Run.{Leg, Asks, AsksNobody, Run}
use Rattle.esi_meaning.specs.State.{Waiting, Done, is_missing, state_over, state, waits_at}

-- two tables have the same reply for a URL
abbrev pub SameReply : List Answered → List Answered → List ℕ → Type 0
SameReply table other url = reply_of table url ≡ reply_of other url

-- Two tables with the same replies for the URLs asked over the one ask for the same and have the same outcome.
abbrev pub OutcomeRestsOnAsked : Type 0
OutcomeRestsOnAsked =
    (request : Request) (table other : List Answered) (levels : ℕ) (page : List ℕ) → AllByRecursion (SameReply table other) (asked request table levels page)
    → (asked request table levels page ≡ asked request other levels page) × (outcome request table levels page ≡ outcome request other levels page)

-- Two tables that agree with one log leave a page in the same state: it waits for the same URL, or is done with the
-- same outcome.
abbrev pub StateRestsOnLog : Type 0
StateRestsOnLog =
    (request : Request) (log table other : List Answered) (levels : ℕ) (page : List ℕ) → Agrees log table → Agrees log other → state_over request log table levels page ≡ state_over request log other levels page

-- The logged answers alone, as a table, leave a page in the same state as each table that agrees with them.
abbrev pub LoggedAnswersSuffice : Type 0
LoggedAnswersSuffice =
    (request : Request) (log table : List Answered) (levels : ℕ) (page : List ℕ) → IsTable log → Agrees log table → state request log levels page ≡ state_over request log table levels page

-- What a page waits for isn't logged, and is asked for it over every table that agrees with the log.
abbrev pub WaitsForAsked : Type 0
WaitsForAsked =
    (request : Request) (log table : List Answered) (levels : ℕ) (page url : List ℕ) → IsTable log → Agrees log table → state request log levels page ≡ Waiting url
    → Contains (asked request table levels page) url × (answer_of log url ≡ None)

-- the log has an answer of the URL
abbrev pub IsLogged : List Answered → List ℕ → Type 0
IsLogged log url = is_missing log url ≡ false

-- A page that is done has its outcome over every table that agrees with the log, and all that is asked is logged.
abbrev pub DoneIsOutcome : Type 0
DoneIsOutcome =
    (request : Request) (log table : List Answered) (levels : ℕ) (page : List ℕ) (done : Shown) → IsTable log → Agrees log table → state request log levels page ≡ Done done
    → (outcome request table levels page ≡ done) × AllByRecursion (IsLogged log) (asked request table levels page)

-- this is a leg that asks for the URL, at one of the levels under a page
pub record IsLegOf (levels : ℕ) (url : List ℕ) (found : Option Leg) : Type 0 where
  pub level : ℕ
  pub asks : found ≡ Some (Asks level url)
  pub above : 1 ≤ level
  pub within : level ≤ levels

-- A page that waits for a URL waits either for its own, at no leg, or at a leg with this URL.
abbrev pub WaitsAtLeg : Type 0
WaitsAtLeg =
    (request : Request) (log : List Answered) (levels : ℕ) (page url : List ℕ) → state request log levels page ≡ Waiting url
    → ((url ≡ page) × (waits_at request log levels page ≡ None)) ⊎ IsLegOf levels url (waits_at request log levels page)

-- the page waits for the URL that the leg asks for
abbrev pub IsWaitedFor : Request → List Answered → ℕ → List ℕ → Leg → Type 0
IsWaitedFor request log levels page (Asks level url) = state request log levels page ≡ Waiting url
IsWaitedFor request log levels page AsksNobody = ⊥

-- A page that waits at a leg waits for the URL of this leg.
abbrev pub LegIsWaitedFor : Type 0
LegIsWaitedFor =
    (request : Request) (log : List Answered) (levels : ℕ) (page : List ℕ) (leg : Leg) → waits_at request log levels page ≡ Some leg → IsWaitedFor request log levels page leg

-- A page has the same outcome with and without an answer of a URL that isn't asked for.
abbrev pub UnaskedChangesNothing : Type 0
UnaskedChangesNothing =
    (request : Request) (front back : List Answered) (beside : Answered) (levels : ℕ) (page : List ℕ) → ¬ Contains (asked request (front ++ back) levels page) beside.url
    → outcome request (front ++ beside ∷ back) levels page ≡ outcome request (front ++ back) levels page

-- A page asks for at most its own URL and one for each leg that it may try.
abbrev pub AsksFew : Type 0
AsksFew = (request : Request) (table : List Answered) (levels : ℕ) (page : List ℕ) → length (asked request table levels page) ≤ MAX_LEGS + 1

-- a `when`: its test, and its content
pub record Guarded : Type 0 where
  pub test : Test
  pub content : Elements

-- the legs of both, and the text of the second alone
abbrev pub replaced_by : Run → Run → Run
replaced_by a b = record { legs = a.legs ++ b.legs; text = b.text }

-- If the attempt of a try fails, only the except has text; the attempt's legs stay counted, before its own.
abbrev pub FailedAttemptLeavesNoText : Type 0
FailedAttemptLeavesNoText =
    (request : Request) (leg : List Part → Run) (attempt except : Elements) (swapped : Bool) → (elements_run request leg attempt).text ≡ None
    → element_run request leg (Try attempt except swapped) ≡ replaced_by (elements_run request leg attempt) (elements_run request leg except)

-- If the attempt of a try has a text, nothing more than the attempt is tried.
abbrev pub AttemptWithTextStands : Type 0
AttemptWithTextStands =
    (request : Request) (leg : List Part → Run) (attempt except : Elements) (swapped : Bool) (text : List ℕ) → (elements_run request leg attempt).text ≡ Some text
    → element_run request leg (Try attempt except swapped) ≡ elements_run request leg attempt

-- the `when`s of a choose, in their order
abbrev pub whens : Branches → List Guarded
whens NoBranch = []
whens (When test content rest) = record { test = test; content = content } ∷ whens rest
whens (Otherwise content rest) = whens rest

-- the content of the otherwise, or this without one; of several it is the last, but a template never has several
abbrev pub otherwise_or : Elements → Branches → Elements
otherwise_or none NoBranch = none
otherwise_or none (When test content rest) = otherwise_or none rest
otherwise_or none (Otherwise content rest) = otherwise_or content rest

-- the content of the first `when` whose test holds, else that of the otherwise, else nothing
abbrev pub taken : Request → Branches → Elements
taken request branches = unwrap_or (option_map (λ (guarded : Guarded). guarded.content) (find (λ (guarded : Guarded). holds request guarded.test) (whens branches))) (otherwise_or End branches)

-- A choose is the content of its first `when` whose test holds, else of its otherwise, wherever this is.
abbrev pub FirstWhenCounts : Type 0
FirstWhenCounts = (request : Request) (leg : List Part → Run) (branches : Branches) → element_run request leg (Choose branches) ≡ elements_run request leg (taken request branches)

-- The sources of this content are those that are fetched ahead.
abbrev pub FirstWhenIsAhead : Type 0
FirstWhenIsAhead = (request : Request) (branches : Branches) → ahead_in request (Choose branches) ≡ ahead_sources request (taken request branches)

-- Of the inlines of a template, in text order, the content of the first that names a URL counts.
abbrev pub FirstInlineCounts : Type 0
FirstInlineCounts =
    (template url : List ℕ) (tree : Elements) → inline_for template url tree ≡ option_map (λ (inline : NamedBody). inline.content) (find (λ (inline : NamedBody). names template url inline.name) (inlines tree))

-- The content of that inline, looked up by URL among the inlines, with each name resolved once.
abbrev pub InlinesByUrl : Type 0
InlinesByUrl =
    (template url : List ℕ) (tree : Elements) → inline_for template url tree ≡ option_map (λ (inline : UrlBody). inline.content) (find (λ (inline : UrlBody). bytes_eq inline.url url) (inline_urls template tree))

-- What is fetched ahead for a template is a URL that a source of it denotes, and that no inline of it names.
abbrev pub AheadHasSource : Type 0
AheadHasSource =
    (request : Request) (template : List ℕ) (tree : Elements) (url : List ℕ) → Contains (ahead request template tree) url → HasSource request template tree url × (inline_for template url tree ≡ None)

-- What is asked for a page is its own URL, or one that a source denotes in the template of an answer, and that no
-- inline of this template names.
abbrev pub AskedHasSource : Type 0
AskedHasSource = (request : Request) (table : List Answered) (levels : ℕ) (page url : List ℕ) → Contains (asked request table levels page) url → (url ≡ page) ⊎ Any (AsksFor request url) table

-- A log without answers is legal.
abbrev pub NothingIsLegal : Type 0
NothingIsLegal = (request : Request) (page : List ℕ) → IsLegal request page []

-- A legal log followed by the answer of a URL that may follow and isn't logged is a legal log.
abbrev pub LegalGrows : Type 0
LegalGrows =
    (request : Request) (page : List ℕ) (log : List Answered) (next : Answered) → IsLegal request page log → MayFollow request page log next.url → answer_of log next.url ≡ None
    → IsLegal request page (log ++ next ∷ [])

-- What may follow a log that has an answer may still follow when the log has grown.
abbrev pub StillFollows : Type 0
StillFollows = (request : Request) (page : List ℕ) (first : Answered) (log more : List Answered) (url : List ℕ) → MayFollow request page (first ∷ log) url → MayFollow request page (first ∷ log ++ more) url

-- What a page waits for may follow its log.
abbrev pub WaitedForFollows : Type 0
WaitedForFollows = (request : Request) (log : List Answered) (levels : ℕ) (page url : List ℕ) → IsLegal request page log → state request log levels page ≡ Waiting url → MayFollow request page log url

-- What is fetched ahead for a logged answer may follow the log.
abbrev pub AheadFollows : Type 0
AheadFollows =
    (request : Request) (page : List ℕ) (log : List Answered) (answer : Answered) (url : List ℕ) → Contains log answer → Contains (ahead_of request answer) url → MayFollow request page log url

-- A text is spelled by at most one list of tokens.
abbrev pub OneListOfTokens : Type 0
OneListOfTokens = (text : List ℕ) (tokens others : List Token) → Spells text tokens → Spells text others → tokens ≡ others

-- A list of tokens of a text is the template of at most one tree.
abbrev pub OneTreeOfTokens : Type 0
OneTreeOfTokens =
    (text : List ℕ) (tokens : List Token) (tree other : Elements) → IsTemplate tree (items_of text tokens) → IsTemplate other (items_of text tokens) → tree ≡ other

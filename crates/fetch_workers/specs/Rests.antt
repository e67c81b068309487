-- What the outcome of an assembled page rests on.
use Rattle.std.specs.Prelude.{◌≡◌, ◌≤◌, ℕ, List, Option, IfSome}
use Rattle.edge_types.specs.declared.request.Request.{Request}
use Rattle.edge_types.specs.Answered.{Answered}
use Rattle.edge_types.specs.declared.outcome.PageFault.TheVariants.{IncludeFailed}
use Rattle.edge_types.specs.Outcome.{Shown, Fault}
use Rattle.edge_types.specs.Table.{Agrees}
use Rattle.esi_meaning.specs.Ahead.{IsLegal}
use Rattle.esi_meaning.specs.Meaning.{outcome}
use Rattle.esi_meaning.specs.State.{Done, state}
use Rattle.plan_machine.specs.LastLeg.{failed_answer}
use Rattle.fetch_workers.specs.Given.{AllGiven}
use Rattle.fetch_workers.specs.declared.assembler.TheConstants.{MAX_FETCHES, MAX_WORKERS}

-- how many threads may work for a page
pub record AreWorkers (workers : ℕ) : Type 0 where
  pub some : 1 ≤ workers
  pub few : workers ≤ MAX_WORKERS

-- how many fetches a page may have in flight
pub record AreFetches (fetches : ℕ) : Type 0 where
  pub some : 1 ≤ fetches
  pub few : fetches ≤ MAX_FETCHES

-- the page at this URL, for this request and with these levels, has this outcome
pub record RestsOn (request : Request) (levels : ℕ) (url : List ℕ) (log : List Answered) (result : Shown) : Type 0 where
  -- over the logged answers alone: each URL that is asked for to make the page is logged
  pub alone : state request log levels url ≡ Done result
  -- over every table that agrees with them, whatever else it has
  pub over_every_table : (table : List Answered) → Agrees log table → outcome request table levels url ≡ result

-- where an include failed the page, this is the answer of the leg at which it failed
pub record IsFailedLeg (request : Request) (levels : ℕ) (url : List ℕ) (log : List Answered) (result : Shown) (leg : Option Answered) : Type 0 where
  pub failed : result ≡ Fault IncludeFailed → leg ≡ failed_answer request log levels url
  pub others : IfSome leg (λ _. result ≡ Fault IncludeFailed)

-- a page that was assembled of a source's answers: what it logged, and its outcome
pub record IsAssembled (gives : List ℕ → Answered → Type 0) (request : Request) (levels : ℕ) (url : List ℕ) (log : List Answered) (result : Shown) : Type 0 where
  -- each logged answer is one that the source gives for its URL
  pub given : AllGiven gives log
  pub legal : IsLegal request url log
  pub outcome : RestsOn request levels url log result

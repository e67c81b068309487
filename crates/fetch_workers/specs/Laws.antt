-- What an assembled page is, whoever gave the answers.
use Rattle.std.specs.Prelude.{◌≡◌, ℕ, List}
use Rattle.edge_types.specs.declared.request.Request.{Request}
use Rattle.edge_types.specs.Answered.{Answered}
use Rattle.edge_types.specs.Outcome.{Shown}
use Rattle.esi_meaning.specs.Meaning.{outcome}
use Rattle.answer_sources.specs.Given.{GivenByTable}
use Rattle.fetch_workers.specs.Given.{AllGiven}
use Rattle.fetch_workers.specs.Rests.{RestsOn}

-- A page whose logged answers a table gave has its outcome over this table: the one that the plain evaluator returns.
abbrev pub TablesGiveThePage : Type 0
TablesGiveThePage =
    (request : Request) (table log : List Answered) (levels : ℕ) (url : List ℕ) (result : Shown)
    → AllGiven (GivenByTable table) log → RestsOn request levels url log result → outcome request table levels url ≡ result

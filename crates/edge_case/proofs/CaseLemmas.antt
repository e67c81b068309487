-- Case texts: what is read is one, and one is read.
use Rattle.std.proofs.Common.{◌≡◌, ℕ, Bool, true, false, cond, nat_le, List, [], length, refl, sym, ◌∙◌, ap, subst, Option, Some, None, IfSome, arith, codes}
use Rattle.std.specs.Option.{IfNone}
use Rattle.std.proofs.lemmas.Bool.{leb-true, le-leb, cond-true}
use Rattle.edge_types.specs.declared.request.Request.{Request}
use Rattle.edge_types.specs.Asked.{asked}
use Rattle.edge_types.specs.Answered.{Answered}
use Rattle.edge_types.specs.Table.{IsTable}
use Rattle.edge_case.specs.declared.case_text.Case.{Case}
use Rattle.edge_case.specs.declared.case_text.TheConstants.{MAX_CASE}
use Rattle.edge_case.specs.Document.{spelling, entries}
use Rattle.edge_case.specs.Document as document
use Rattle.edge_case.specs.Case.{request_of, StandEach, IsCaseText}
use Rattle.edge_case.specs.Reading.{heading_at, answers_at, lines_case, case_of}
use Rattle.edge_case.proofs.Steps.{bound, same_value}
use Rattle.edge_case.proofs.Headings.{heading_sound, heading_complete, entries_lack}
use Rattle.edge_case.proofs.AnswersLemmas.{answers_sound, answers_complete}

within : {A : Type 0} (b : Bool) (o : Option A) (y : A) → cond b o None ≡ Some y → (b ≡ true) × (o ≡ Some y)
within true o y e = (refl, e)
within false o y e = absurd (cc)

no_table : IsTable []
no_table i j d h l = absurd (omega arith)

pub case_sound : (text : List ℕ) (case : Case) → case_of text ≡ Some case → IsCaseText text case
unfolding case_of lines_case
case_sound text case found =
    let (short, f) = within (nat_le (length text) MAX_CASE) (lines_case text) case found in
    let (heading, r0, f0) = bound (heading_at text) _ case f in
    let (url, r1, f1) = bound (asked None heading.0.page) _ case f0 in
    let (table, r2, f2) = bound (answers_at [] heading.1) _ case f1 in
    let headed = heading_sound text heading.0 heading.1 r0 in
    let answers = answers_sound [] table heading.1 r2 in
    let made : Case = record { url = url; request = request_of heading.0; table = table } in
    let same : made ≡ case = same_value _ _ f2 in
    let is : IsCaseText text made = record {
      short = leb-true (length text) MAX_CASE short;
      document = record { heading = heading.0; entries = answers.es };
      lines = record { heading = headed.lines; entries = answers.lines };
      spelled = headed.whole ∙ ap (λ (t : List ℕ). document.heading heading.0 t) answers.whole;
      page = r1;
      request = refl;
      answers = subst (λ (t : List Answered). StandEach answers.es t) (sym answers.table_is) answers.stand;
      once = answers.once no_table;
    } in
    subst (λ (c : Case). IsCaseText text c) same is

abbrev case_with : Case → Request → Case
case_with case r = record { url = case.url; request = r; table = case.table }

lines_complete : (text : List ℕ) (case : Case) → (is : IsCaseText text case) → lines_case (spelling is.document) ≡ Some case
unfolding lines_case
lines_complete text case is =
    let r0 : heading_at (spelling is.document) ≡ Some (is.document.heading, entries is.document.entries (codes "end\n")) =
    heading_complete is.document.heading (entries is.document.entries (codes "end\n")) is.lines.heading (entries_lack is.document.entries) in
    let r2 : answers_at [] (entries is.document.entries (codes "end\n")) ≡ Some case.table =
    answers_complete is.document.entries case.table [] is.lines.entries is.answers is.once in
    rw (r0, is.page, r2) (ap (λ (r : Request). Some (case_with case r)) (sym is.request))

pub case_complete : (text : List ℕ) (case : Case) → IsCaseText text case → case_of text ≡ Some case
unfolding case_of
case_complete text case is =
    cond-true (nat_le (length text) MAX_CASE) (lines_case text) None (le-leb (length text) MAX_CASE is.short) ∙ ap lines_case is.spelled ∙ lines_complete text case is

pub found_is : (text : List ℕ) (found : Option Case) → found ≡ case_of text → IfSome found (λ case. IsCaseText text case)
found_is text None e = tt
found_is text (Some case) e = case_sound text case (sym e)

pub none_is : (text : List ℕ) (found : Option Case) → found ≡ case_of text → IfNone found ((case : Case) → IsCaseText text case → ⊥)
none_is text None e = λ case is. let other : None ≡ Some case = e ∙ case_complete text case is in absurd (cc)
none_is text (Some case) e = tt

pub one_case : (text : List ℕ) (one other : Case) → IsCaseText text one → IsCaseText text other → one ≡ other
one_case text one other is that = same_value one other (sym (case_complete text one is) ∙ case_complete text other that)

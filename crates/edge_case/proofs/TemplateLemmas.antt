-- The templates among the answers that are read one by one.
use Rattle.std.proofs.Common.{◌≡◌, ℕ, Bool, true, false, cond, nat_le, length, List, [], ◌∷◌, ◌++◌, refl, sym, ◌∙◌, ap, ap₂, Option, Some, None, codes, bytes_eq, is_some}
use Rattle.std.proofs.lemmas.List.Elements.{filter-append}
use Rattle.edge_types.specs.Answered.{Answered}
use Rattle.edge_types.specs.Table.{answer_of}
use Rattle.edge_types.specs.Asked.{asked}
use Rattle.edge_case.specs.declared.case_text.Case.{Case}
use Rattle.edge_case.specs.declared.case_text.TheConstants.{MAX_CASE}
use Rattle.edge_case.specs.Document.{Heading, Entry}
use Rattle.edge_case.specs.Reading.{◌>>=◌, entry_at, answered_by, with_answer, with_entry, answers_after, answers_at, heading_at, lines_case, case_of}
use Rattle.edge_case.specs.Templates.{is_template, templates_in, template_of}
use Rattle.edge_case.proofs.AnswersLemmas.{answers_step, answers_end}
use Rattle.edge_case.proofs.Steps.{bound, guarded, unguarded, same_value}

-- the templates found so far are those of the answers so far, which the rest makes a table
pub record Follows (found : List Answered) (rest : List ℕ) (table : List Answered) : Type 0 where
  pub so_far : List Answered
  pub reads : answers_at so_far rest ≡ Some table
  pub kept : found ≡ templates_in so_far

pub begins : (text : List ℕ) (table : List Answered) → answers_at [] text ≡ Some table → Follows [] text table
begins text table reads = record { so_far = []; reads = reads; kept = refl }

-- the answers with one more, where that can be added
one-more : (answers more : List Answered) (e : Entry) → with_entry answers e ≡ Some more → (answer : Answered) × (answered_by e ≡ Some answer) × (more ≡ answers ++ answer ∷ [])
unfolding with_entry
one-more answers more e added =
    let (answer, stands, new) = bound (answered_by e) (λ answer. with_answer answers answer) more added in
    let (lacks, same) = unguarded (is_some (answer_of answers answer.url)) (Some (answers ++ answer ∷ [])) more new in
    (answer, stands, sym (same_value _ _ same))

pub goes_on : (found next : List Answered) (rest after : List ℕ) (e : Entry) (table : List Answered) → Some (e, after) ≡ entry_at rest → Follows found rest table
    → next ≡ found ++ template_of (answered_by e) → Follows next after table
goes_on found next rest after e table entry follows is =
    let steps : (with_entry follows.so_far e >>= (λ more. answers_at more after)) ≡ Some table =
    ap (answers_after answers_at follows.so_far rest) entry ∙ sym (answers_step follows.so_far rest) ∙ follows.reads in
    let (more, added, read) = bound (with_entry follows.so_far e) (λ more. answers_at more after) table steps in
    let (answer, stands, longer) = one-more follows.so_far more e added in
    record {
      so_far = more;
      reads = read;
      kept = is ∙ ap₂ (λ (xs ys : List Answered). xs ++ ys) follows.kept (ap template_of stands) ∙ sym (filter-append is_template follows.so_far (answer ∷ [])) ∙ ap templates_in (sym longer);
    }

pub ends : (found : List Answered) (rest : List ℕ) (table : List Answered) → None ≡ entry_at rest → Follows found rest table → found ≡ templates_in table
ends found rest table none follows =
    let (end, same) = guarded (bytes_eq rest (codes "end\n")) follows.so_far table (sym (answers_end follows.so_far rest none) ∙ follows.reads) in
    follows.kept ∙ ap templates_in same

-- ---- the lines before them

behind-limit : {A : Type 0} (b : Bool) (o : Option A) (x : A) → cond b o None ≡ Some x → o ≡ Some x
behind-limit true o x e = e
behind-limit false o x e = absurd (cc)

-- a case's answers are read behind its heading
pub headed : (text : List ℕ) (case : Case) → case_of text ≡ Some case → (found : Heading × List ℕ) × (heading_at text ≡ Some found) × (answers_at [] found.1 ≡ Some case.table)
unfolding case_of lines_case
headed text case is =
    let lines : lines_case text ≡ Some case = behind-limit (nat_le (length text) MAX_CASE) (lines_case text) case is in
    let (found, heading, rest) = bound (heading_at text) _ case lines in
    let (url, asks, more) = bound (asked None found.0.page) _ case rest in
    let (table, reads, made) = bound (answers_at [] found.1) _ case more in
    (found, heading, reads ∙ ap Some (ap (λ (c : Case). c.table) (same_value _ _ made)))

pub behind_heading : (text rest : List ℕ) (h : Heading) (case : Case) → Some (h, rest) ≡ heading_at text → case_of text ≡ Some case → answers_at [] rest ≡ Some case.table
behind_heading text rest h case heading is =
    let (found, there, reads) = headed text case is in
    ap (λ (f : Heading × List ℕ). answers_at [] f.1) (same_value _ _ (heading ∙ there)) ∙ reads

pub no_heading : (text : List ℕ) (case : Case) → None ≡ heading_at text → case_of text ≡ Some case → ⊥
no_heading text case none is = let clash : None ≡ Some (headed text case is).0 = none ∙ (headed text case is).1 in absurd (cc)

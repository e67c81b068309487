-- The answers of a case text: what is read is written so, and what is written so is read.
use Rattle.std.proofs.Common.{◌≡◌, ◌≢◌, ℕ, zero, suc, ◌<◌, Bool, true, false, cond, List, [], ◌∷◌, ◌++◌, length, get_or, refl, sym, ◌∙◌, ap, subst, Option, Some, None, is_some, arith, codes, bytes_eq, length-append, append_assoc, append-nil}
use Rattle.std.proofs.lemmas.Bool.{cond-true, cond-false, false_from_ne_true, both_ways}
use Rattle.std.proofs.lemmas.List.{get_or_append_left}
use Rattle.std.proofs.Math.Seq.{get_or-append_seam}
use Rattle.std.proofs.lemmas.List.Quantifiers.{all_pairs_push}
use Rattle.std.proofs.lemmas.Slice.Eq.{bytes_eq-Decides}
use Rattle.std.specs.List.{AllByRecursion}
use Rattle.edge_types.specs.Asked.{asked}
use Rattle.edge_types.specs.Answered.{Answered, failed}
use Rattle.edge_types.specs.Table.{is_of, answer_of, IsTable}
use Rattle.edge_case.specs.Document.{Entry, Failed, Got, entry, entries, IsEntry}
use Rattle.edge_case.specs.Case.{value_or_empty, IsGot, Stands, StandEach}
use Rattle.edge_case.specs.Reading.{◌>>=◌, entry_at, is_acceptable, got_from, answered_by, with_answer, with_entry, answers_after, answers_within, answers_at}
use Rattle.edge_case.proofs.Steps.{bound, guarded, unguarded, same_value}
use Rattle.edge_case.proofs.AcceptableLemmas.{acceptable-decides}
use Rattle.edge_case.proofs.Entries.{Entered, entry_sound, entry_complete, entry_shorter, IsSmall, no_end}

-- ---- fuel

after_cases : (f g : List Answered → List ℕ → Option (List Answered)) (answers : List Answered) (text : List ℕ) (o : Option (Entry × List ℕ))
    → ((x : Entry × List ℕ) → o ≡ Some x → (more : List Answered) → f more x.1 ≡ g more x.1) → answers_after f answers text o ≡ answers_after g answers text o
after_cases f g answers text None same = refl
after_cases f g answers text (Some x) same = with_cases (with_entry answers x.0)
  where
    with_cases : (o : Option (List Answered)) → (o >>= (λ more. f more x.1)) ≡ (o >>= (λ more. g more x.1))
    with_cases None = refl
    with_cases (Some more) = same x refl more

pub enough : (m n : ℕ) (answers : List Answered) (text : List ℕ) → length text < m → length text < n → answers_within m answers text ≡ answers_within n answers text
unfolding answers_within
enough zero n answers text h k = absurd (omega arith)
enough (suc m) zero answers text h k = absurd (omega arith)
enough (suc m) (suc n) answers text h k =
    after_cases (answers_within m) (answers_within n) answers text (entry_at text) (λ x found more.
    let shorter : length x.1 < length text = entry_shorter text x found in
    enough m n more x.1 (omega arith) (omega arith))

-- one step of reading answers
pub answers_step : (answers : List Answered) (text : List ℕ) → answers_at answers text ≡ answers_after answers_at answers text (entry_at text)
unfolding answers_at answers_within
answers_step answers text =
    after_cases (answers_within (length text)) answers_at answers text (entry_at text) (λ x found more.
    let shorter : length x.1 < length text = entry_shorter text x found in
    enough (length text) (suc (length x.1)) more x.1 shorter (omega arith))

-- ---- one answer

pub answered_sound : (e : Entry) (answer : Answered) → answered_by e ≡ Some answer → Stands e answer
unfolding answered_by got_from
answered_sound (Failed url) answer h =
    let (u, is, made) = bound (asked None url) _ answer h in
    let same : failed u ≡ answer = same_value _ _ made in
    let at : u ≡ answer.url = ap (λ (a : Answered). a.url) same in
    (is ∙ ap Some at, sym same ∙ ap failed at)
answered_sound (Got status url content_type control body) answer h =
    let (u, is, found) = bound (asked None url) _ answer h in
    let (takes, same) = guarded (is_acceptable status (value_or_empty content_type) body) _ answer found in
    let at : u ≡ answer.url = ap (λ (a : Answered). a.url) same in
    let stands : (asked None url ≡ Some u) × IsGot status u content_type control body answer =
    (is, record { acceptable = (acceptable-decides status (value_or_empty content_type) body).0 takes; says = sym same }) in
    subst (λ (v : List ℕ). (asked None url ≡ Some v) × IsGot status v content_type control body answer) at stands

pub answered_complete : (e : Entry) (answer : Answered) → Stands e answer → answered_by e ≡ Some answer
unfolding answered_by got_from
answered_complete (Failed url) answer stands = rw stands.0 (ap Some (sym stands.1))
answered_complete (Got status url content_type control body) answer stands =
    let takes : is_acceptable status (value_or_empty content_type) body ≡ true = (acceptable-decides status (value_or_empty content_type) body).1 stands.1.acceptable in
    rw stands.0 (cond-true _ _ None takes ∙ ap Some (sym stands.1.says))

pub small_by : (e : Entry) (answer : Answered) → Stands e answer → IsSmall e
small_by (Failed url) answer stands = tt
small_by (Got status url content_type control body) answer stands =
    let a = stands.1.acceptable in (omega (arith, a.head.status_to), omega (arith, a.body_length))

-- ---- tables

apart : (b : Bool) (a : Answered) (o : Option Answered) → is_some (cond b (Some a) o) ≡ false → (b ≡ false) × (is_some o ≡ false)
apart true a o e = absurd (cc)
apart false a o e = (refl, e)

-- no answer is one of the URL
absent : (answers : List Answered) (url : List ℕ) → is_some (answer_of answers url) ≡ false → (k : ℕ) (d : Answered) → k < length answers → (get_or answers k d).url ≡ url → ⊥
absent [] url h k d l same = omega arith
absent (a ∷ answers) url h zero d l same = both_ways (is_of url a) (apart (is_of url a) a (answer_of answers url) h).0 ((bytes_eq-Decides a.url url).1 same)
absent (a ∷ answers) url h (suc k) d l same = absent answers url (apart (is_of url a) a (answer_of answers url) h).1 k d (omega arith) same

lacks : (answers : List Answered) (url : List ℕ) → ((k : ℕ) (d : Answered) → k < length answers → (get_or answers k d).url ≡ url → ⊥) → is_some (answer_of answers url) ≡ false
lacks [] url none = refl
lacks (a ∷ answers) url none =
    let other : is_of url a ≡ false = false_from_ne_true (is_of url a) (λ e. none zero a (omega arith) ((bytes_eq-Decides a.url url).0 e)) in
    ap (λ b. is_some (cond b (Some a) (answer_of answers url))) other ∙ lacks answers url (λ k d l. none (suc k) d (omega arith))

with_is : (answers more : List Answered) (answer : Answered) → with_answer answers answer ≡ Some more → more ≡ answers ++ answer ∷ []
with_is answers more answer h =
    let (new, same) = unguarded (is_some (answer_of answers answer.url)) (Some (answers ++ answer ∷ [])) more h in
    sym (same_value _ _ same)

pub with_sound : (answers more : List Answered) (answer : Answered) → with_answer answers answer ≡ Some more → IsTable answers → (more ≡ answers ++ answer ∷ []) × IsTable more
with_sound answers more answer h once =
    let (new, same) = unguarded (is_some (answer_of answers answer.url)) (Some (answers ++ answer ∷ [])) more h in
    let is : answers ++ answer ∷ [] ≡ more = same_value _ _ same in
    let pushed : IsTable (answers ++ answer ∷ []) = all_pairs_push (λ earlier later. earlier.url ≢ later.url) answers answer once (absent answers answer.url new) in
    (sym is, subst (λ (t : List Answered). IsTable t) is pushed)

pub with_complete : (answers after : List Answered) (answer : Answered) → IsTable (answers ++ answer ∷ after) → with_answer answers answer ≡ Some (answers ++ answer ∷ [])
with_complete answers after answer once =
    cond-false (is_some (answer_of answers answer.url)) None _ (lacks answers answer.url (λ k d l same.
    once k (length answers) d l (omega (arith, length-append answers (answer ∷ after)))
    (ap (λ (a : Answered). a.url) (get_or_append_left answers (answer ∷ after) d k l) ∙ same ∙ ap (λ (a : Answered). a.url) (sym (get_or-append_seam answers answer after d)))))

-- ---- all answers

-- the text is these answers, and the end
pub record Answers (answers : List Answered) (text : List ℕ) (table : List Answered) : Type 0 where
  pub es : List Entry
  pub found : List Answered
  pub whole : text ≡ entries es (codes "end\n")
  pub lines : AllByRecursion IsEntry es
  pub stand : StandEach es found
  pub table_is : table ≡ answers ++ found
  pub once : IsTable answers → IsTable table

more_answers : (answers more table : List Answered) (text : List ℕ) (x : Entry × List ℕ) (answer : Answered) → Entered text x → Stands x.0 answer → with_answer answers answer ≡ Some more → Answers more x.1 table → Answers answers text table
more_answers answers more table text x answer entered stands new rest = record {
  es = x.0 ∷ rest.es;
  found = answer ∷ rest.found;
  whole = entered.whole ∙ ap (λ (t : List ℕ). entry x.0 t) rest.whole;
  lines = (entered.lines, rest.lines);
  stand = (stands, rest.stand);
  table_is = rest.table_is ∙ ap (λ (t : List Answered). t ++ rest.found) (with_is answers more answer new) ∙ append_assoc answers (answer ∷ []) rest.found;
  once = λ once. rest.once (with_sound answers more answer new once).1;
}

ends : (answers table : List Answered) (text : List ℕ) → cond (bytes_eq text (codes "end\n")) (Some answers) None ≡ Some table → Answers answers text table
ends answers table text h =
    let (end, same) = guarded (bytes_eq text (codes "end\n")) answers table h in
    record {
      es = [];
      found = [];
      whole = (bytes_eq-Decides text (codes "end\n")).0 end;
      lines = tt;
      stand = tt;
      table_is = sym same ∙ sym (append-nil answers);
      once = λ once. subst (λ (t : List Answered). IsTable t) same once;
    }

step_sound : (f : List Answered → List ℕ → Option (List Answered)) → ((answers table : List Answered) (text : List ℕ) → f answers text ≡ Some table → Answers answers text table)
    → (answers table : List Answered) (text : List ℕ) (o : Option (Entry × List ℕ)) → ((x : Entry × List ℕ) → o ≡ Some x → Entered text x) → answers_after f answers text o ≡ Some table → Answers answers text table
unfolding with_entry
step_sound f sound answers table text None entered h = ends answers table text h
step_sound f sound answers table text (Some x) entered h =
    let (more, added, read) = bound (with_entry answers x.0) (λ more. f more x.1) table h in
    let (answer, stands, new) = bound (answered_by x.0) (λ answer. with_answer answers answer) more added in
    more_answers answers more table text x answer (entered x refl) (answered_sound x.0 answer stands) new (sound more table x.1 read)

within_sound : (n : ℕ) (answers table : List Answered) (text : List ℕ) → answers_within n answers text ≡ Some table → Answers answers text table
unfolding answers_within
within_sound zero answers table text h = absurd (cc)
within_sound (suc n) answers table text h = step_sound (answers_within n) (within_sound n) answers table text (entry_at text) (entry_sound text) h

pub answers_sound : (answers table : List Answered) (text : List ℕ) → answers_at answers text ≡ Some table → Answers answers text table
unfolding answers_at
answers_sound answers table text h = within_sound (suc (length text)) answers table text h

added : (answers after : List Answered) (e : Entry) (answer : Answered) → Stands e answer → IsTable (answers ++ answer ∷ after) → with_entry answers e ≡ Some (answers ++ answer ∷ [])
unfolding with_entry
added answers after e answer stands once =
    ap (λ o. o >>= (λ answer. with_answer answers answer)) (answered_complete e answer stands) ∙ with_complete answers after answer once

pub answers_complete : (es : List Entry) (found answers : List Answered) → AllByRecursion IsEntry es → StandEach es found → IsTable (answers ++ found) → answers_at answers (entries es (codes "end\n")) ≡ Some (answers ++ found)
answers_complete [] [] answers lines stand once =
    answers_step answers (codes "end\n") ∙ ap (answers_after answers_at answers (codes "end\n")) no_end ∙ ap Some (sym (append-nil answers))
answers_complete [] (a ∷ found) answers lines stand once = absurd stand
answers_complete (e ∷ es) [] answers lines stand once = absurd stand
answers_complete (e ∷ es) (a ∷ found) answers lines stand once =
    let regrouped : (answers ++ a ∷ []) ++ found ≡ answers ++ a ∷ found = append_assoc answers (a ∷ []) found in
    answers_step answers (entry e (entries es (codes "end\n")))
    ∙ ap (answers_after answers_at answers (entry e (entries es (codes "end\n")))) (entry_complete e (entries es (codes "end\n")) lines.0 (small_by e a stand.0))
    ∙ ap (λ o. o >>= (λ more. answers_at more (entries es (codes "end\n")))) (added answers found e a stand.0 once)
    ∙ answers_complete es found (answers ++ a ∷ []) lines.1 stand.1 (subst (λ (t : List Answered). IsTable t) (sym regrouped) once)
    ∙ ap Some regrouped

-- ---- the steps of the code

-- one more answer
pub answers_on : (answers more : List Answered) (text rest : List ℕ) (e : Entry) → Some (e, rest) ≡ entry_at text → with_entry answers e ≡ Some more → answers_at answers text ≡ answers_at more rest
answers_on answers more text rest e found is =
    answers_step answers text ∙ ap (answers_after answers_at answers text) (sym found) ∙ ap (λ o. o >>= (λ more. answers_at more rest)) is

-- one that can't be added
pub answers_refused : (answers : List Answered) (text rest : List ℕ) (e : Entry) → Some (e, rest) ≡ entry_at text → with_entry answers e ≡ None → answers_at answers text ≡ None
answers_refused answers text rest e found is =
    answers_step answers text ∙ ap (answers_after answers_at answers text) (sym found) ∙ ap (λ o. o >>= (λ more. answers_at more rest)) is

-- no more
pub answers_end : (answers : List Answered) (text : List ℕ) → None ≡ entry_at text → answers_at answers text ≡ cond (bytes_eq text (codes "end\n")) (Some answers) None
answers_end answers text found = answers_step answers text ∙ ap (answers_after answers_at answers text) (sym found)

-- what a test says of a choice
pub taken : (b : Bool) (o : Option (List Answered)) (more : List Answered) → o ≡ cond b (Some more) None → b ≡ true → o ≡ Some more
taken b o more e h = e ∙ cond-true b (Some more) None h

pub not_taken : (b : Bool) (o : Option (List Answered)) (more : List Answered) → o ≡ cond b (Some more) None → b ≡ false → o ≡ None
not_taken b o more e h = e ∙ cond-false b (Some more) None h

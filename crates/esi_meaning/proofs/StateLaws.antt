-- What a page waits for is asked and isn't logged; of a page that is done, all that is asked is logged.
use Rattle.std.proofs.Common.{◌≡◌, ℕ, Bool, true, false, cond, List, [], ◌∷◌, find, Option, Some, None, is_none, refl, sym, ◌∙◌, ap, subst, arith}
use Rattle.std.specs.List.{AllByRecursion, Contains}
use Rattle.std.proofs.lemmas.List.Elements.{Contains-append_right}
use Rattle.edge_types.specs.Answered.{Answered}
use Rattle.edge_types.specs.Outcome.{Shown}
use Rattle.edge_types.specs.Table.{answer_of}
use Rattle.esi_meaning.specs.Laws.{WaitsForAsked, DoneIsOutcome, IsLogged}
use Rattle.esi_meaning.specs.Meaning.{outcome, asked}
use Rattle.esi_meaning.specs.State.{Waiting, Done, is_missing, state_from}
use Rattle.esi_meaning.proofs.StateLemmas.{logged_answers_suffice}

-- a URL is among these, and isn't logged
abbrev IsMissed : List Answered → List (List ℕ) → List ℕ → Type 0
IsMissed log ws w = Contains ws w × (is_missing log w ≡ true)

missed_step : (log : List Answered) (v : List ℕ) (ws : List (List ℕ)) (w : List ℕ) → (find (is_missing log) ws ≡ Some w → IsMissed log ws w)
    → (b : Bool) → is_missing log v ≡ b → cond b (Some v) (find (is_missing log) ws) ≡ Some w → IsMissed log (v ∷ ws) w
missed_step log v ws w later true is e =
    let same : v ≡ w = cc in
    ((0, omega arith, same), subst (λ (x : List ℕ). is_missing log x ≡ true) same is)
missed_step log v ws w later false is e = let there = later e in (Contains-append_right (v ∷ []) ws w there.0, there.1)

missed : (log : List Answered) (ws : List (List ℕ)) (w : List ℕ) → find (is_missing log) ws ≡ Some w → IsMissed log ws w
missed log [] w e = absurd (cc)
missed log (v ∷ ws) w e = missed_step log v ws w (missed log ws w) (is_missing log v) refl e

logged_step : (log : List Answered) (v : List ℕ) (ws : List (List ℕ)) → (find (is_missing log) ws ≡ None → AllByRecursion (IsLogged log) ws)
    → (b : Bool) → is_missing log v ≡ b → cond b (Some v) (find (is_missing log) ws) ≡ None → IsLogged log v × AllByRecursion (IsLogged log) ws
logged_step log v ws later true is e = absurd (cc)
logged_step log v ws later false is e = (is, later e)

all_logged : (log : List Answered) (ws : List (List ℕ)) → find (is_missing log) ws ≡ None → AllByRecursion (IsLogged log) ws
all_logged log [] e = tt
all_logged log (v ∷ ws) e = logged_step log v ws (all_logged log ws) (is_missing log v) refl e

none_if : (found : Option Answered) → is_none found ≡ true → found ≡ None
none_if None e = refl
none_if (Some answer) e = absurd (cc)

pub waits_for : (found : Option (List ℕ)) (result : Shown) (w : List ℕ) → state_from found result ≡ Waiting w → found ≡ Some w
waits_for None result w e = absurd (cc)
waits_for (Some v) result w e = let same : v ≡ w = cc in ap Some same

is_done : (found : Option (List ℕ)) (result done : Shown) → state_from found result ≡ Done done → (found ≡ None) × (result ≡ done)
is_done None result done e = let same : result ≡ done = cc in (refl, same)
is_done (Some v) result done e = absurd (cc)

pub waits_for_asked : WaitsForAsked
waits_for_asked r log T L u w once t e =
    let over = sym (logged_answers_suffice r log T L u once t) ∙ e in
    let there = missed log (asked r T L u) w (waits_for (find (is_missing log) (asked r T L u)) (outcome r T L u) w over) in
    (there.0, none_if (answer_of log w) there.1)

pub done_is_outcome : DoneIsOutcome
done_is_outcome r log T L u done once t e =
    let over = sym (logged_answers_suffice r log T L u once t) ∙ e in
    let is = is_done (find (is_missing log) (asked r T L u)) (outcome r T L u) done over in
    (is.1, all_logged log (asked r T L u) is.0)

-- A page stays the same one, whatever its events.
use Rattle.std.proofs.Common.{◌≡◌, ℕ, List, [], ◌∷◌, slice_get, Option, Some, None, Result, Ok, IfOk, refl, sym, ◌∙◌, subst}
use Rattle.edge_types.specs.declared.request.Request.{Request}
use Rattle.edge_types.specs.Answered.{Answered}
use Rattle.edge_types.specs.Outcome.{Shown}
use Rattle.esi_meaning.specs.Meaning.{outcome}
use Rattle.esi_meaning.specs.State.{state}
use Rattle.answer_board.specs.Board.{Ticket, log_of}
use Rattle.plan_machine.specs.Headline.{IsTrueOver}
use Rattle.plan_runner.specs.declared.events.Event.{Event}
use Rattle.plan_runner.specs.declared.events.Event.TheVariants as event
use Rattle.plan_runner.specs.declared.page.State as told
use Rattle.plan_runner.specs.Calls.{told_state}
use Rattle.plan_runner.specs.Events.{Held, IsPost, Happens, Happen, Ran, receipt_of, empty_handed}
use Rattle.plan_runner.specs.Holding.{IsAtEnd, IsSameBut}
use Rattle.plan_runner.specs.Page.{Page, accepted}
use Rattle.plan_runner.proofs.Holding.{is_posted}

same_on : (a b c : Page) → IsSameBut a b → IsSameBut b c → IsSameBut a c
same_on a b c x y = record { url = y.url ∙ x.url; request = y.request ∙ x.request; levels = y.levels ∙ x.levels }

post_same : (table : List Answered) (place : ℕ) (old new : Held) (o : Option Ticket) → IsPost table place o old new → IsSameBut old.page new.page
post_same table place old new None h = subst (λ (x : Held). IsSameBut old.page x.page) (sym h) (record { url = refl; request = refl; levels = refl })
post_same table place old new (Some t) h =
    let posted = is_posted table old.page.standing old.page (receipt_of table t) h.0.fills.0.depth h.0.filled new.page h.0.posted in
    record { url = posted.url; request = posted.request; levels = posted.levels }

happens_same : (table : List Answered) (event : Event) (old new : Held) → Happens table event old new → IsSameBut old.page new.page
happens_same table event.Claim old new h = subst (λ (p : Page). IsSameBut old.page p) (sym h.rest) (record { url = refl; request = refl; levels = refl })
happens_same table (event.Post place) old new h = post_same table place old new (slice_get old.tickets place) h
happens_same table event.Advance old new h = record { url = h.advances.url; request = h.advances.request; levels = h.advances.levels }

pub happen_same : (table : List Answered) (events : List Event) (old new : Held) → Happen table events old new → IsSameBut old.page new.page
happen_same table [] old new h = subst (λ (x : Held). IsSameBut old.page x.page) (sym h) (record { url = refl; request = refl; levels = refl })
happen_same table (e ∷ events) old new h = same_on old.page h.0.page new.page (happens_same table e old h.0 h.1) (happen_same table events h.0 new h.2)

ran_same : (table : List Answered) (events : List Event) (u : List ℕ) (r : Request) (ahead L : ℕ) (start new : Held) → start ≡ empty_handed (accepted u r ahead L) → Happen table events start new → IsSameBut (accepted u r ahead L) new.page
ran_same table events u r ahead L start new is h = subst (λ (x : Held). IsSameBut x.page new.page) is (happen_same table events start new h)

pub told_after : {E : Type 0} (table : List Answered) (events : List Event) (u : List ℕ) (r : Request) (ahead L : ℕ) (start : Held) (t : Result told.State E) (s : told.State) (end result : Page)
    → start ≡ empty_handed (accepted u r ahead L) → t ≡ Ok s → IfOk t (λ (s : told.State). Ran table events start s end) → result ≡ end → told_state s ≡ state r (log_of result.board) L u
told_after {E = E} table events u r ahead L start t s end result is found h ends =
    let ran = subst (λ (x : Result told.State E). IfOk x (λ (s : told.State). Ran table events start s end)) found h in
    let same = ran_same table events u r ahead L start ran.before is ran.happened in
    ran.last.is_state ∙ rw (ends, ran.last.log, same.request, same.levels, same.url) refl

pub over_after : {E : Type 0} (table : List Answered) (events : List Event) (u : List ℕ) (r : Request) (ahead L : ℕ) (start : Held) (t : Result told.State E) (s : told.State) (end result : Page)
    → start ≡ empty_handed (accepted u r ahead L) → t ≡ Ok s → IfOk t (λ (s : told.State). Ran table events start s end) → result ≡ end
    → IfOk t (λ (s : told.State). IsTrueOver (log_of end.board) table end.request end.levels end.url (told_state s)) → IsTrueOver (log_of result.board) table r L u (told_state s)
over_after {E = E} table events u r ahead L start t s end result is found h ends over =
    let ran = subst (λ (x : Result told.State E). IfOk x (λ (s : told.State). Ran table events start s end)) found h in
    let true_over = subst (λ (x : Result told.State E). IfOk x (λ (s : told.State). IsTrueOver (log_of end.board) table end.request end.levels end.url (told_state s))) found over in
    let same = ran_same table events u r ahead L start ran.before is ran.happened in
    let request : end.request ≡ r = ran.last.request ∙ same.request in
    let levels : end.levels ≡ L = ran.last.levels ∙ same.levels in
    let url : end.url ≡ u = ran.last.url ∙ same.url in
    rw (ends, ← request, ← levels, ← url) true_over

pub outcome_after : (table : List Answered) (start p : Page) (o : Shown) → IsSameBut start p → o ≡ outcome p.request table p.levels p.url → o ≡ outcome start.request table start.levels start.url
outcome_after table start p o same is = is ∙ rw (same.request, same.levels, same.url) refl

pub at_end_after : (table : List Answered) (start before after : Page) (o : Shown) → IsSameBut start before → IsAtEnd table before after o → IsAtEnd table start after o
at_end_after table start before after o same end = record { same = same_on start before after same end.same; standing = end.standing; agrees = end.agrees }

-- What a page waits for rests on the log alone.
use Rattle.std.proofs.Common.{◌≡◌, ◌≢◌, slice_index_or, ℕ, zero, suc, ◌<◌, ◌≤◌, Bool, true, false, cond, List, [], ◌∷◌, length, take, find, bytes_eq, Option, Some, None, is_none, Result, Ok, Err, refl, sym, ◌∙◌, ap, subst, arith, if◌then◌else◌}
use Rattle.std.proofs.lemmas.List.Elements.{recursion_from_All}
use Rattle.std.proofs.lemmas.Slice.Eq.{bytes_eq-Decides}
use Rattle.std.specs.List.{AllByRecursion}
use Rattle.edge_types.specs.declared.head.Head.{Head}
use Rattle.edge_types.specs.declared.request.Request.{Request}
use Rattle.edge_types.specs.declared.answer.Reply.{Reply}
use Rattle.edge_types.specs.declared.answer.Reply.TheVariants.{Failed, Got}
use Rattle.edge_types.specs.Answered.{Answered, processed}
use Rattle.edge_types.specs.Outcome.{Shown, Page}
use Rattle.edge_types.specs.Table.{is_of, answer_of, reply_in, reply_of, IsTable, Agrees}
use Rattle.esi_tree.specs.Reading.{tree_of}
use Rattle.esi_tree.specs.Tree.{Elements}
use Rattle.esi_meaning.specs.Laws.{SameReply, StateRestsOnLog, LoggedAnswersSuffice}
use Rattle.esi_meaning.specs.Meaning.{page_run, urls, most_legs, run_outcome, tree_legs, reply_legs, tree_outcome, reply_outcome, outcome, asked}
use Rattle.esi_meaning.specs.Run.{Leg, Asks, AsksNobody, Run}
use Rattle.esi_meaning.specs.State.{State, is_missing, state_from, state_over, state}
use Rattle.esi_meaning.proofs.NearRuns.{Alike, Near}
use Rattle.esi_meaning.proofs.NearMeanings.{near-page}
use Rattle.esi_meaning.proofs.OutcomeLemmas.{settled}

-- the table gives this answer's URL its reply
abbrev Gives : List Answered → Answered → Type 0
Gives T answer = reply_of T answer.url ≡ answer.reply

-- what a log has of a URL is what each table that agrees with it gives
logged_step : (T : List Answered) (x : Answered) (log : List Answered) (w : List ℕ) (answer : Answered) → Gives T x → (find (is_of w) log ≡ Some answer → reply_of T w ≡ answer.reply)
    → (b : Bool) → is_of w x ≡ b → cond b (Some x) (find (is_of w) log) ≡ Some answer → reply_of T w ≡ answer.reply
logged_step T x log w answer given later true is here =
    let url : x.url ≡ w = (bytes_eq-Decides x.url w).0 is in
    let same : x ≡ answer = cc in
    ap (reply_of T) (sym url) ∙ given ∙ ap (λ (a : Answered). a.reply) same
logged_step T x log w answer given later false is here = later here

logged_reply : (T log : List Answered) (w : List ℕ) (answer : Answered) → AllByRecursion (Gives T) log → find (is_of w) log ≡ Some answer → reply_of T w ≡ answer.reply
logged_reply T [] w answer all e = absurd (cc)
logged_reply T (x ∷ log) w answer all e = logged_step T x log w answer all.0 (logged_reply T log w answer all.1) (is_of w x) refl e

logged_answer : (log S T : List Answered) → Agrees log S → Agrees log T → (w : List ℕ) (found : Option Answered) → answer_of log w ≡ found → is_none found ≡ false → SameReply S T w
logged_answer log S T s t w None is e = absurd (cc)
logged_answer log S T s t w (Some answer) is e =
    logged_reply S log w answer (recursion_from_All (Gives S) log s) is ∙ sym (logged_reply T log w answer (recursion_from_All (Gives T) log t) is)

-- to a URL that isn't missing the tables reply alike
logged_same : (log S T : List Answered) → Agrees log S → Agrees log T → (w : List ℕ) → is_missing log w ≡ false → SameReply S T w
logged_same log S T s t w e = logged_answer log S T s t w (answer_of log w) refl e

-- where nothing is missing, the tables reply alike
all_step : (log S T : List Answered) → Agrees log S → Agrees log T → (w : List ℕ) (ws : List (List ℕ)) → (find (is_missing log) ws ≡ None → AllByRecursion (SameReply S T) ws)
    → (b : Bool) → is_missing log w ≡ b → cond b (Some w) (find (is_missing log) ws) ≡ None → SameReply S T w × AllByRecursion (SameReply S T) ws
all_step log S T s t w ws later true is e = absurd (cc)
all_step log S T s t w ws later false is e = (logged_same log S T s t w is, later e)

all_same : (log S T : List Answered) → Agrees log S → Agrees log T → (ws : List (List ℕ)) → find (is_missing log) ws ≡ None → AllByRecursion (SameReply S T) ws
all_same log S T s t [] e = tt
all_same log S T s t (w ∷ ws) e = all_step log S T s t w ws (all_same log S T s t ws) (is_missing log w) refl e

-- the first of these legs that is missing, the tables replying alike to the k legs before it
record Missing (log S T : List Answered) (m : ℕ) (legs : List Leg) (w : List ℕ) : Type 0 where
  k : ℕ
  below : k < m
  alike : Alike S T k legs
  here : find (is_missing log) (urls (take (suc k) legs)) ≡ Some w

missing_later : (log S T : List Answered) (m : ℕ) (l : Leg) (legs : List Leg) (w : List ℕ) → Missing log S T m legs w
    → ((k : ℕ) → Alike S T k legs → Alike S T (suc k) (l ∷ legs))
    → ((k : ℕ) → find (is_missing log) (urls (take (suc k) legs)) ≡ Some w → find (is_missing log) (urls (take (suc (suc k)) (l ∷ legs))) ≡ Some w)
    → Missing log S T (suc m) (l ∷ legs) w
missing_later log S T m l legs w rest alike here = record { k = suc rest.k; below = omega (arith, rest.below); alike = alike rest.k rest.alike; here = here rest.k rest.here }

missing_step : (log S T : List Answered) → Agrees log S → Agrees log T → (m n : ℕ) (v : List ℕ) (legs : List Leg) (w : List ℕ)
    → (find (is_missing log) (urls (take m legs)) ≡ Some w → Missing log S T m legs w)
    → (b : Bool) → is_missing log v ≡ b → cond b (Some v) (find (is_missing log) (urls (take m legs))) ≡ Some w → Missing log S T (suc m) (Asks n v ∷ legs) w
unfolding Alike
missing_step log S T s t m n v legs w later true is e = record { k = 0; below = omega arith; alike = tt; here = rw is e }
missing_step log S T s t m n v legs w later false is e =
    missing_later log S T m (Asks n v) legs w (later e) (λ k h. (logged_same log S T s t v is, h)) (λ k h. rw is h)

first_missing : (log S T : List Answered) → Agrees log S → Agrees log T → (m : ℕ) (legs : List Leg) (w : List ℕ) → find (is_missing log) (urls (take m legs)) ≡ Some w → Missing log S T m legs w
unfolding Alike
first_missing log S T s t zero legs w e = absurd (cc)
first_missing log S T s t (suc m) [] w e = absurd (cc)
first_missing log S T s t (suc m) (AsksNobody ∷ legs) w e = missing_later log S T m AsksNobody legs w (first_missing log S T s t m legs w e) (λ k h. (tt, h)) (λ k h. h)
first_missing log S T s t (suc m) (Asks n v ∷ legs) w e = missing_step log S T s t m n v legs w (first_missing log S T s t m legs w) (is_missing log v) refl e

-- what is found among fewer legs is found among more
found_step : (p : List ℕ → Bool) (v w : List ℕ) (some more : List (List ℕ)) → (find p some ≡ Some w → find p more ≡ Some w) → (b : Bool)
    → cond b (Some v) (find p some) ≡ Some w → cond b (Some v) (find p more) ≡ Some w
found_step p v w some more later true e = e
found_step p v w some more later false e = later e

found_among_more : (p : List ℕ → Bool) (k m : ℕ) (legs : List Leg) (w : List ℕ) → k ≤ m → find p (urls (take k legs)) ≡ Some w → find p (urls (take m legs)) ≡ Some w
found_among_more p zero m legs w h e = absurd (cc)
found_among_more p (suc k) zero legs w h e = absurd (omega arith)
found_among_more p (suc k) (suc m) [] w h e = e
found_among_more p (suc k) (suc m) (AsksNobody ∷ legs) w h e = found_among_more p k m legs w (omega arith) e
found_among_more p (suc k) (suc m) (Asks n v ∷ legs) w h e =
    found_step p v w (urls (take k legs)) (urls (take m legs)) (found_among_more p k m legs w (omega arith)) (p v) e

-- the state of a page whose legs are these
abbrev state_of : List Answered → ℕ → List Leg → Shown → State
state_of log m legs outcome = state_from (find (is_missing log) (urls (take m legs))) outcome

module _ (log S T : List Answered) (s : Agrees log S) (t : Agrees log T) (m : ℕ) (head : Head) (a b : Run) (n : Near S T a b) where
  same_if_found : (found : Option (List ℕ)) → find (is_missing log) (urls (take m a.legs)) ≡ found
      → state_of log m a.legs (run_outcome m head a) ≡ state_of log m b.legs (run_outcome m head b)
  same_if_found None is =
      let both = settled S T m head a b n (all_same log S T s t (urls (take m a.legs)) is) in
      ap (λ (ws : List (List ℕ)). state_from (find (is_missing log) ws) (run_outcome m head a)) both.0
      ∙ ap (λ (o : Shown). state_from (find (is_missing log) (urls (take m b.legs))) o) both.1
  same_if_found (Some w) is =
      let first = first_missing log S T s t m a.legs w is in
      let ahead = (n.at first.k first.alike).ahead in
      let there = subst (λ (legs : List Leg). find (is_missing log) (urls legs) ≡ Some w) ahead first.here in
      let more = found_among_more (is_missing log) (suc first.k) m b.legs w (omega (arith, first.below)) there in
      ap (λ (f : Option (List ℕ)). state_from f (run_outcome m head a)) is
      ∙ sym (ap (λ (f : Option (List ℕ)). state_from f (run_outcome m head b)) more)

  same_state_run : state_of log m a.legs (run_outcome m head a) ≡ state_of log m b.legs (run_outcome m head b)
  same_state_run = same_if_found (find (is_missing log) (urls (take m a.legs))) refl

module _ (r : Request) (log S T : List Answered) (s : Agrees log S) (t : Agrees log T) (L : ℕ) (u : List ℕ) where
  same_state_tree : (head : Head) (read : Result Elements ℕ)
      → state_of log most_legs (tree_legs r S L u read) (tree_outcome r S L u head read) ≡ state_of log most_legs (tree_legs r T L u read) (tree_outcome r T L u head read)
  same_state_tree head (Ok tree) =
      same_state_run log S T s t most_legs head (page_run r S L u tree) (page_run r T L u tree) (near-page S T r L u tree)
  same_state_tree head (Err place) = refl

  same_state_if : (b : Bool) (head : Head) (body : List ℕ)
      → state_of log most_legs (if b then tree_legs r S L u (tree_of body) else []) (if b then tree_outcome r S L u head (tree_of body) else Page head body)
      ≡ state_of log most_legs (if b then tree_legs r T L u (tree_of body) else []) (if b then tree_outcome r T L u head (tree_of body) else Page head body)
  same_state_if true head body = same_state_tree head (tree_of body)
  same_state_if false head body = refl

  same_state_reply : (reply : Reply)
      → state_of log most_legs (reply_legs r S L u reply) (reply_outcome r S L u reply) ≡ state_of log most_legs (reply_legs r T L u reply) (reply_outcome r T L u reply)
  same_state_reply Failed = refl
  same_state_reply (Got head control body) = same_state_if (processed (Got head control body)) head body

  same_state_page : (b : Bool) → is_missing log u ≡ b → state_over r log S L u ≡ state_over r log T L u
  unfolding asked outcome
  same_state_page true is = rw is refl
  same_state_page false is =
      let same : reply_of S u ≡ reply_of T u = logged_same log S T s t u is in
      rw (is, ← same) (same_state_reply (reply_of S u))

pub state_rests_on_log : StateRestsOnLog
state_rests_on_log r log S T L u s t = same_state_page r log S T s t L u (is_missing log u) refl

pub false_if_not : (b : Bool) → (b ≡ true → ⊥) → b ≡ false
false_if_not true h = absurd (h refl)
false_if_not false h = refl

-- no answer of a table stands before the first of its URL
found_itself : (log : List Answered) → IsTable log → (k : ℕ) (d : Answered) → k < length log → find (is_of (slice_index_or log k d).url) log ≡ Some (slice_index_or log k d)
found_itself [] once k d within = absurd (omega arith)
found_itself (x ∷ log) once zero d within = rw ((bytes_eq-Decides x.url x.url).1 refl) refl
found_itself (x ∷ log) once (suc k) d within =
    let later : List ℕ = (slice_index_or log k d).url in
    let other : x.url ≢ later = once 0 (suc k) d (omega arith) within in
    let differs : bytes_eq x.url later ≡ false = false_if_not (bytes_eq x.url later) (λ e. other ((bytes_eq-Decides x.url later).0 e)) in
    rw differs (found_itself log (λ i j e before inside. once (suc i) (suc j) e (omega arith) (omega arith)) k d (omega arith))

-- a table agrees with itself
pub agrees_itself : (log : List Answered) → IsTable log → Agrees log log
agrees_itself log once k d within = ap reply_in (found_itself log once k d within)

pub logged_answers_suffice : LoggedAnswersSuffice
unfolding state
logged_answers_suffice r log T L u once t = state_rests_on_log r log log T L u (agrees_itself log once) t

-- The laws of templates and of their reading.
use Rattle.std.proofs.Common.{◌≡◌, ◌⊎◌, inl, inr, ℕ, false, List, [], ◌∷◌, ◌++◌, length, Option, Some, None, Result, Ok, Err, unwrap_or, refl, sym, ◌∙◌, ap, subst, arith, append-nil}
use Rattle.std.proofs.lemmas.List.{map-append}
use Rattle.std.proofs.lemmas.Option.{option_and_then_some}
use Rattle.esi_scanner.specs.declared.token.Token.{Token}
use Rattle.esi_scanner.specs.Bytes.{◌>>=◌}
use Rattle.esi_scanner.specs.Scan.{scan_of}
use Rattle.esi_scanner.specs.Spelling.{IsFaultAt}
use Rattle.esi_scanner.proofs.Theorems.{scan_of-spells, scan_of-faults}
use Rattle.esi_tree.specs.Tree.{Element, Elements}
use Rattle.esi_tree.specs.Shown.{row}
use Rattle.esi_tree.specs.Items.{Item, item_of, items_of}
use Rattle.esi_tree.specs.Template.{struck, IsRun, IsTemplate, Begins}
use Rattle.esi_tree.specs.Reading.{Frame, State, start, after, ended, then_read, read_from, tree_of_tokens, of_tokens, tree_of}
use Rattle.esi_tree.specs.Laws.{OneTree, IsFirstBad, EndsEarly, IsText, IsNoTemplate, TextsAreOne}
use Rattle.esi_tree.proofs.Runs.{run, steps, run-append, struck-append}
use Rattle.esi_tree.proofs.Depths.{steps-from_run, run-from_steps, shallow-from_steps}
use Rattle.esi_tree.proofs.Fillings.{listed, row-listed}
use Rattle.esi_tree.proofs.Complete.{template-run}
use Rattle.esi_tree.proofs.Sound.{reads-run}
use Rattle.esi_tree.proofs.Closings.{closing}

-- all items are read, and no element is open
pub record IsWhole (items : List Item) (state : State) (t : Elements) : Type 0 where
  pub content : List Element
  pub read : steps items state ≡ Some (record { frames = []; content = content })
  pub tree_is : row content ≡ t

-- no template goes on with a token, or elements are open at the end
pub data Stops (text : List ℕ) (tokens : List Token) (state : State) (at : ℕ) : Type 0 where
  AtToken : (front : List Token) (token : Token) (back : List Token) (before : State) → tokens ≡ front ++ token ∷ back → at ≡ token.span.start → steps (items_of text front) state ≡ Some before → after (item_of text token) before ≡ None → Stops text tokens state at
  AtEnd : (final : State) (frame : Frame) (outer : List Frame) → steps (items_of text tokens) state ≡ Some final → final.frames ≡ frame ∷ outer → at ≡ length text → Stops text tokens state at

ended-ok : (frames : List Frame) (content : List Element) (end : ℕ) (t : Elements) → ended frames content end ≡ Ok t → (frames ≡ []) × (row content ≡ t)
ended-ok [] content end t e = (refl, cc)
ended-ok (frame ∷ outer) content end t e = absurd (cc)

ended-err : (frames : List Frame) (content : List Element) (end at : ℕ) → ended frames content end ≡ Err at → (frame : Frame) × (outer : List Frame) × (frames ≡ frame ∷ outer) × (at ≡ end)
ended-err [] content end at e = absurd (cc)
ended-err (frame ∷ outer) content end at e = (frame, outer, refl, cc)

step-on : (text : List ℕ) (token : Token) (tokens : List Token) (state next : State) → after (item_of text token) state ≡ Some next → steps (items_of text (token ∷ tokens)) state ≡ steps (items_of text tokens) next
step-on text token tokens state next e = ap (λ o. o >>= λ s. steps (items_of text tokens) s) e

whole-on : (text : List ℕ) (token : Token) (tokens : List Token) (state next : State) (t : Elements) → after (item_of text token) state ≡ Some next → IsWhole (items_of text tokens) next t → IsWhole (items_of text (token ∷ tokens)) state t
whole-on text token tokens state next t e rest = record { content = rest.content; read = step-on text token tokens state next e ∙ rest.read; tree_is = rest.tree_is }

pub read-ok : (text : List ℕ) (tokens : List Token) (state : State) (t : Elements) → read_from text tokens state ≡ Ok t → IsWhole (items_of text tokens) state t
unfolding read_from
read-ok text [] state t e =
    let parts = ended-ok state.frames state.content (length text) t e in
    record { content = state.content; read = ap (λ frames. Some (record { frames = frames; content = state.content })) parts.0; tree_is = parts.1 }
read-ok text (token ∷ tokens) state t e = by_next (λ s h. read-ok text tokens s t h) (after (item_of text token) state) refl e
  where
    by_next : ((s : State) → read_from text tokens s ≡ Ok t → IsWhole (items_of text tokens) s t) → (next : Option State) → after (item_of text token) state ≡ next → then_read (λ s. read_from text tokens s) token.span.start next ≡ Ok t → IsWhole (items_of text (token ∷ tokens)) state t
    by_next rest None is e' = absurd (cc)
    by_next rest (Some next) is e' = whole-on text token tokens state next t is (rest next e')

stops-on : (text : List ℕ) (token : Token) (tokens : List Token) (state next : State) (at : ℕ) → after (item_of text token) state ≡ Some next → Stops text tokens next at → Stops text (token ∷ tokens) state at
stops-on text token tokens state next at e (AtToken front bad back before joined place read none) =
    AtToken (token ∷ front) bad back before (ap (λ ts. token ∷ ts) joined) place (step-on text token front state next e ∙ read) none
stops-on text token tokens state next at e (AtEnd final frame outer read is place) =
    AtEnd final frame outer (step-on text token tokens state next e ∙ read) is place

pub read-err : (text : List ℕ) (tokens : List Token) (state : State) (at : ℕ) → read_from text tokens state ≡ Err at → Stops text tokens state at
unfolding read_from
read-err text [] state at e =
    let (frame, outer, is, place) = ended-err state.frames state.content (length text) at e in
    AtEnd state frame outer refl is place
read-err text (token ∷ tokens) state at e = by_next (λ s h. read-err text tokens s at h) (after (item_of text token) state) refl e
  where
    by_next : ((s : State) → read_from text tokens s ≡ Err at → Stops text tokens s at) → (next : Option State) → after (item_of text token) state ≡ next → then_read (λ s. read_from text tokens s) token.span.start next ≡ Err at → Stops text (token ∷ tokens) state at
    by_next rest None is e' = AtToken [] token tokens state refl (cc) refl is
    by_next rest (Some next) is e' = stops-on text token tokens state next at is (rest next e')

-- the tokens that a template goes on with are read up to those behind them
read-on : (text : List ℕ) (front back : List Token) (state final : State) → steps (items_of text front) state ≡ Some final → read_from text (front ++ back) state ≡ read_from text back final
unfolding read_from
read-on text [] back state final e =
    let same : state ≡ final = ap (λ o. unwrap_or o final) e in
    ap (read_from text back) same
read-on text (token ∷ front) back state final e =
    option_and_then_some (λ s. steps (items_of text front) s) (after (item_of text token) state) final e (λ next first rest.
    ap (then_read (λ s. read_from text (front ++ back) s) token.span.start) first ∙ read-on text front back next final rest)

-- where it goes on with all of them, it ends as it stands then
read-to-end : (text : List ℕ) (tokens : List Token) (state final : State) → steps (items_of text tokens) state ≡ Some final → read_from text tokens state ≡ ended final.frames final.content (length text)
unfolding read_from
read-to-end text tokens state final e = ap (λ (ts : List Token). read_from text ts state) (sym (append-nil tokens)) ∙ read-on text tokens [] state final e

-- and where it doesn't go on with a token, its place is told
read-stuck : (text : List ℕ) (token : Token) (back : List Token) (state : State) → after (item_of text token) state ≡ None → read_from text (token ∷ back) state ≡ Err token.span.start
unfolding read_from
read-stuck text token back state none = ap (then_read (λ s. read_from text back s) token.span.start) none

-- what is read is the template
pub template-from_read : (text : List ℕ) (tokens : List Token) (t : Elements) → tree_of_tokens text tokens ≡ Ok t → IsTemplate t (items_of text tokens)
unfolding tree_of_tokens
template-from_read text tokens t e =
    let items = items_of text tokens in
    let whole = read-ok text tokens start t e in
    let final : State = record { frames = []; content = whole.content } in
    let P : Elements → Type 0 = λ u. IsRun false u (struck items) in
    record {
      shape = subst P whole.tree_is (reads-run items start final [] (run-from_steps items start final whole.read) refl);
      shallow = shallow-from_steps items start final whole.read (omega arith);
    }

-- the template is read
pub read-from_template : (text : List ℕ) (tokens : List Token) (t : Elements) → IsTemplate t (items_of text tokens) → tree_of_tokens text tokens ≡ Ok t
unfolding tree_of_tokens
read-from_template text tokens t is =
    let items = items_of text tokens in
    let final : State = record { frames = []; content = listed t } in
    read-to-end text tokens start final (steps-from_run items start final (template-run t items is.shape) is.shallow) ∙ ap Ok (row-listed t)

-- what has been read begins a template
begins-from_steps : (items : List Item) (final : State) → steps items start ≡ Some final → Begins items
begins-from_steps items final e =
    let read = reads-run items start final [] (run-from_steps items start final e) refl in
    let rest = closing final.frames final.content (struck items) read in
    let P : List Item → Type 0 = λ us. IsRun false rest.t us in
    let same : struck items ++ rest.more ≡ struck (items ++ rest.more) = sym (struck-append items rest.more ∙ ap (λ us. struck items ++ us) rest.plain) in
    record { more = rest.more; t = rest.t; shape = subst P same rest.shape; shallow = shallow-from_steps items start final e (omega arith) }

-- what begins a template is read
steps-from_begins : (items : List Item) → Begins items → (final : State) × (steps items start ≡ Some final)
steps-from_begins items is =
    let whole = template-run is.t (items ++ is.more) is.shape in
    option_and_then_some (λ s. run is.more s) (run items start) (record { frames = []; content = listed is.t }) (sym (run-append items is.more start) ∙ whole) (λ final first rest.
    (final, steps-from_run items start final first is.shallow))

bind-steps : (o : Option State) (xs ys : List Item) → ((s : State) → steps (xs ++ ys) s ≡ (steps xs s >>= λ n. steps ys n)) → (o >>= λ s. steps (xs ++ ys) s) ≡ ((o >>= λ s. steps xs s) >>= λ n. steps ys n)
bind-steps None xs ys each = refl
bind-steps (Some s) xs ys each = each s

steps-append : (xs ys : List Item) (state : State) → steps (xs ++ ys) state ≡ (steps xs state >>= λ n. steps ys n)
steps-append [] ys state = refl
steps-append (x ∷ xs) ys state = bind-steps (after x state) xs ys (λ s. steps-append xs ys s)

-- a fault has its place
pub place-from_read : (text : List ℕ) (tokens : List Token) (at : ℕ) → tree_of_tokens text tokens ≡ Err at → IsFirstBad text tokens at ⊎ EndsEarly text tokens at
unfolding tree_of_tokens
place-from_read text tokens at e = by_stop (read-err text tokens start at e)
  where
    by_stop : Stops text tokens start at → IsFirstBad text tokens at ⊎ EndsEarly text tokens at
    by_stop (AtToken front token back before joined place read none) =
        let stuck : steps (items_of text (front ++ token ∷ [])) start ≡ None =
        ap (λ us. steps us start) (map-append (item_of text) front (token ∷ [])) ∙ steps-append (items_of text front) (item_of text token ∷ []) start
        ∙ ap (λ o. o >>= λ s. steps (item_of text token ∷ []) s) read ∙ ap (λ o. o >>= λ s. steps [] s) none in
        inl (record {
          front = front;
          token = token;
          back = back;
          joined = joined;
          place = place;
          begins = begins-from_steps (items_of text front) before read;
          ends = λ is. let (final, some) = steps-from_begins (items_of text (front ++ token ∷ [])) is in absurd (differ final (sym some ∙ stuck));
        })
      where
        differ : (final : State) → Some final ≡ None → ⊥
        differ final h = absurd (cc)
    by_stop (AtEnd final frame outer read is place) =
        inr (record {
          place = place;
          begins = begins-from_steps (items_of text tokens) final read;
          none = λ t whole. open_end t whole;
        })
      where
        open_end : (t : Elements) → IsTemplate t (items_of text tokens) → ⊥
        open_end t whole =
            let empty : State = record { frames = []; content = listed t } in
            let other = steps-from_run (items_of text tokens) start empty (template-run t (items_of text tokens) whole.shape) whole.shallow in
            let same : final ≡ empty = ap (λ o. unwrap_or o empty) (sym read ∙ other) in
            let clash : frame ∷ outer ≡ [] = sym is ∙ ap (λ (s : State). s.frames) same in
            absurd (cc)

-- no template goes on with a token behind which none begins
none-behind : (text : List ℕ) (front : List Token) (token : Token) (before : State) → steps (items_of text front) start ≡ Some before → ¬ Begins (items_of text (front ++ token ∷ [])) → after (item_of text token) before ≡ None
none-behind text front token before read ends = by_next (after (item_of text token) before) refl
  where
    by_next : (next : Option State) → after (item_of text token) before ≡ next → after (item_of text token) before ≡ None
    by_next None is = is
    by_next (Some next) is =
        let on : steps (items_of text (front ++ token ∷ [])) start ≡ Some next =
        ap (λ us. steps us start) (map-append (item_of text) front (token ∷ [])) ∙ steps-append (items_of text front) (item_of text token ∷ []) start
        ∙ ap (λ o. o >>= λ s. steps (item_of text token ∷ []) s) read ∙ ap (λ o. o >>= λ s. steps [] s) is in
        absurd (ends (begins-from_steps (items_of text (front ++ token ∷ [])) next on))

-- tokens that end early leave an element open
ended-early : (text : List ℕ) (tokens : List Token) (frames : List Frame) (content : List Element) → tree_of_tokens text tokens ≡ ended frames content (length text)
    → ((t : Elements) → ¬ IsTemplate t (items_of text tokens)) → ended frames content (length text) ≡ Err (length text)
ended-early text tokens [] content read none = absurd (none (row content) (template-from_read text tokens (row content) read))
ended-early text tokens (frame ∷ outer) content read none = refl

-- a place is told of a fault
pub read-from_place : (text : List ℕ) (tokens : List Token) (at : ℕ) → IsFirstBad text tokens at ⊎ EndsEarly text tokens at → tree_of_tokens text tokens ≡ Err at
unfolding tree_of_tokens
read-from_place text tokens at (inl bad) =
    let (before, read) = steps-from_begins (items_of text bad.front) bad.begins in
    ap (λ (ts : List Token). read_from text ts start) bad.joined ∙ read-on text bad.front (bad.token ∷ bad.back) start before read
    ∙ read-stuck text bad.token bad.back before (none-behind text bad.front bad.token before read bad.ends) ∙ ap Err (sym bad.place)
read-from_place text tokens at (inr early) =
    let (final, read) = steps-from_begins (items_of text tokens) early.begins in
    let whole = read-to-end text tokens start final read in
    whole ∙ ended-early text tokens final.frames final.content whole early.none ∙ ap Err (sym early.place)

-- what is read of a text is the template of its tokens
pub text-from_read : (text : List ℕ) (t : Elements) → tree_of text ≡ Ok t → IsText t text
unfolding tree_of
text-from_read text t e = by_scan (scan_of text) refl e
  where
    by_scan : (scanned : Result (List Token) ℕ) → scan_of text ≡ scanned → of_tokens text scanned ≡ Ok t → IsText t text
    by_scan (Ok tokens) is e' = record { tokens = tokens; spelled = (scan_of-spells text tokens).0 is; is = template-from_read text tokens t e' }
    by_scan (Err at) is e' = absurd (cc)

-- the template of its tokens is read of a text
pub read-from_text : (text : List ℕ) (t : Elements) → IsText t text → tree_of text ≡ Ok t
unfolding tree_of
read-from_text text t is = ap (of_tokens text) ((scan_of-spells text is.tokens).1 is.spelled) ∙ read-from_template text is.tokens t is.is

-- a fault of a text has its place
pub place-from_text : (text : List ℕ) (at : ℕ) → tree_of text ≡ Err at → IsFaultAt text at ⊎ IsNoTemplate text at
unfolding tree_of
place-from_text text at e = by_scan (scan_of text) refl e
  where
    by_scan : (scanned : Result (List Token) ℕ) → scan_of text ≡ scanned → of_tokens text scanned ≡ Err at → IsFaultAt text at ⊎ IsNoTemplate text at
    by_scan (Ok tokens) is e' = inr (record { tokens = tokens; spelled = (scan_of-spells text tokens).0 is; place = place-from_read text tokens at e' })
    by_scan (Err place) is e' = let same : place ≡ at = cc in inl ((scan_of-faults text at).0 (is ∙ ap Err same))

pub text-from_place : (text : List ℕ) (at : ℕ) → IsFaultAt text at ⊎ IsNoTemplate text at → tree_of text ≡ Err at
unfolding tree_of
text-from_place text at (inl fault) = ap (of_tokens text) ((scan_of-faults text at).1 fault)
text-from_place text at (inr none) = ap (of_tokens text) ((scan_of-spells text none.tokens).1 none.spelled) ∙ read-from_place text none.tokens at none.place

content_of : Option State → List Element
content_of None = []
content_of (Some state) = state.content

-- items are the template of one tree at most
pub one-tree : OneTree
unfolding content_of
one-tree t u items one other =
    sym (row-listed t) ∙ ap (λ o. row (content_of o)) (sym (template-run t items one.shape) ∙ template-run u items other.shape) ∙ row-listed u

-- and so is a text
pub one-tree_of_text : TextsAreOne
one-tree_of_text text t u one other =
    let same : Ok t ≡ Ok u = sym (read-from_text text t one) ∙ read-from_text text u other in
    cc

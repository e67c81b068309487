-- Each reason is true of the reading that stops there.
use Rattle.std.proofs.Common.{◌≡◌, ◌⊎◌, inl, inr, ℕ, Bool, true, false, List, [], ◌∷◌, ◌++◌, length, map, reverse, Some, None, Result, Ok, Err, refl, sym, ◌∙◌, ap, subst}
use Rattle.esi_scanner.specs.declared.token.Kind.{Kind}
use Rattle.esi_scanner.specs.declared.token.Kind.TheVariants as kinds
use Rattle.esi_scanner.specs.declared.token.Token.{Token}
use Rattle.esi_scanner.specs.Problems.{trouble_at}
use Rattle.esi_scanner.specs.Scan.{scan_of}
use Rattle.esi_scanner.specs.Spelling.{Spells}
use Rattle.esi_scanner.proofs.Theorems.{scan_of-spells}
use Rattle.esi_tree.specs.Items.{item_with, bytes_at, item_of}
use Rattle.esi_tree.specs.Reading.{Frame, State, start, is_run, after_text, after_remove, after, name_of, tree_of_tokens, of_tokens, tree_of}
use Rattle.esi_tree.proofs.Theorems.{Stops, AtToken, AtEnd, read-err}
use Rattle.template_check.specs.declared.elements.Opened.{Opened}
use Rattle.template_check.specs.declared.reason.Reason.TheVariants as why
use Rattle.template_check.specs.OpenElements.{innermost}
use Rattle.template_check.specs.Checking.{reason_in}
use Rattle.template_check.specs.Reasons.{by_kind, token_reason, reason_of}
use Rattle.template_check.specs.Refusals.{state_behind, open_behind, first, AreNamed, Says, StopsAt, EndsInside, IsMalformed, IsRefused, ReasonsAreTrue}
use Rattle.template_check.proofs.OpenLemmas.{innermost-is, first-is}
use Rattle.template_check.proofs.PlaceLemmas.{read-is, reason-at, reason-at_end, before-token, before-end}
use Rattle.template_check.proofs.ReadLemmas.{Known, known}
use Rattle.template_check.proofs.SayLemmas.{says-close}
use Rattle.template_check.proofs.TagLemmas.{says-open}

-- text stops a reading only where no run stands
no-run : (bytes : List ℕ) (state : State) → after_text bytes state ≡ None → is_run state.frames ≡ false
unfolding after_text
no-run bytes state stuck = by_place (is_run state.frames) refl
  where
    by_place : (b : Bool) → is_run state.frames ≡ b → is_run state.frames ≡ false
    by_place false e = e
    by_place true e = let goes = rw e at stuck in absurd (cc)

no-run_remove : (state : State) → after_remove state ≡ None → is_run state.frames ≡ false
unfolding after_remove
no-run_remove state stuck = by_place (is_run state.frames) refl
  where
    by_place : (b : Bool) → is_run state.frames ≡ b → is_run state.frames ≡ false
    by_place false e = e
    by_place true e = let goes = rw e at stuck in absurd (cc)

inner-is : (before : List Token) → innermost 0 before ≡ first (open_behind before)
inner-is before = innermost-is before 0 ∙ first-is (open_behind before)

-- of a token with which no template goes on
says-kind : (kind : Kind) (bytes : List ℕ) (token : Token) (before : List Token) (state : State) → token.kind ≡ kind → Known before state.frames → after (item_with bytes kind) state ≡ None
    → Says (by_kind kind token.span.start before) token state (open_behind before)
unfolding after
says-kind kinds.Text bytes token before state is known stuck = (inner-is before, no-run bytes state stuck)
says-kind (kinds.Open tag) bytes token before state is known stuck = says-open tag token before state is known stuck
says-kind (kinds.Close name) bytes token before state is known stuck = says-close name token before state is known stuck
says-kind kinds.Remove bytes token before state is known stuck = (inner-is before, no-run_remove state stuck)
says-kind kinds.BlockStart bytes token before state is known stuck = absurd (cc)
says-kind kinds.BlockEnd bytes token before state is known stuck = absurd (cc)

begun : (text : List ℕ) → state_behind text [] ≡ Some start
unfolding state_behind
begun text = refl

stops-at : (text : List ℕ) (tokens front : List Token) (token : Token) (back : List Token) (state : State) (place : ℕ) → Spells text tokens → tokens ≡ front ++ token ∷ back → place ≡ token.span.start
    → state_behind text (reverse front) ≡ Some state → after (item_of text token) state ≡ None → StopsAt text tokens place (reason_of tokens place)
stops-at text tokens front token back state place spelled joined here read stuck =
    let is = known text (reverse front) state read in
    let P : List Token → Type 0 = λ ts. Spells text ts in
    let same : reason_of tokens place ≡ token_reason token (reverse front) =
    ap (λ ts. reason_of ts place) joined ∙ ap (reason_of (front ++ token ∷ back)) here
    ∙ reason-at front token back token.span.start (before-token text front token back (subst P joined spelled)) in
    record {
      front = front;
      token = token;
      back = back;
      joined = joined;
      starts = here;
      state = state;
      read = read;
      stuck = stuck;
      named = is.names;
      says = subst (λ reason. Says reason token state (open_behind (reverse front))) (sym same) (says-kind token.kind (bytes_at text token.span) token (reverse front) state refl is stuck);
    }

ends-inside : (text : List ℕ) (tokens : List Token) (state : State) (frame : Frame) (outer : List Frame) (place : ℕ) → Spells text tokens → state_behind text (reverse tokens) ≡ Some state → state.frames ≡ frame ∷ outer
    → place ≡ length text → EndsInside text tokens place (reason_of tokens place)
ends-inside text tokens state frame outer place spelled read is end = by_open (open_behind (reverse tokens)) refl
  where
    names : AreNamed (open_behind (reverse tokens)) state
    names = (known text (reverse tokens) state read).names

    by_open : (elements : List Opened) → open_behind (reverse tokens) ≡ elements → EndsInside text tokens place (reason_of tokens place)
    by_open [] e =
        let clash : [] ≡ name_of frame ∷ map name_of outer = sym (ap (map (λ (opened : Opened). opened.name)) e) ∙ names ∙ ap (map name_of) is in
        absurd (cc)
    by_open (opened ∷ elements) e = record {
      ends = end;
      state = state;
      read = read;
      opened = opened;
      outer = elements;
      elements = e;
      named = sym (ap (map (λ (o : Opened). o.name)) e) ∙ names;
      says =
          ap (reason_of tokens) end ∙ reason-at_end tokens (length text) (before-end text tokens spelled)
          ∙ ap why.Ends (inner-is (reverse tokens) ∙ ap first e);
    }

pub reasons_are_true : ReasonsAreTrue
unfolding tree_of tree_of_tokens
reasons_are_true text place refused = by_scan (scan_of text) refl refused
  where
    by_scan : (scanned : Result (List Token) ℕ) → scan_of text ≡ scanned → of_tokens text scanned ≡ Err place → IsMalformed text place (reason_in text place scanned) ⊎ IsRefused text place (reason_in text place scanned)
    by_scan (Err at) is e =
        let same : at ≡ place = cc in
        inl (record { scanned = is ∙ ap Err same; says = ap (λ p. why.Malformed (trouble_at text p)) same })
    by_scan (Ok tokens) is e = inr (record { tokens = tokens; scanned = is; stops = by_stop (read-err text tokens start place e) })
      where
        spelled : Spells text tokens
        spelled = (scan_of-spells text tokens).0 is

        by_stop : Stops text tokens start place → StopsAt text tokens place (reason_of tokens place) ⊎ EndsInside text tokens place (reason_of tokens place)
        by_stop (AtToken front token back before joined here read none) =
            inl (stops-at text tokens front token back before place spelled joined here (read-is text front start before (begun text) read) none)
        by_stop (AtEnd final frame outer read frames end) =
            inr (ends-inside text tokens final frame outer place spelled (read-is text tokens start final (begun text) read) frames end)

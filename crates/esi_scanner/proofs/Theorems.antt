-- The tokens that are read from a text are those that spell it, and no others.
use Rattle.std.proofs.Common.{◌≡◌, ◌⊎◌, ◌↔◌, inl, inr, ℕ, zero, suc, ◌+◌, ◌-◌, ◌<◌, ◌≤◌, Bool, true, false, ◌||◌, is_some, List, [], ◌∷◌, ◌++◌, length, Option, Some, None, Result, Ok, Err, IfOk, IfErr, refl, sym, ◌∙◌, ap, subst, codes, arith}
use Rattle.std.proofs.lemmas.List.{length-append, append-nil}
use Rattle.std.specs.declared.vec.Vec.{Vec}
use Rattle.std.specs.declared.alloc.Global.{Global}
use Rattle.esi_scanner.specs.declared.fault.ScanFault.{ScanFault}
use Rattle.esi_scanner.specs.declared.fault.ScanFault.TheVariants.{Malformed, NoMemory}
use Rattle.esi_scanner.specs.declared.token.Kind.{Kind}
use Rattle.esi_scanner.specs.declared.token.Kind.TheVariants as kinds
use Rattle.esi_scanner.specs.declared.token.Token.{Token}
use Rattle.esi_scanner.specs.Bytes.{begins_with, bytes_before}
use Rattle.esi_scanner.specs.Scan.{begins_opener, begins_mark, token_at, token_of, block_after, with_first, tokens_at_end, then_tokens, tokens_at, scan_of, Gives}
use Rattle.esi_scanner.specs.Spelling.{IsSpelling, is_text, Apart, SpellsTo, Spells, IsBadOpener, IsFaultAt, TellsFault}
use Rattle.esi_scanner.proofs.ScanLemmas.{ahead, tokens-some, tokens-fault, tokens-end}
use Rattle.esi_scanner.proofs.Places.{before-fails}
use Rattle.esi_scanner.proofs.TokenSpelling.{StopsText, IsTokenAt, token-spelled, spelled-opener, spelled-some, token-found, token-none}

-- an opener or the end stands there
abbrev Stops : Option ℕ → List ℕ → Type 0
Stops block rest = bytes_before (begins_opener (is_some block)) rest ≡ 0

stops-opener : (block : Bool) (text : List ℕ) → begins_opener block text ≡ true → bytes_before (begins_opener block) text ≡ 0
stops-opener block [] is = refl
stops-opener block (b ∷ bs) is = rw is refl

same-block : (kind : Kind) (block : Option ℕ) (at : ℕ) → is_text kind ≡ true → block_after block at kind ≡ block
same-block kinds.Text block at is = refl
same-block (kinds.Open tag) block at is = absurd (cc)
same-block (kinds.Close name) block at is = absurd (cc)
same-block kinds.Remove block at is = absurd (cc)
same-block kinds.BlockStart block at is = absurd (cc)
same-block kinds.BlockEnd block at is = absurd (cc)

apart-next : (kind : Kind) (token : Token) (tokens : List Token) → is_text kind ≡ true → Apart kind (token ∷ tokens) → is_text token.kind ≡ false
apart-next kinds.Text token tokens is apart = apart
apart-next (kinds.Open tag) token tokens is apart = absurd (cc)
apart-next (kinds.Close name) token tokens is apart = absurd (cc)
apart-next kinds.Remove token tokens is apart = absurd (cc)
apart-next kinds.BlockStart token tokens is apart = absurd (cc)
apart-next kinds.BlockEnd token tokens is apart = absurd (cc)

-- behind a text of the list, another token begins, or the list ends where it stops
list-stops : (kind : Kind) (block unclosed : Option ℕ) (at next : ℕ) (tokens : List Token) (after rest : List ℕ) → Apart kind tokens → SpellsTo (block_after block at kind) next tokens after unclosed rest → Stops unclosed rest → StopsText (is_some block) kind after
list-stops kind block unclosed at next [] after rest apart (is, ends) stops is_t =
    let same : block ≡ unclosed = sym (same-block kind block at is_t) ∙ ends in
    rw (is, same) stops
list-stops kind block unclosed at next (token ∷ tokens) after rest apart (piece, behind, cut, span, spelled, apart_next, others) stops is_t =
    let same = same-block kind block at is_t in
    let inner : IsSpelling (is_some block) token.kind piece behind = subst (λ (b : Option ℕ). IsSpelling (is_some b) token.kind piece behind) same spelled in
    stops-opener (is_some block) after (ap (begins_opener (is_some block)) cut ∙ spelled-opener (is_some block) token.kind piece behind inner (apart-next kind token tokens is_t apart))

-- reading goes on behind the tokens that stand at the front
abbrev GoesOn : ℕ → Option ℕ → ℕ → List Token → List ℕ → Option ℕ → List ℕ → Type 0
GoesOn n block at tokens text unclosed rest =
    (m : ℕ) × (end : ℕ) × (length rest ≤ m) × (end + length rest ≡ at + length text) × (tokens_at n block at text ≡ ahead tokens (tokens_at m unclosed end rest))

ahead-none : (r : Result (List Token) ℕ) → r ≡ ahead [] r
ahead-none (Ok tokens) = refl
ahead-none (Err at) = refl

ahead-more : (t : Token) (tokens : List Token) (r : Result (List Token) ℕ) → with_first t (ahead tokens r) ≡ ahead (t ∷ tokens) r
ahead-more t tokens (Ok more) = refl
ahead-more t tokens (Err at) = refl

same-token : (t : Token) (start end : ℕ) → t.span ≡ record { start = start; end = end } → record { span = record { start = start; end = end }; kind = t.kind } ≡ t
same-token t start end is = rw (← is) refl

goes-on : (tokens : List Token) (n : ℕ) (block : Option ℕ) (at : ℕ) (text : List ℕ) (unclosed : Option ℕ) (rest : List ℕ) → length text ≤ n → SpellsTo block at tokens text unclosed rest → Stops unclosed rest → GoesOn n block at tokens text unclosed rest
goes-on [] n block at text unclosed rest fits (is, ends) stops =
    let len : length text ≡ length rest = ap length is in
    (n, at, omega (arith, len), omega (arith, len), ap (tokens_at n block at) is ∙ ap (λ b. tokens_at n b at rest) ends ∙ ahead-none (tokens_at n unclosed at rest))
goes-on (t ∷ tokens) zero block at text unclosed rest fits (piece, after, cut, span, spelled, apart, others) stops =
    absurd (omega (arith, ap length cut, length-append piece after, spelled-some (is_some block) t.kind piece after spelled))
goes-on (t ∷ tokens) (suc n) block at text unclosed rest fits (piece, after, cut, span, spelled, apart, others) stops =
    let some = spelled-some (is_some block) t.kind piece after spelled in
    let len : length text ≡ length piece + length after = ap length cut ∙ length-append piece after in
    let text_some : 0 < length text = omega (arith, len, some) in
    let stop = list-stops t.kind block unclosed at (at + length piece) tokens after rest apart others stops in
    let read : token_at (is_some block) text ≡ Some (t.kind, after) = ap (token_at (is_some block)) cut ∙ token-spelled (is_some block) t.kind piece after spelled stop in
    let place : at + (length text - length after) ≡ at + length piece = omega (arith, len) in
    let token : token_of at text (t.kind, after) ≡ t = ap (λ end. record { span = record { start = at; end = end }; kind = t.kind }) place ∙ same-token t at (at + length piece) span in
    let (m, end, later_fits, later_place, later) = goes-on tokens n (block_after block at t.kind) (at + length piece) after unclosed rest (omega (arith, len, some)) others stops in (
      m,
      end,
      later_fits,
      omega (arith, len, later_place),
      tokens-some n block at text (t.kind, after) text_some read
          ∙ ap (λ (x : Token). with_first x (tokens_at n (block_after block at t.kind) (at + (length text - length after)) after)) token
          ∙ ap (λ place. with_first t (tokens_at n (block_after block at t.kind) place after)) place
          ∙ ap (with_first t) later ∙ ahead-more t tokens (tokens_at m unclosed end rest),
    )

-- a text has no opener at its front
text-none : (block : Bool) (kind : Kind) (piece rest : List ℕ) → is_text kind ≡ true → IsSpelling block kind piece rest → begins_opener block (piece ++ rest) ≡ false
text-none block kinds.Text piece rest is (some, none) = none 0 some
text-none block (kinds.Open tag) piece rest is s = absurd (cc)
text-none block (kinds.Close name) piece rest is s = absurd (cc)
text-none block kinds.Remove piece rest is s = absurd (cc)
text-none block kinds.BlockStart piece rest is s = absurd (cc)
text-none block kinds.BlockEnd piece rest is s = absurd (cc)

or_first : (a b c : Bool) → a ≡ true → ((a || b) || c) ≡ true
or_first a b c e = rw e refl

or_second : (a b c : Bool) → b ≡ true → ((a || b) || c) ≡ true
or_second true b c e = refl
or_second false b c e = rw e refl

bad-opens : (block : Bool) (text : List ℕ) → (begins_with text (codes "<esi:") ≡ true) ⊎ (begins_with text (codes "</esi:") ≡ true) → begins_opener block text ≡ true
bad-opens block text (inl is) = or_first (begins_with text (codes "<esi:")) (begins_with text (codes "</esi:")) (begins_mark block text) is
bad-opens block text (inr is) = or_second (begins_with text (codes "<esi:")) (begins_with text (codes "</esi:")) (begins_mark block text) is

-- where no token is read, none is spelled
nothing-spelled : (block : Bool) (text : List ℕ) → token_at block text ≡ None → (kind : Kind) (piece rest : List ℕ) → text ≡ piece ++ rest → ¬ IsSpelling block kind piece rest
nothing-spelled block text none kind piece rest cut spelled = by_kind (is_text kind) refl
  where
    by_kind : (t : Bool) → is_text kind ≡ t → ⊥
    by_kind true is =
        let opens = bad-opens block text (token-none block text none) in
        let closed : begins_opener block text ≡ false = ap (begins_opener block) cut ∙ text-none block kind piece rest is spelled in
        cc
    by_kind false is =
        let read : token_at block text ≡ Some (kind, rest) = ap (token_at block) cut ∙ token-spelled block kind piece rest spelled (λ t. absurd (cc)) in
        cc

bad-opener : (block : Bool) (text : List ℕ) → token_at block text ≡ None → IsBadOpener block text
bad-opener block text none = record { opener = token-none block text none; no_token = nothing-spelled block text none }

-- the fault behind the tokens that stand at the front
abbrev BadTo : Option ℕ → ℕ → List ℕ → ℕ → Type 0
BadTo block at text place =
    (tokens : List Token) × (unclosed : Option ℕ) × (rest : List ℕ) × SpellsTo block at tokens text unclosed rest × IsBadOpener (is_some unclosed) rest × (place + length rest ≡ at + length text)

abbrev OpenTo : Option ℕ → ℕ → List ℕ → ℕ → Type 0
OpenTo block at text place = (tokens : List Token) × SpellsTo block at tokens text (Some place) []

-- what was read is so
abbrev IsRead : Option ℕ → ℕ → List ℕ → Result (List Token) ℕ → Type 0
IsRead block at text (Ok tokens) = SpellsTo block at tokens text None []
IsRead block at text (Err place) = BadTo block at text place ⊎ OpenTo block at text place

apart-found : (kind : Kind) (block unclosed : Option ℕ) (at next : ℕ) (tokens : List Token) (rest last : List ℕ) → StopsText (is_some block) kind rest → SpellsTo (block_after block at kind) next tokens rest unclosed last → Apart kind tokens
apart-found kinds.Text block unclosed at next [] rest last stops is = tt
apart-found kinds.Text block unclosed at next (u ∷ us) rest last stops (piece, after, cut, span, spelled, apart, others) = by_kind (is_text u.kind) refl
  where
    by_kind : (t : Bool) → is_text u.kind ≡ t → is_text u.kind ≡ false
    by_kind false is = is
    by_kind true is =
        let closed : begins_opener (is_some block) rest ≡ false = ap (begins_opener (is_some block)) cut ∙ text-none (is_some block) u.kind piece after is spelled in
        let some : 0 < length rest = omega (arith, ap length cut, length-append piece after, spelled-some (is_some block) u.kind piece after spelled) in
        absurd (omega (arith, stops refl, before-fails (begins_opener (is_some block)) rest some closed))
apart-found (kinds.Open tag) block unclosed at next tokens rest last stops is = tt
apart-found (kinds.Close name) block unclosed at next tokens rest last stops is = tt
apart-found kinds.Remove block unclosed at next tokens rest last stops is = tt
apart-found kinds.BlockStart block unclosed at next tokens rest last stops is = tt
apart-found kinds.BlockEnd block unclosed at next tokens rest last stops is = tt

token-shorter : (block : Bool) (text : List ℕ) (kind : Kind) (rest : List ℕ) → IsTokenAt block text kind rest → length rest < length text
token-shorter block text kind rest (piece, cut, spelled, stops) =
    omega (arith, ap length cut, length-append piece rest, spelled-some block kind piece rest spelled)

-- a token before what was read behind it
read-first : (block : Option ℕ) (at : ℕ) (text : List ℕ) (kind : Kind) (rest : List ℕ) → IsTokenAt (is_some block) text kind rest → (r : Result (List Token) ℕ) → IsRead (block_after block at kind) (at + (length text - length rest)) rest r → IsRead block at text (with_first (token_of at text (kind, rest)) r)
read-first block at text kind rest (piece, cut, spelled, stops) r later = by_result r later
  where
    len : length text ≡ length piece + length rest
    len = ap length cut ∙ length-append piece rest

    place : at + (length text - length rest) ≡ at + length piece
    place = omega (arith, len)

    span : (token_of at text (kind, rest)).span ≡ record { start = at; end = at + length piece }
    span = ap (λ (end : ℕ). record { start = at; end = end }) place

    spells : (tokens : List Token) (unclosed : Option ℕ) (last : List ℕ) → SpellsTo (block_after block at kind) (at + (length text - length rest)) tokens rest unclosed last → SpellsTo block at (token_of at text (kind, rest) ∷ tokens) text unclosed last
    spells tokens unclosed last is =
        (piece, rest, cut, span, spelled, apart-found kind block unclosed at (at + (length text - length rest)) tokens rest last stops is, subst (λ (n : ℕ). SpellsTo (block_after block at kind) n tokens rest unclosed last) place is)

    by_result : (r : Result (List Token) ℕ) → IsRead (block_after block at kind) (at + (length text - length rest)) rest r → IsRead block at text (with_first (token_of at text (kind, rest)) r)
    by_result (Ok tokens) is = spells tokens None [] is
    by_result (Err p) (inl (tokens, unclosed, last, is, bad, where_is)) =
        inl (token_of at text (kind, rest) ∷ tokens, unclosed, last, spells tokens unclosed last is, bad, omega (arith, where_is, place, len))
    by_result (Err p) (inr (tokens, is)) = inr (token_of at text (kind, rest) ∷ tokens, spells tokens (Some p) [] is)

read-end : (block : Option ℕ) (at : ℕ) → IsRead block at [] (tokens_at_end block)
read-end None at = (refl, refl)
read-end (Some start) at = inr ([], (refl, refl))

read-found : (n : ℕ) (block : Option ℕ) (at : ℕ) (text : List ℕ) → length text ≤ n → IsRead block at text (tokens_at n block at text)
unfolding tokens_at
read-found zero block at [] fits = read-end block at
read-found zero block at (b ∷ bs) fits = absurd (omega arith)
read-found (suc n) block at [] fits = read-end block at
read-found (suc n) block at (b ∷ bs) fits = by_token (token_at (is_some block) (b ∷ bs)) refl (λ unclosed end rest small. read-found n unclosed end rest small)
  where
    by_token : (o : Option (Kind × List ℕ)) → token_at (is_some block) (b ∷ bs) ≡ o → ((unclosed : Option ℕ) (end : ℕ) (rest : List ℕ) → length rest ≤ n → IsRead unclosed end rest (tokens_at n unclosed end rest)) → IsRead block at (b ∷ bs) (then_tokens (λ unclosed end rest. tokens_at n unclosed end rest) block at (b ∷ bs) o)
    by_token None is later = inl ([], block, b ∷ bs, (refl, refl), bad-opener (is_some block) (b ∷ bs) is, refl)
    by_token (Some (kind, rest)) is later =
        let token = token-found (is_some block) (b ∷ bs) kind rest (omega arith) is in
        let small = token-shorter (is_some block) (b ∷ bs) kind rest token in
        read-first block at (b ∷ bs) kind rest token (tokens_at n (block_after block at kind) (at + (length (b ∷ bs) - length rest)) rest) (later (block_after block at kind) (at + (length (b ∷ bs) - length rest)) rest (omega (arith, small)))

some-text : (block : Bool) (text : List ℕ) → begins_opener block text ≡ true → 0 < length text
some-text true [] is = absurd (cc)
some-text false [] is = absurd (cc)
some-text block (b ∷ bs) is = omega arith

-- where no token is spelled, none is read
nothing-read : (block : Bool) (text : List ℕ) → IsBadOpener block text → token_at block text ≡ None
nothing-read block text bad = by_token (token_at block text) refl
  where
    by_token : (o : Option (Kind × List ℕ)) → token_at block text ≡ o → token_at block text ≡ None
    by_token None is = is
    by_token (Some (kind, rest)) is =
        let (piece, cut, spelled, stops) = token-found block text kind rest (some-text block text (bad-opens block text bad.opener)) is in
        absurd (bad.no_token kind piece rest cut spelled)

spelled-read : (text : List ℕ) (tokens : List Token) → Spells text tokens → scan_of text ≡ Ok tokens
unfolding scan_of
spelled-read text tokens is =
    let (m, end, fits, place, on) = goes-on tokens (length text) None 0 text None [] (omega arith) is refl in
    on ∙ ap (ahead tokens) (tokens-end m None end [] refl) ∙ ap Ok (append-nil tokens)

read-spelled : (text : List ℕ) (r : Result (List Token) ℕ) → scan_of text ≡ r → IsRead None 0 text r
unfolding scan_of
read-spelled text r is = subst (λ (x : Result (List Token) ℕ). IsRead None 0 text x) is (read-found (length text) None 0 text (omega arith))

-- the tokens that are read are those that spell the text
pub scan_of-spells : (text : List ℕ) (tokens : List Token) → (scan_of text ≡ Ok tokens) ↔ Spells text tokens
scan_of-spells text tokens = (λ is. read-spelled text (Ok tokens) is, λ is. spelled-read text tokens is)

fault-found : (text : List ℕ) (at : ℕ) → BadTo None 0 text at ⊎ OpenTo None 0 text at → IsFaultAt text at
fault-found text at (inl (tokens, unclosed, rest, is, bad, place)) =
    inl (record { tokens = tokens; unclosed = unclosed; rest = rest; before = is; bad = bad; place = omega (arith, place) })
fault-found text at (inr (tokens, is)) = inr (record { tokens = tokens; before = is })

fault-read : (text : List ℕ) (at : ℕ) → IsFaultAt text at → scan_of text ≡ Err at
unfolding scan_of
fault-read text at (inl f) =
    let opens = bad-opens (is_some f.unclosed) f.rest (f.bad).opener in
    let (m, end, fits, place, on) = goes-on f.tokens (length text) None 0 text f.unclosed f.rest (omega arith) f.before (stops-opener (is_some f.unclosed) f.rest opens) in
    let none = nothing-read (is_some f.unclosed) f.rest f.bad in
    let same : end ≡ at = omega (arith, place, f.place) in
    on ∙ ap (ahead f.tokens) (tokens-fault m f.unclosed end f.rest (some-text (is_some f.unclosed) f.rest opens) none) ∙ ap Err same
fault-read text at (inr f) =
    let (m, end, fits, place, on) = goes-on f.tokens (length text) None 0 text (Some at) [] (omega arith) f.before refl in
    on ∙ ap (ahead f.tokens) (tokens-end m (Some at) end [] refl)

-- the place that is told is that of the fault
pub scan_of-faults : (text : List ℕ) (at : ℕ) → (scan_of text ≡ Err at) ↔ IsFaultAt text at
scan_of-faults text at = (λ is. fault-found text at (read-spelled text (Err at) is), λ is. fault-read text at is)

ok-same : {A : Type 0} (x y : A) → ◌≡◌ {A = Result A ℕ} (Ok x) (Ok y) → x ≡ y
ok-same x y e = cc

-- a text has one list of tokens at most
pub spells-once : (text : List ℕ) (tokens others : List Token) → Spells text tokens → Spells text others → tokens ≡ others
spells-once text tokens others is too = ok-same tokens others (sym (spelled-read text tokens is) ∙ spelled-read text others too)

-- what a call returned, against what spells the text
pub gives-found : (text : List ℕ) (r : Result (Vec Token Global) ScanFault) → Gives r (scan_of text) → IfOk r (λ tokens. Spells text tokens.items)
gives-found text (Ok tokens) is = (scan_of-spells text tokens.items).0 is
gives-found text (Err fault) is = tt

pub gives-only : (text : List ℕ) (r : Result (Vec Token Global) ScanFault) → Gives r (scan_of text) → (tokens : List Token) → Spells text tokens → Gives r (Ok tokens)
gives-only text r is tokens spelled =
    subst (λ (read : Result (List Token) ℕ). Gives r read) ((scan_of-spells text tokens).1 spelled) is

pub gives-malformed : (text : List ℕ) (r : Result (Vec Token Global) ScanFault) → Gives r (scan_of text) → IfErr r (TellsFault text)
gives-malformed text (Ok tokens) is = tt
gives-malformed text (Err (Malformed at)) is = (scan_of-faults text at).0 is
gives-malformed text (Err NoMemory) is = tt

pub gives-refused : (text : List ℕ) (r : Result (Vec Token Global) ScanFault) → Gives r (scan_of text) → (at : ℕ) → IsFaultAt text at → Gives r (Err at)
gives-refused text r is at fault =
    subst (λ (read : Result (List Token) ℕ). Gives r read) ((scan_of-faults text at).1 fault) is

-- How a text is cut into tokens, one at a time.
use Rattle.std.proofs.Common.{◌≡◌, ℕ, zero, suc, ◌+◌, ◌-◌, ◌<◌, ◌≤◌, is_some, List, [], ◌∷◌, ◌++◌, length, Option, Some, None, Result, Ok, Err, refl, sym, ◌∙◌, ap, append_assoc, arith}
use Rattle.esi_scanner.specs.declared.token.Kind.{Kind}
use Rattle.esi_scanner.specs.declared.token.Token.{Token}
use Rattle.esi_scanner.specs.Scan.{token_at, token_of, block_after, with_first, tokens_at_end, tokens_at, scan_of}

-- these tokens, before those of the rest
abbrev pub ahead : List Token → Result (List Token) ℕ → Result (List Token) ℕ
ahead front (Ok tokens) = Ok (front ++ tokens)
ahead front (Err at) = Err at

ahead-first : (front : List Token) (t : Token) (r : Result (List Token) ℕ) → ahead front (with_first t r) ≡ ahead (front ++ t ∷ []) r
ahead-first front t (Ok tokens) = ap Ok (sym (append_assoc front (t ∷ []) tokens))
ahead-first front t (Err at) = refl

ahead-none : (r : Result (List Token) ℕ) → ahead [] r ≡ r
ahead-none (Ok tokens) = refl
ahead-none (Err at) = refl

-- what is read of the text is what was read so far, and what is read of the rest
abbrev pub IsCutTo : List ℕ → List Token → Option ℕ → ℕ → List ℕ → Type 0
IsCutTo text front block at rest = (n : ℕ) × (length rest ≤ n) × (ahead front (tokens_at n block at rest) ≡ scan_of text)

pub cut-start : (text : List ℕ) → IsCutTo text [] None 0 text
unfolding scan_of
cut-start text = (length text, omega arith, ahead-none (tokens_at (length text) None 0 text))

pub tokens-some : (n : ℕ) (block : Option ℕ) (at : ℕ) (text : List ℕ) (found : Kind × List ℕ) → 0 < length text → token_at (is_some block) text ≡ Some found
    → tokens_at (suc n) block at text ≡ with_first (token_of at text found) (tokens_at n (block_after block at found.0) (at + (length text - length found.1)) found.1)
unfolding tokens_at
tokens-some n block at [] found some is = absurd (omega arith)
tokens-some n block at (b ∷ bs) found some is = rw is refl

pub tokens-fault : (n : ℕ) (block : Option ℕ) (at : ℕ) (text : List ℕ) → 0 < length text → token_at (is_some block) text ≡ None → tokens_at n block at text ≡ Err at
unfolding tokens_at
tokens-fault n block at [] some is = absurd (omega arith)
tokens-fault zero block at (b ∷ bs) some is = refl
tokens-fault (suc n) block at (b ∷ bs) some is = rw is refl

pub tokens-end : (n : ℕ) (block : Option ℕ) (at : ℕ) (text : List ℕ) → length text ≡ 0 → tokens_at n block at text ≡ tokens_at_end block
unfolding tokens_at
tokens-end zero block at [] none = refl
tokens-end (suc n) block at [] none = refl
tokens-end n block at (b ∷ bs) none = absurd (omega arith)

pub cut-step : (text : List ℕ) (front : List Token) (block : Option ℕ) (at : ℕ) (rest : List ℕ) (found : Kind × List ℕ) → 0 < length rest → token_at (is_some block) rest ≡ Some found → length found.1 < length rest
    → IsCutTo text front block at rest → IsCutTo text (front ++ token_of at rest found ∷ []) (block_after block at found.0) (at + (length rest - length found.1)) found.1
cut-step text front block at rest found some is shorter (zero, fits, so_far) = absurd (omega arith)
cut-step text front block at rest found some is shorter (suc n, fits, so_far) = (
  n,
  omega arith,
  sym (ahead-first front (token_of at rest found) (tokens_at n (block_after block at found.0) (at + (length rest - length found.1)) found.1))
      ∙ ap (ahead front) (sym (tokens-some n block at rest found some is)) ∙ so_far,
)

pub cut-fault : (text : List ℕ) (front : List Token) (block : Option ℕ) (at : ℕ) (rest : List ℕ) → 0 < length rest → token_at (is_some block) rest ≡ None → IsCutTo text front block at rest → scan_of text ≡ Err at
cut-fault text front block at rest some is (n, fits, so_far) =
    sym so_far ∙ ap (ahead front) (tokens-fault n block at rest some is)

pub cut-end : (text : List ℕ) (front : List Token) (block : Option ℕ) (at : ℕ) (rest : List ℕ) → length rest ≡ 0 → IsCutTo text front block at rest → scan_of text ≡ ahead front (tokens_at_end block)
cut-end text front block at rest none (n, fits, so_far) =
    sym so_far ∙ ap (ahead front) (tokens-end n block at rest none)

-- the same for a token whose end is known otherwise
pub cut-next : (text : List ℕ) (front : List Token) (block : Option ℕ) (at : ℕ) (rest : List ℕ) (kind : Kind) (after : List ℕ) (end : ℕ) → 0 < length rest → token_at (is_some block) rest ≡ Some (kind, after) → length after < length rest → end ≡ at + (length rest - length after)
    → IsCutTo text front block at rest → IsCutTo text (front ++ (record { span = record { start = at; end = end }; kind = kind }) ∷ []) (block_after block at kind) end after
cut-next text front block at rest kind after end some is shorter place so_far =
    rw place (cut-step text front block at rest (kind, after) some is shorter so_far)

-- The values of parts, one after another.
use Rattle.std.proofs.Common.{◌≡◌, ℕ, Bool, true, false, [], ◌+◌, ◌<◌, ◌≤◌, List, ◌∷◌, ◌++◌, length, drop, get_or, Some, None, refl, sym, ◌∙◌, ap, append_assoc, arith}
use Rattle.std.proofs.lemmas.Bool.{le-leb, lt-leb}
use Rattle.std.proofs.lemmas.List.{drop_more, drop_all, append-nil, length-append}
use Rattle.edge_types.specs.declared.request.Request.{Request}
use Rattle.esi_vars.specs.declared.part.Part.{Part}
use Rattle.edge_types.specs.Pieces.{joined, with_piece, with_pieces}
use Rattle.esi_vars.specs.Values.{part_value, substituted, within, is_long, value_pieces}

pub substituted_turn : (request : Request) (text text1 : List ℕ) (parts : List Part) (i : ℕ) (p : Part) (all : List ℕ) → i < length parts → p ≡ get_or parts i p
    → text1 ≡ text ++ part_value request p → text ++ substituted request (drop i parts) ≡ all → text1 ++ substituted request (drop (i + 1) parts) ≡ all
unfolding substituted
substituted_turn request text text1 parts i p all within at added so_far =
    let cut : drop i parts ≡ p ∷ drop (i + 1) parts = drop_more parts i p within ∙ ap (λ q. q ∷ drop (i + 1) parts) (sym at) in
    rw added (append_assoc text (part_value request p) (substituted request (drop (i + 1) parts)))
    ∙ ap (λ ps. text ++ substituted request ps) (sym cut) ∙ so_far

pub substituted_end : (request : Request) (text : List ℕ) (parts : List Part) (i : ℕ) (all : List ℕ) → length parts ≤ i
    → text ++ substituted request (drop i parts) ≡ all → text ≡ all
unfolding substituted
substituted_end request text parts i all past so_far =
    sym (append-nil text) ∙ ap (λ ps. text ++ substituted request ps) (sym (drop_all i parts past)) ∙ so_far

-- a whole text that fits
pub within_limit : (limit : ℕ) (text all : List ℕ) → text ≡ all → length text ≤ limit → Some text ≡ within limit all
within_limit limit text all is fits =
    let len : length all ≤ limit = omega (arith, ap length is) in
    rw (le-leb (length all) limit len) (ap Some is)

-- a part more would make it too long, whatever follows
pub past_limit : (request : Request) (limit : ℕ) (text : List ℕ) (parts : List Part) (i : ℕ) (p : Part) (all : List ℕ) → i < length parts → p ≡ get_or parts i p
    → limit < length text + length (part_value request p) → text ++ substituted request (drop i parts) ≡ all → None ≡ within limit all
unfolding substituted
past_limit request limit text parts i p all within_parts at long so_far =
    let rest = substituted request (drop (i + 1) parts) in
    let cut : drop i parts ≡ p ∷ drop (i + 1) parts = drop_more parts i p within_parts ∙ ap (λ q. q ∷ drop (i + 1) parts) (sym at) in
    let whole : text ++ (part_value request p ++ rest) ≡ all = ap (λ ps. text ++ substituted request ps) (sym cut) ∙ so_far in
    let len : limit < length all = omega (arith, ap length whole, length-append text (part_value request p ++ rest), length-append (part_value request p) rest) in
    rw (lt-leb (length all) limit len) refl

-- the pieces of the values have their bytes, whatever the run before them
pub joined_values : (request : Request) (run : List ℕ) (parts : List Part) → joined (value_pieces request run parts) ≡ run ++ substituted request parts
unfolding substituted
joined_values request run [] = refl
joined_values request run (p ∷ ps) = by_length (is_long (part_value request p)) refl (joined_values request [] ps) (joined_values request (run ++ part_value request p) ps)
  where
    value : List ℕ
    value = part_value request p

    by_length : (long : Bool) → is_long value ≡ long → joined (value_pieces request [] ps) ≡ substituted request ps
        → joined (value_pieces request (run ++ value) ps) ≡ (run ++ value) ++ substituted request ps → joined (value_pieces request run (p ∷ ps)) ≡ run ++ (value ++ substituted request ps)
    by_length true is apart together = rw is (ap (λ rest. run ++ (value ++ rest)) apart)
    by_length false is apart together = rw is (together ∙ append_assoc run value (substituted request ps))

-- one part more is put out, and then all are
module _ (request : Request) (body : List (List ℕ)) (run : List ℕ) (parts : List Part) (i : ℕ) (all : List (List ℕ)) where
  abbrev SoFar : Type 0
  SoFar = with_pieces body (value_pieces request run (drop i parts)) ≡ all

  pub pieces_turn : (body1 : List (List ℕ)) (run1 : List ℕ) (p : Part) → i < length parts → p ≡ get_or parts i p
      → ((rest : List Part) → with_pieces body1 (value_pieces request run1 rest) ≡ with_pieces body (value_pieces request run (p ∷ rest)))
      → SoFar → with_pieces body1 (value_pieces request run1 (drop (i + 1) parts)) ≡ all
  pieces_turn body1 run1 p within at put so_far =
      let cut : drop i parts ≡ p ∷ drop (i + 1) parts = drop_more parts i p within ∙ ap (λ q. q ∷ drop (i + 1) parts) (sym at) in
      put (drop (i + 1) parts) ∙ ap (λ ps. with_pieces body (value_pieces request run ps)) (sym cut) ∙ so_far

  pub pieces_end : length parts ≤ i → SoFar → with_piece body run ≡ all
  pieces_end past so_far = ap (λ ps. with_pieces body (value_pieces request run ps)) (sym (drop_all i parts past)) ∙ so_far

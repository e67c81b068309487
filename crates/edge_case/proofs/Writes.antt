-- What several writes leave, one after another.
use Rattle.std.proofs.Common.{◌≡◌, ℕ, ◌+◌, ◌<◌, List, [], ◌∷◌, ◌++◌, length, take, drop, get_or, slice_get, refl, sym, ◌∙◌, ap, subst, Option, Some, None, Result, Ok, Err, OnErr, arith, length-append, append_assoc, append-nil, take-append-drop}
use Rattle.std.proofs.KnownBytes.{Appends-nil, Appends-trans, Appends-kept}
use Rattle.std.proofs.lemmas.List.{take_more}
use Rattle.std.proofs.lemmas.List.Folds.{concat-append}
use Rattle.std.proofs.lemmas.Option.{slice_get-get_or}
use Rattle.std.specs.Io.KnownBytes.{Appends, Keeps}
use Rattle.edge_types.specs.Pieces.{joined}
use Rattle.edge_case.specs.Bytes.{AppendsUpTo, AppendsPart}

-- nothing is written yet
pub upto_none : (a : Option (List ℕ)) (bytes : List ℕ) → AppendsUpTo a a bytes bytes
upto_none a bytes = record { part = []; whole = refl; written = Appends-nil a }

-- n bytes more
pub upto_more : (a b c : Option (List ℕ)) (bytes rest : List ℕ) (n : ℕ) → AppendsUpTo a b bytes rest → Appends b c (take n rest) → AppendsUpTo a c bytes (drop n rest)
upto_more a b c bytes rest n u w = record {
  part = u.part ++ take n rest;
  whole = u.whole ∙ ap (λ (r : List ℕ). u.part ++ r) (sym (take-append-drop n rest)) ∙ sym (append_assoc u.part (take n rest) (drop n rest));
  written = Appends-trans a b c u.part (take n rest) u.written w;
}

-- a write that fails
pub upto_kept : (a b c : Option (List ℕ)) (bytes rest : List ℕ) → AppendsUpTo a b bytes rest → Keeps b c → AppendsUpTo a c bytes rest
upto_kept a b c bytes rest u k = record { part = u.part; whole = u.whole; written = Appends-kept a b c u.part u.written k }

-- nothing is left to write
pub upto_all : (a b : Option (List ℕ)) (bytes rest : List ℕ) → AppendsUpTo a b bytes rest → rest ≡ [] → Appends a b bytes
upto_all a b bytes rest u e =
    subst (λ (t : List ℕ). Appends a b t) (sym (u.whole ∙ ap (λ (r : List ℕ). u.part ++ r) e ∙ append-nil u.part)) u.written

-- a first part of what stands before more
pub part_front : (a b : Option (List ℕ)) (bytes back : List ℕ) → AppendsPart a b bytes → AppendsPart a b (bytes ++ back)
part_front a b bytes back p = (
  p.0 ++ back,
  record {
    part = p.1.part;
    whole = ap (λ (t : List ℕ). t ++ back) p.1.whole ∙ append_assoc p.1.part p.0 back;
    written = p.1.written;
  },
  omega (arith, p.2, length-append p.0 back),
)

-- a first part of what stands behind what is written
pub part_behind : (a b c : Option (List ℕ)) (front bytes : List ℕ) → Appends a b front → AppendsPart b c bytes → AppendsPart a c (front ++ bytes)
part_behind a b c front bytes w p = (
  p.0,
  record {
    part = front ++ p.1.part;
    whole = ap (λ (t : List ℕ). front ++ t) p.1.whole ∙ sym (append_assoc front p.1.part p.0);
    written = Appends-trans a b c front p.1.part w p.1.written;
  },
  p.2,
)

-- ---- pieces

item_is : (ps : List (List ℕ)) (i : ℕ) (piece : List ℕ) → i < length ps → Some piece ≡ slice_get ps i → get_or ps i piece ≡ piece
item_is ps i piece h e = let is : slice_get ps i ≡ Some (get_or ps i piece) = slice_get-get_or ps i piece h in cc

joined_more : (ps : List (List ℕ)) (i : ℕ) (piece : List ℕ) → i < length ps → Some piece ≡ slice_get ps i → joined (take (i + 1) ps) ≡ joined (take i ps) ++ piece
joined_more ps i piece h e =
    ap (λ (qs : List (List ℕ)). joined qs) (take_more ps i piece h) ∙ concat-append (take i ps) (get_or ps i piece ∷ [])
    ∙ ap (λ (t : List ℕ). joined (take i ps) ++ t) (append-nil (get_or ps i piece) ∙ item_is ps i piece h e)

-- one piece more
pub pieces_more : (a b c : Option (List ℕ)) (ps : List (List ℕ)) (i : ℕ) (piece : List ℕ) → i < length ps → Some piece ≡ slice_get ps i → Appends a b (joined (take i ps)) → Appends b c piece
    → Appends a c (joined (take (i + 1) ps))
pieces_more a b c ps i piece h e w v = subst (λ (t : List ℕ). Appends a c t) (sym (joined_more ps i piece h e)) (Appends-trans a b c (joined (take i ps)) piece w v)

-- a piece that fails
pub pieces_part : (a b c : Option (List ℕ)) (ps : List (List ℕ)) (i : ℕ) (piece : List ℕ) → i < length ps → Some piece ≡ slice_get ps i → Appends a b (joined (take i ps)) → AppendsPart b c piece
    → AppendsPart a c (joined ps)
pieces_part a b c ps i piece h e w p =
    let more : joined (take (i + 1) ps) ≡ joined (take i ps) ++ piece = joined_more ps i piece h e in
    let whole : joined (take (i + 1) ps) ++ joined (drop (i + 1) ps) ≡ joined ps =
    sym (concat-append (take (i + 1) ps) (drop (i + 1) ps)) ∙ ap (λ (qs : List (List ℕ)). joined qs) (take-append-drop (i + 1) ps) in
    let part : AppendsPart a c (joined (take i ps) ++ piece) = part_behind a b c (joined (take i ps)) piece w p in
    subst (λ (t : List ℕ). AppendsPart a c t) (ap (λ (t : List ℕ). t ++ joined (drop (i + 1) ps)) (sym more) ∙ whole)
    (part_front a c (joined (take i ps) ++ piece) (joined (drop (i + 1) ps)) part)

-- no piece is none
pub piece_is : (ps : List (List ℕ)) (i : ℕ) → i < length ps → None ≡ slice_get ps i → ⊥
piece_is ps i h e = let is : slice_get ps i ≡ Some (get_or ps i []) = slice_get-get_or ps i [] h in cc

pub on_any : {T E : Type 0} (r : Result T E) (P : Type 0) → P → OnErr r P
on_any (Ok x) P p = tt
on_any (Err e) P p = p

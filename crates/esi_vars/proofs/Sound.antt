-- What is read at the front of a text stands there.
use Rattle.std.proofs.Common.{◌≡◌, ◌⊎◌, ℕ, ◌<◌, ◌==◌, Bool, true, false, cond, List, [], ◌∷◌, ◌++◌, take, drop, Option, Some, None, codes, refl, sym, ◌∙◌, ap, subst, inl, inr, append_assoc, arith}
use Rattle.std.specs.List.{AllPass, prefix_len}
use Rattle.std.proofs.lemmas.Bool.{eqb-true, eqb-false}
use Rattle.std.proofs.lemmas.List.{take-append-drop, get_or-take}
use Rattle.std.proofs.lemmas.List.Sums.{prefix_len_passes}
use Rattle.std.proofs.lemmas.List.Folds.{length-prefix_len}
use Rattle.std.proofs.lemmas.Option.{cond_some, option_and_then_some, some_pair_parts}
use Rattle.esi_vars.specs.Reference.{is_name_byte, is_key_byte, is_default_byte, is_quoted_byte, IsRun, IsKey, IsDefault, IsReference}
use Rattle.edge_types.specs.Halves.{around}
use Rattle.edge_types.proofs.HalvesLemmas.{around_sound}
use Rattle.esi_vars.specs.Reading.{Written, reference_of, after_byte, run_at, quoted_key_at, key_text_at, braced_key_at, key_at, default_text_at, barred_default_at, default_at, body_at, written_at}

-- the piece with this fact stands at the front, and the rest behind it
pub record Stands (P : List ℕ → Type 0) (text rest : List ℕ) : Type 0 where
  pub piece : List ℕ
  pub is : P piece
  pub whole : text ≡ piece ++ rest

run_by : (p : ℕ → Bool) (text x rest : List ℕ) (b : Bool) → (prefix_len p text == 0) ≡ b
    → cond {A = Option (List ℕ × List ℕ)} b None (Some (take (prefix_len p text) text, drop (prefix_len p text) text)) ≡ Some (x, rest) → IsRun p x × (text ≡ x ++ rest)
run_by p text x rest true test e = absurd (cc)
run_by p text x rest false test e =
    let n = prefix_len p text in
    let parts = some_pair_parts (take n text) x (drop n text) rest e in
    let some : 0 < n = omega (arith, eqb-false n 0 test) in
    let run : IsRun p (take n text) = (
      omega (arith, length-prefix_len p text),
      λ k d h. let less : k < n = omega (arith, length-prefix_len p text) in ap p (get_or-take n text k d less) ∙ prefix_len_passes p text k d less,
    ) in
    (subst (λ y. IsRun p y) parts.0 run, rw (← parts.0, ← parts.1) (sym (take-append-drop n text)))

pub run_sound : (p : ℕ → Bool) (text x rest : List ℕ) → run_at p text ≡ Some (x, rest) → IsRun p x × (text ≡ x ++ rest)
unfolding run_at
run_sound p text x rest e = run_by p text x rest _ refl e

pub after_sound : (c : ℕ) (text rest : List ℕ) → after_byte c text ≡ Some rest → text ≡ c ∷ rest
after_sound c [] rest e = absurd (cc)
after_sound c (b ∷ bs) rest e =
    let parts = cond_some (b == c) bs rest e in
    let same = eqb-true b c parts.0 in
    let later = parts.1 in cc

pub cut_sound : (text x rest : List ℕ) → around 39 text ≡ Some (x, rest) → AllPass is_quoted_byte x × (text ≡ x ++ (39 ∷ rest))
cut_sound text x rest e = around_sound 39 text x rest e

-- a key, in quotes or not
abbrev KeyText : List ℕ → List ℕ → List ℕ → Type 0
KeyText text key rest = IsRun is_key_byte key × ((text ≡ key ++ rest) ⊎ (text ≡ 39 ∷ (key ++ (39 ∷ rest))))

quoted_key_sound : (text key rest : List ℕ) → quoted_key_at text ≡ Some (key, rest) → IsRun is_key_byte key × (text ≡ key ++ (39 ∷ rest))
unfolding quoted_key_at
quoted_key_sound text key rest e = option_and_then_some _ _ _ e (λ k ek e2. option_and_then_some _ _ _ e2 (λ r er e3.
    let parts = some_pair_parts k.0 key r rest e3 in
    let run = run_sound is_key_byte text k.0 k.1 ek in
    let quote = after_sound 39 k.1 r er in
    (subst (λ y. IsRun is_key_byte y) parts.0 run.0, run.1 ∙ rw (quote, parts.0, parts.1) refl)))

key_text_sound : (text key rest : List ℕ) → key_text_at text ≡ Some (key, rest) → KeyText text key rest
key_text_sound [] key rest e = absurd (cc)
key_text_sound (b ∷ bs) key rest e = by_test (b == 39) refl e
  where
    by_test : (t : Bool) → (b == 39) ≡ t → cond t (quoted_key_at bs) (run_at is_key_byte (b ∷ bs)) ≡ Some (key, rest) → KeyText (b ∷ bs) key rest
    by_test true test found =
        let quoted = quoted_key_sound bs key rest found in
        let quote = eqb-true b 39 test in
        (quoted.0, inr (rw (quote, quoted.1) refl))
    by_test false test found =
        let run = run_sound is_key_byte (b ∷ bs) key rest found in
        (run.0, inl run.1)

braced_key_sound : (text : List ℕ) (key : Option (List ℕ)) (rest : List ℕ) → braced_key_at text ≡ Some (key, rest) → Stands (IsKey key) (123 ∷ text) rest
unfolding braced_key_at
braced_key_sound text key rest e = option_and_then_some _ _ _ e (λ k ek e2. option_and_then_some _ _ _ e2 (λ r er e3.
    let parts = some_pair_parts (Some k.0) key r rest e3 in
    let shape = key_text_sound text k.0 k.1 ek in
    let brace : k.1 ≡ 125 ∷ rest = after_sound 125 k.1 r er ∙ ap (λ y. 125 ∷ y) parts.1 in
    subst (λ y. Stands (IsKey y) (123 ∷ text) rest) parts.0 (by_quotes k.0 k.1 shape.0 brace shape.1)))
  where
    by_quotes : (k after : List ℕ) → IsRun is_key_byte k → after ≡ 125 ∷ rest → (text ≡ k ++ after) ⊎ (text ≡ 39 ∷ (k ++ (39 ∷ after))) → Stands (IsKey (Some k)) (123 ∷ text) rest
    by_quotes k after run brace (inl is) = record { piece = codes "{" ++ (k ++ codes "}"); is = (run, inl refl); whole = rw (is, brace) (simp append_assoc) }
    by_quotes k after run brace (inr is) = record { piece = codes "{'" ++ (k ++ codes "'}"); is = (run, inr refl); whole = rw (is, brace) (simp append_assoc) }

pub key_sound : (text : List ℕ) (key : Option (List ℕ)) (rest : List ℕ) → key_at text ≡ Some (key, rest) → Stands (IsKey key) text rest
key_sound [] key rest e =
    let parts = some_pair_parts None key [] rest e in
    record { piece = []; is = subst (λ y. IsKey y []) parts.0 refl; whole = parts.1 }
key_sound (b ∷ bs) key rest e = by_test (b == 123) refl e
  where
    by_test : (t : Bool) → (b == 123) ≡ t → cond t (braced_key_at bs) (Some (None, b ∷ bs)) ≡ Some (key, rest) → Stands (IsKey key) (b ∷ bs) rest
    by_test true test found = let brace = eqb-true b 123 test in rw brace (braced_key_sound bs key rest found)
    by_test false test found =
        let parts = some_pair_parts None key (b ∷ bs) rest found in
        record { piece = []; is = subst (λ y. IsKey y []) parts.0 refl; whole = parts.1 }

-- a default, in quotes or not
abbrev DefaultText : List ℕ → List ℕ → List ℕ → Type 0
DefaultText text bytes rest =
    (IsRun is_default_byte bytes × (text ≡ bytes ++ rest)) ⊎ (AllPass is_quoted_byte bytes × (text ≡ 39 ∷ (bytes ++ (39 ∷ rest))))

default_text_sound : (text bytes rest : List ℕ) → default_text_at text ≡ Some (bytes, rest) → DefaultText text bytes rest
default_text_sound [] bytes rest e = absurd (cc)
default_text_sound (b ∷ bs) bytes rest e = by_test (b == 39) refl e
  where
    by_test : (t : Bool) → (b == 39) ≡ t → cond t (around 39 bs) (run_at is_default_byte (b ∷ bs)) ≡ Some (bytes, rest) → DefaultText (b ∷ bs) bytes rest
    by_test true test found =
        let quoted = cut_sound bs bytes rest found in
        let quote = eqb-true b 39 test in
        inr (quoted.0, rw (quote, quoted.1) refl)
    by_test false test found = inl (run_sound is_default_byte (b ∷ bs) bytes rest found)

barred_default_sound : (text : List ℕ) (default : Option (List ℕ)) (rest : List ℕ) → barred_default_at text ≡ Some (default, rest) → Stands (IsDefault default) (124 ∷ text) rest
unfolding barred_default_at
barred_default_sound text default rest e = option_and_then_some _ _ _ e (λ d ed e2.
    let parts = some_pair_parts (Some d.0) default d.1 rest e2 in
    subst (λ y. Stands (IsDefault y) (124 ∷ text) rest) parts.0 (subst (λ y. Stands (IsDefault (Some d.0)) (124 ∷ text) y) parts.1 (by_quotes d.0 d.1 (default_text_sound text d.0 d.1 ed))))
  where
    by_quotes : (bytes after : List ℕ) → DefaultText text bytes after → Stands (IsDefault (Some bytes)) (124 ∷ text) after
    by_quotes bytes after (inl is) = record { piece = codes "|" ++ bytes; is = inl (is.0, refl); whole = rw is.1 refl }
    by_quotes bytes after (inr is) = record { piece = codes "|'" ++ (bytes ++ codes "'"); is = inr (is.0, refl); whole = rw is.1 (simp append_assoc) }

pub default_sound : (text : List ℕ) (default : Option (List ℕ)) (rest : List ℕ) → default_at text ≡ Some (default, rest) → Stands (IsDefault default) text rest
default_sound [] default rest e =
    let parts = some_pair_parts None default [] rest e in
    record { piece = []; is = subst (λ y. IsDefault y []) parts.0 refl; whole = parts.1 }
default_sound (b ∷ bs) default rest e = by_test (b == 124) refl e
  where
    by_test : (t : Bool) → (b == 124) ≡ t → cond t (barred_default_at bs) (Some (None, b ∷ bs)) ≡ Some (default, rest) → Stands (IsDefault default) (b ∷ bs) rest
    by_test true test found = let bar = eqb-true b 124 test in rw bar (barred_default_sound bs default rest found)
    by_test false test found =
        let parts = some_pair_parts None default (b ∷ bs) rest found in
        record { piece = []; is = subst (λ y. IsDefault y []) parts.0 refl; whole = parts.1 }

regroup : (text n k d rest name key default : List ℕ) → text ≡ name ++ n → n ≡ key ++ k → k ≡ default ++ d → d ≡ 41 ∷ rest
    → 36 ∷ 40 ∷ text ≡ (codes "$(" ++ (name ++ (key ++ (default ++ codes ")")))) ++ rest
regroup text n k d rest name key default e1 e2 e3 e4 = rw (e1, e2, e3, e4) (simp append_assoc)

-- what is read as a reference is spelled so
pub body_sound : (text : List ℕ) (w : Written) (rest : List ℕ) → body_at text ≡ Some (w, rest) → Stands (λ piece. IsReference piece (reference_of w)) (36 ∷ 40 ∷ text) rest
unfolding body_at
body_sound text w rest e = option_and_then_some _ _ _ e (λ n en e2. option_and_then_some _ _ _ e2 (λ k ek e3. option_and_then_some _ _ _ e3 (λ d ed e4. option_and_then_some _ _ _ e4 (λ r er e5.
    let parts = some_pair_parts (record { name = n.0; key = k.0; default = d.0 }) w r rest e5 in
    let name = run_sound is_name_byte text n.0 n.1 en in
    let key = key_sound n.1 k.0 k.1 ek in
    let default = default_sound k.1 d.0 d.1 ed in
    let end : d.1 ≡ 41 ∷ rest = after_sound 41 d.1 r er ∙ ap (λ y. 41 ∷ y) parts.1 in
    let is : IsReference (codes "$(" ++ (n.0 ++ (key.piece ++ (default.piece ++ codes ")")))) (reference_of (record { name = n.0; key = k.0; default = d.0 })) = record {
      name = n.0;
      key = key.piece;
      default = default.piece;
      is_name = name.0;
      names = refl;
      is_key = key.is;
      is_default = default.is;
      whole = refl;
    } in
    subst (λ y. Stands (λ piece. IsReference piece (reference_of y)) (36 ∷ 40 ∷ text) rest) parts.0 record {
      piece = codes "$(" ++ (n.0 ++ (key.piece ++ (default.piece ++ codes ")")));
      is = is;
      whole = regroup _ _ _ _ _ _ _ _ name.1 key.whole default.whole end;
    }))))

pub written_sound : (text : List ℕ) (w : Written) (rest : List ℕ) → written_at text ≡ Some (w, rest) → Stands (λ piece. IsReference piece (reference_of w)) text rest
written_sound [] w rest e = absurd (cc)
written_sound (b ∷ []) w rest e = absurd (cc)
written_sound (b ∷ c ∷ cs) w rest e = by_tests (b == 36) (c == 40) refl refl e
  where
    by_tests : (s t : Bool) → (b == 36) ≡ s → (c == 40) ≡ t → cond s (cond t (body_at cs) None) None ≡ Some (w, rest) → Stands (λ piece. IsReference piece (reference_of w)) (b ∷ c ∷ cs) rest
    by_tests true true first second found = rw (eqb-true b 36 first, eqb-true c 40 second) (body_sound cs w rest found)
    by_tests true false first second found = absurd (cc)
    by_tests false t first second found = absurd (cc)

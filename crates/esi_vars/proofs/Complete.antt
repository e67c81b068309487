-- What is spelled as a reference is read as one, whatever follows it.
use Rattle.std.proofs.Common.{◌≡◌, ℕ, ◌==◌, Bool, true, false, List, [], ◌∷◌, ◌++◌, length, Option, Some, None, refl, sym, ◌∙◌, ap, inl, inr, append_assoc, arith}
use Rattle.std.specs.List.{AllPass, prefix_len}
use Rattle.std.proofs.lemmas.Bool.{eqb-true, eq-eqb, ne_eqb}
use Rattle.std.proofs.lemmas.List.{take_at, drop_at}
use Rattle.std.proofs.lemmas.List.Sums.{prefix_len_is}
use Rattle.std.proofs.lemmas.List.Folds.{prefix_len-append}
use Rattle.esi_vars.specs.declared.reference.Reference.{Reference}
use Rattle.esi_vars.specs.Reference.{is_name_byte, is_key_byte, is_default_byte, is_quoted_byte, IsRun, IsKey, IsDefault, IsReference}
use Rattle.edge_types.specs.Halves.{around}
use Rattle.edge_types.proofs.HalvesLemmas.{around_again}
use Rattle.esi_vars.specs.Reading.{run_at, quoted_key_at, key_text_at, braced_key_at, key_at, default_text_at, barred_default_at, default_at, body_at, reference_at}

-- a run of bytes that pass, and then one that doesn't, is the longest run
pub prefix_len-run : (p : ℕ → Bool) (xs ys : List ℕ) → AllPass p xs → prefix_len p ys ≡ 0 → prefix_len p (xs ++ ys) ≡ length xs
prefix_len-run p xs ys all none =
    let whole : prefix_len p xs ≡ length xs = prefix_len_is p xs (length xs) 0 (omega arith) (λ k h. all k 0 h) (λ h. absurd (omega arith)) in
    let same = eq-eqb (prefix_len p xs) (length xs) whole in
    prefix_len-append p xs ys ∙ rw (same, none) (omega arith)

run_again : (p : ℕ → Bool) (x rest : List ℕ) → IsRun p x → prefix_len p rest ≡ 0 → run_at p (x ++ rest) ≡ Some (x, rest)
unfolding run_at
run_again p x rest run none =
    let len = prefix_len-run p x rest run.1 none in
    let some : (length x == 0) ≡ false = ne_eqb (length x) 0 (λ e. omega (arith, run.0)) in
    rw (len, some, take_at x rest (length x) refl, drop_at x rest (length x) refl) refl

pub cut_again : (bytes rest : List ℕ) → AllPass is_quoted_byte bytes → around 39 (bytes ++ (39 ∷ rest)) ≡ Some (bytes, rest)
cut_again bytes rest all = around_again 39 bytes rest all

-- no key and no default begins with a quote
unquoted : (p : ℕ → Bool) (b : ℕ) → p 39 ≡ false → p b ≡ true → (b == 39) ≡ false
unquoted p b quote passes = by_test (b == 39) refl
  where
    by_test : (t : Bool) → (b == 39) ≡ t → (b == 39) ≡ false
    by_test true test = let same = eqb-true b 39 test in absurd (let clash : true ≡ false = sym passes ∙ ap p same ∙ quote in cc)
    by_test false test = test

key_text_again : (key rest : List ℕ) → IsRun is_key_byte key → prefix_len is_key_byte rest ≡ 0 → key_text_at (key ++ rest) ≡ Some (key, rest)
key_text_again [] rest run none = absurd (omega (arith, run.0))
key_text_again (b ∷ bs) rest run none =
    let bare : (b == 39) ≡ false = unquoted is_key_byte b refl (run.1 0 0 (omega arith)) in
    rw bare (run_again is_key_byte (b ∷ bs) rest run none)

default_text_again : (bytes rest : List ℕ) → IsRun is_default_byte bytes → prefix_len is_default_byte rest ≡ 0 → default_text_at (bytes ++ rest) ≡ Some (bytes, rest)
default_text_again [] rest run none = absurd (omega (arith, run.0))
default_text_again (b ∷ bs) rest run none =
    let bare : (b == 39) ≡ false = unquoted is_default_byte b refl (run.1 0 0 (omega arith)) in
    rw bare (run_again is_default_byte (b ∷ bs) rest run none)

quoted_key_again : (key rest : List ℕ) → IsRun is_key_byte key → quoted_key_at (key ++ (39 ∷ rest)) ≡ Some (key, rest)
unfolding quoted_key_at
quoted_key_again key rest run = rw (run_again is_key_byte key (39 ∷ rest) run refl) refl

bare_key : (key rest : List ℕ) → IsRun is_key_byte key → braced_key_at (key ++ (125 ∷ rest)) ≡ Some (Some key, rest)
unfolding braced_key_at
bare_key key rest run = rw (key_text_again key (125 ∷ rest) run refl) refl

quoted_key : (key rest : List ℕ) → IsRun is_key_byte key → braced_key_at (39 ∷ (key ++ (39 ∷ (125 ∷ rest)))) ≡ Some (Some key, rest)
unfolding braced_key_at
quoted_key key rest run = rw (quoted_key_again key (125 ∷ rest) run) refl

key_again : (key : Option (List ℕ)) (piece rest : List ℕ) → IsKey key piece → key_at rest ≡ Some (None, rest) → key_at (piece ++ rest) ≡ Some (key, rest)
key_again None piece rest is none = rw is none
key_again (Some key) piece rest (run, inl is) none =
    let regrouped : piece ++ rest ≡ 123 ∷ (key ++ (125 ∷ rest)) = rw is (simp append_assoc) in
    rw regrouped (bare_key key rest run)
key_again (Some key) piece rest (run, inr is) none =
    let regrouped : piece ++ rest ≡ 123 ∷ (39 ∷ (key ++ (39 ∷ (125 ∷ rest)))) = rw is (simp append_assoc) in
    rw regrouped (quoted_key key rest run)

bare_default : (bytes rest : List ℕ) → IsRun is_default_byte bytes → barred_default_at (bytes ++ (41 ∷ rest)) ≡ Some (Some bytes, 41 ∷ rest)
unfolding barred_default_at
bare_default bytes rest run = rw (default_text_again bytes (41 ∷ rest) run refl) refl

quoted_default : (bytes rest : List ℕ) → AllPass is_quoted_byte bytes → barred_default_at (39 ∷ (bytes ++ (39 ∷ rest))) ≡ Some (Some bytes, rest)
unfolding barred_default_at
quoted_default bytes rest all = rw (cut_again bytes rest all) refl

default_again : (default : Option (List ℕ)) (piece rest : List ℕ) → IsDefault default piece → default_at (piece ++ (41 ∷ rest)) ≡ Some (default, 41 ∷ rest)
default_again None piece rest is = rw is refl
default_again (Some bytes) piece rest (inl (run, is)) = rw is (bare_default bytes rest run)
default_again (Some bytes) piece rest (inr (all, is)) =
    let regrouped : piece ++ (41 ∷ rest) ≡ 124 ∷ (39 ∷ (bytes ++ (39 ∷ (41 ∷ rest)))) = rw is (simp append_assoc) in
    rw regrouped (quoted_default bytes (41 ∷ rest) all)

-- a default, or the end, ends a name and is no key
pub record Ends (text : List ℕ) : Type 0 where
  pub name : prefix_len is_name_byte text ≡ 0
  pub key : key_at text ≡ Some (None, text)

default_ends : (default : Option (List ℕ)) (piece rest : List ℕ) → IsDefault default piece → Ends (piece ++ (41 ∷ rest))
default_ends None piece rest is = rw is record { name = refl; key = refl }
default_ends (Some bytes) piece rest (inl (run, is)) = rw is record { name = refl; key = refl }
default_ends (Some bytes) piece rest (inr (all, is)) = rw is record { name = refl; key = refl }

key_ends : (key : Option (List ℕ)) (piece rest : List ℕ) → IsKey key piece → prefix_len is_name_byte rest ≡ 0 → prefix_len is_name_byte (piece ++ rest) ≡ 0
key_ends None piece rest is none = rw is none
key_ends (Some key) piece rest (run, inl is) none = rw is refl
key_ends (Some key) piece rest (run, inr is) none = rw is refl

body_again : (name key default rest : List ℕ) (k d : Option (List ℕ)) → IsRun is_name_byte name → IsKey k key → IsDefault d default
    → body_at (name ++ (key ++ (default ++ (41 ∷ rest)))) ≡ Some (record { name = name; key = k; default = d }, rest)
unfolding body_at
body_again name key default rest k d run is_key is_default =
    let ends = default_ends d default rest is_default in
    let stop = key_ends k key (default ++ (41 ∷ rest)) is_key ends.name in
    rw (run_again is_name_byte name (key ++ (default ++ (41 ∷ rest))) run stop, key_again k key (default ++ (41 ∷ rest)) is_key ends.key, default_again d default rest is_default) refl

-- what is spelled as a reference is read as one, whatever follows it
pub reference_again : (piece : List ℕ) (r : Reference) (rest : List ℕ) → IsReference piece r → reference_at (piece ++ rest) ≡ Some (r, rest)
unfolding reference_at
reference_again piece r rest is =
    let regrouped : piece ++ rest ≡ 36 ∷ (40 ∷ (is.name ++ (is.key ++ (is.default ++ (41 ∷ rest))))) = rw is.whole (simp append_assoc) in
    let read = body_again is.name is.key is.default rest r.key r.default is.is_name is.is_key is.is_default in
    rw (regrouped, read, is.names) refl

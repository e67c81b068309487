-- Runs of bytes that pass a test.
use Rattle.std.proofs.Common.{◌≡◌, ◌⊎◌, inl, inr, ℕ, zero, suc, ◌+◌, ◌<◌, ◌≤◌, Bool, true, false, ◌||◌, cond, List, [], ◌∷◌, ◌++◌, length, get_or, take, drop, refl, sym, ◌∙◌, ap, subst, arith}
use Rattle.std.specs.List.{AllPass, prefix_len}
use Rattle.std.proofs.lemmas.List.{take_all, drop_at}
use Rattle.edge_types.specs.WhiteSpace.{is_ws, ws_len, after_ws}
use Rattle.esi_scanner.specs.Bytes.{is_element_byte, is_attribute_byte, is_quote}

pub head-pass : (p : ℕ → Bool) (x : ℕ) (xs : List ℕ) → AllPass p (x ∷ xs) → p x ≡ true
head-pass p x xs all = all 0 x (omega arith)

pub tail-pass : (p : ℕ → Bool) (x : ℕ) (xs : List ℕ) → AllPass p (x ∷ xs) → AllPass p xs
tail-pass p x xs all = λ k d h. all (suc k) d (omega arith)

pub none-pass : (p : ℕ → Bool) → AllPass p []
none-pass p = λ k d h. absurd (omega arith)

pub more-pass : (p : ℕ → Bool) (x : ℕ) (xs : List ℕ) → p x ≡ true → AllPass p xs → AllPass p (x ∷ xs)
more-pass p x xs here later = by_index
  where
    by_index : (k : ℕ) (d : ℕ) → k < length (x ∷ xs) → p (get_or (x ∷ xs) k d) ≡ true
    by_index zero d h = here
    by_index (suc k) d h = later k d (omega arith)

-- a run and then what stops it
pub run-append : (p : ℕ → Bool) (xs ys : List ℕ) → AllPass p xs → prefix_len p ys ≡ 0 → prefix_len p (xs ++ ys) ≡ length xs
run-append p [] ys all stops = stops
run-append p (x ∷ xs) ys all stops =
    let later = run-append p xs ys (tail-pass p x xs all) stops in
    rw (head-pass p x xs all, later) (omega arith)

pub run-within : (p : ℕ → Bool) (text : List ℕ) → prefix_len p text ≤ length text
run-within p [] = omega arith
run-within p (b ∷ bs) = by_test (p b) (run-within p bs)
  where
    by_test : (t : Bool) → prefix_len p bs ≤ length bs → cond t (1 + prefix_len p bs) 0 ≤ suc (length bs)
    by_test true later = omega (arith, later)
    by_test false later = omega arith

-- the run at the front passes
pub run-pass : (p : ℕ → Bool) (text : List ℕ) → AllPass p (take (prefix_len p text) text)
run-pass p [] = none-pass p
run-pass p (b ∷ bs) = by_test (p b) refl (run-pass p bs)
  where
    by_test : (t : Bool) → p b ≡ t → AllPass p (take (prefix_len p bs) bs) → AllPass p (take (cond t (1 + prefix_len p bs) 0) (b ∷ bs))
    by_test true e later =
        let n : 1 + prefix_len p bs ≡ suc (prefix_len p bs) = omega arith in
        rw n (more-pass p b (take (prefix_len p bs) bs) e later)
    by_test false e later = none-pass p

-- white space, and what follows it
pub after_ws-append : (ws rest : List ℕ) → AllPass is_ws ws → ws_len rest ≡ 0 → after_ws (ws ++ rest) ≡ rest
after_ws-append ws rest all stops = drop_at ws rest (ws_len (ws ++ rest)) (sym (run-append is_ws ws rest all stops))

-- kinds of bytes don't meet
or_cases : (a b : Bool) → (a || b) ≡ true → (a ≡ true) ⊎ (b ≡ true)
or_cases true b e = inl refl
or_cases false b e = inr e

ws_cases : (b : ℕ) → is_ws b ≡ true → (b ≡ 32) ⊎ ((b ≡ 9) ⊎ ((b ≡ 13) ⊎ (b ≡ 10)))
ws_cases b e = grind arith

pub ws-no_attribute : (b : ℕ) → is_ws b ≡ true → is_attribute_byte b ≡ false
ws-no_attribute b e =
    elim (ws_cases b e) [ inl is ↦ rw is refl | inr more ↦ elim more [ inl is ↦ rw is refl | inr last ↦ elim last [ inl is ↦ rw is refl | inr is ↦ rw is refl ] ] ]

pub ws-no_element : (b : ℕ) → is_ws b ≡ true → is_element_byte b ≡ false
ws-no_element b e = rw e refl

false_or_true : (b c : Bool) → (c ≡ true → b ≡ false) → b ≡ true → c ≡ false
false_or_true b true h e = absurd (cc (h refl))
false_or_true b false h e = refl

pub attribute-no_ws : (b : ℕ) → is_attribute_byte b ≡ true → is_ws b ≡ false
attribute-no_ws b e = false_or_true (is_attribute_byte b) (is_ws b) (ws-no_attribute b) e

pub quote-no_ws : (b : ℕ) → is_quote b ≡ true → is_ws b ≡ false
quote-no_ws b e =
    elim (quote_cases b e) [ inl is ↦ rw is refl | inr is ↦ rw is refl ]
  where
    quote_cases : (c : ℕ) → is_quote c ≡ true → (c ≡ 34) ⊎ (c ≡ 39)
    quote_cases c f = grind arith

-- a byte that fails stops a run
pub stop-at : (p : ℕ → Bool) (b : ℕ) (bs : List ℕ) → p b ≡ false → prefix_len p (b ∷ bs) ≡ 0
stop-at p b bs e = rw e refl

-- what begins with bytes that pass another test stops a run
pub stop-run : (p q : ℕ → Bool) (xs ys : List ℕ) → ((b : ℕ) → q b ≡ true → p b ≡ false) → AllPass q xs → prefix_len p ys ≡ 0 → prefix_len p (xs ++ ys) ≡ 0
stop-run p q [] ys apart all stops = stops
stop-run p q (x ∷ xs) ys apart all stops = stop-at p x (xs ++ ys) (apart x (head-pass q x xs all))

-- the run is cut off, and what follows it doesn't begin with one more
pub stop-after : (p : ℕ → Bool) (text : List ℕ) → prefix_len p (drop (prefix_len p text) text) ≡ 0
stop-after p [] = refl
stop-after p (b ∷ bs) = by_test (p b) refl (stop-after p bs)
  where
    by_test : (t : Bool) → p b ≡ t → prefix_len p (drop (prefix_len p bs) bs) ≡ 0 → prefix_len p (drop (cond t (1 + prefix_len p bs) 0) (b ∷ bs)) ≡ 0
    by_test true e later =
        let n : 1 + prefix_len p bs ≡ suc (prefix_len p bs) = omega arith in
        rw n later
    by_test false e later = stop-at p b bs e

pub stopped : (p : ℕ → Bool) (b : ℕ) (bs : List ℕ) → prefix_len p (b ∷ bs) ≡ 0 → p b ≡ false
stopped p b bs e = by_test (p b) refl e
  where
    by_test : (t : Bool) → p b ≡ t → cond t (1 + prefix_len p bs) 0 ≡ 0 → p b ≡ false
    by_test true is f = absurd (omega (arith, f))
    by_test false is f = is

pub all-from-run : (p : ℕ → Bool) (xs : List ℕ) → prefix_len p xs ≡ length xs → AllPass p xs
all-from-run p xs e = subst (λ (ys : List ℕ). AllPass p ys) (ap (λ n. take n xs) e ∙ take_all (length xs) xs (omega arith)) (run-pass p xs)

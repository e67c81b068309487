-- How many bytes stand before a place that passes a test.
use Rattle.std.proofs.Common.{◌≡◌, ℕ, zero, suc, ◌+◌, ◌<◌, ◌≤◌, Bool, true, false, ◌||◌, ◌==◌, nat_eq, cond, List, [], ◌∷◌, length, get_or, take, drop, Option, Some, None, unwrap_or, refl, ◌∙◌, ap, codes, bytes_eq, arith}
use Rattle.std.proofs.lemmas.Bool.{false_from_ne_true}
use Rattle.std.proofs.lemmas.List.{drop_more, drop_all, drop-drop, length-drop, length-take}
use Rattle.memchr.specs.Find.{IsFirstByte, is_byte, is_byte2, FindsNeedle, OccursAt}
use Rattle.memchr.proofs.lemmas.MatchLemmas.{OccursAt-part, OccursAt-from_part}
use Rattle.esi_scanner.specs.Bytes.{begins_with, bytes_before}
use Rattle.esi_scanner.specs.Tag.{removed_len}
use Rattle.esi_scanner.specs.Scan.{begins_opener, begins_mark, mark_at}
use Rattle.esi_scanner.proofs.ByteLemmas.{nat_eq-flip, bytes_eq-flip, begins-part, begins-from_part}

-- places that fail are passed over
pub before-past : (test : List ℕ → Bool) (text : List ℕ) (n : ℕ) → n ≤ length text → ((i : ℕ) → i < n → test (drop i text) ≡ false) → bytes_before test text ≡ n + bytes_before test (drop n text)
before-past test text zero fits fail = omega arith
before-past test [] (suc n) fits fail = absurd (omega arith)
before-past test (b ∷ bs) (suc n) fits fail =
    let later = before-past test bs n (omega arith) (λ i h. fail (suc i) (omega arith)) in
    rw (fail 0 (omega arith)) (omega arith)

pub before-here : (test : List ℕ → Bool) (text : List ℕ) → 0 < length text → test text ≡ true → bytes_before test text ≡ 0
before-here test [] some passes = absurd (omega arith)
before-here test (b ∷ bs) some passes = rw passes refl

pub before-fails : (test : List ℕ → Bool) (text : List ℕ) → 0 < length text → test text ≡ false → bytes_before test text ≡ bytes_before test (drop 1 text) + 1
before-fails test [] some fails = absurd (omega arith)
before-fails test (b ∷ bs) some fails = rw fails refl

-- what a search for bytes passes over
below : (test : ℕ → Bool) (text : List ℕ) (found : Option ℕ) → IsFirstByte test text found → (i : ℕ) → i < unwrap_or found (length text) → (i < length text) × (test (get_or text i 0) ≡ false)
below test text None nowhere i h = (h, false_from_ne_true _ (nowhere i (omega arith) h))
below test text (Some k) (first, here) i h = (omega (arith, first.high), false_from_ne_true _ (first.before i (omega arith) h))

or_parts : (a b : Bool) → (a || b) ≡ false → (a ≡ false) × (b ≡ false)
or_parts true b e = absurd (cc)
or_parts false b e = (refl, e)

flipped : (m n : ℕ) → (m == n) ≡ false → nat_eq n m ≡ false
flipped m n e = nat_eq-flip n m ∙ e

-- only `<` begins an opener outside a block
other_outside : (b : ℕ) (bs : List ℕ) → (b == 60) ≡ false → begins_opener false (b ∷ bs) ≡ false
other_outside b bs e = rw (flipped b 60 e) refl

-- `<` and `-` begin one inside
other_inside : (b : ℕ) (bs : List ℕ) → (b == 60) ≡ false → (b == 45) ≡ false → begins_opener true (b ∷ bs) ≡ false
other_inside b bs e f = rw (flipped b 60 e, flipped b 45 f) refl

pub plain-outside : (text : List ℕ) (found : Option ℕ) → IsFirstByte (is_byte 60) text found → (i : ℕ) → i < unwrap_or found (length text) → begins_opener false (drop i text) ≡ false
plain-outside text found first i h =
    let at = below (is_byte 60) text found first i h in
    rw (drop_more text i 0 at.0) (other_outside (get_or text i 0) (drop (i + 1) text) at.1)

pub plain-inside : (text : List ℕ) (found : Option ℕ) → IsFirstByte (is_byte2 60 45) text found → (i : ℕ) → i < unwrap_or found (length text) → begins_opener true (drop i text) ≡ false
plain-inside text found first i h =
    let at = below (is_byte2 60 45) text found first i h in
    let parts = or_parts _ _ at.1 in
    rw (drop_more text i 0 at.0) (other_inside (get_or text i 0) (drop (i + 1) text) parts.0 parts.1)

-- one place more that fails, and those that are passed over behind it
pub before-more : (test : List ℕ → Bool) (text : List ℕ) (len more : ℕ) → len < length text → test (drop len text) ≡ false → more ≤ length (drop 1 (drop len text)) → ((i : ℕ) → i < more → test (drop i (drop 1 (drop len text))) ≡ false)
    → bytes_before test text ≡ len + bytes_before test (drop len text) → bytes_before test text ≡ len + (1 + more) + bytes_before test (drop (len + (1 + more)) text)
before-more test text len more within fails fits fail passed =
    let past = before-past test (drop 1 (drop len text)) more fits fail in
    let here = before-fails test (drop len text) (omega (arith, length-drop len text)) fails in
    let cut : drop more (drop 1 (drop len text)) ≡ drop (len + (1 + more)) text = drop-drop more 1 (drop len text) ∙ drop-drop (1 + more) len text in
    omega (arith, past, here, passed, ap (bytes_before test) cut)

-- the bytes stand at the front of what follows a place where they occur
occurs : (text bytes : List ℕ) (i : ℕ) → 0 < length bytes → begins_with (drop i text) bytes ≡ true → OccursAt text bytes i
occurs text bytes i some is =
    let part = begins-part (drop i text) bytes is in
    OccursAt-from_part text bytes i (omega (arith, ap length part, length-take (length bytes) (drop i text), length-drop i text)) part

begins : (text bytes : List ℕ) (i : ℕ) → OccursAt text bytes i → begins_with (drop i text) bytes ≡ true
begins text bytes i is = begins-from_part (drop i text) bytes (OccursAt-part text bytes i is)

before-search : (text bytes : List ℕ) (found : Option ℕ) → 0 < length bytes → FindsNeedle text bytes 0 found → unwrap_or found (length text) ≡ bytes_before (λ rest. begins_with rest bytes) text
before-search text bytes None some nowhere =
    let past = before-past (λ rest. begins_with rest bytes) text (length text) (omega arith) (λ i h. false_from_ne_true _ (λ is. nowhere i (omega arith) (omega arith) (occurs text bytes i some is))) in
    let end : bytes_before (λ rest. begins_with rest bytes) (drop (length text) text) ≡ 0 = rw (drop_all (length text) text (omega arith)) refl in
    omega (arith, past, end)
before-search text bytes (Some k) some (first, here) =
    let past = before-past (λ rest. begins_with rest bytes) text k (omega (arith, here.fits)) (λ i h. false_from_ne_true _ (λ is. first.before i (omega arith) h (occurs text bytes i some is))) in
    let end = before-here (λ rest. begins_with rest bytes) (drop k text) (omega (arith, here.fits, length-drop k text)) (begins text bytes k here) in
    omega (arith, past, end)

pub removed_search : (text : List ℕ) (found : Option ℕ) → FindsNeedle text (codes "</esi:remove>") 0 found → unwrap_or found (length text) ≡ removed_len text
unfolding removed_len
removed_search text found is = before-search text (codes "</esi:remove>") found (omega arith) is

not_some : {A : Type 0} (b : Bool) (x : A) → cond b (Some x) None ≡ None → b ≡ false
not_some true x e = absurd (cc)
not_some false x e = refl

no-mark : (block : Bool) (text : List ℕ) → mark_at block text ≡ None → begins_mark block text ≡ false
unfolding mark_at
no-mark true text none = not_some _ _ none
no-mark false text none = not_some _ _ none

-- where neither a tag nor a mark begins, no opener stands
pub no-opener : (block : Bool) (text : List ℕ) → bytes_eq (take 5 text) (codes "<esi:") ≡ false → bytes_eq (take 6 text) (codes "</esi:") ≡ false → mark_at block text ≡ None → begins_opener block text ≡ false
no-opener block text no_open no_close none =
    let a : begins_with text (codes "<esi:") ≡ false = bytes_eq-flip (codes "<esi:") (take 5 text) ∙ no_open in
    let b : begins_with text (codes "</esi:") ≡ false = bytes_eq-flip (codes "</esi:") (take 6 text) ∙ no_close in
    rw (a, b, no-mark block text none) refl

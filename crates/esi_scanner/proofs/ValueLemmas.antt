-- What is decoded is spelled so, and what is spelled so is decoded.
use Rattle.std.proofs.Common.{◌≡◌, inl, inr, ℕ, zero, suc, ◌<◌, ◌≤◌, Bool, true, false, cond, List, [], ◌∷◌, ◌++◌, length, drop, find, Option, Some, None, refl, sym, ◌∙◌, ap, arith}
use Rattle.std.proofs.lemmas.List.{take-append-drop, drop_at, take_at, nil_from_length}
use Rattle.esi_scanner.specs.declared.entity.Entity.{Entity}
use Rattle.esi_scanner.specs.declared.entity.Entity.TheVariants.{Amp, Lt, Gt, Quot, Apos}
use Rattle.esi_scanner.specs.Bytes.{begins_with, after_bytes, ◌>>=◌}
use Rattle.esi_scanner.specs.Entities.{entity_text, entity_byte, entity_or_byte, entities, entity_at, letter_at, then_letters, letters_of, decoded}
use Rattle.esi_scanner.specs.Spelling.{NoEntity, IsLetter, SpellsValue}
use Rattle.esi_scanner.proofs.ByteLemmas.{begins-part, begins-from_part}
use Rattle.esi_scanner.proofs.EntityLemmas.{letters-some, letters-none}

pub some-same : {A : Type 0} {x y : A} → Some x ≡ Some y → x ≡ y
some-same e = cc

pub bind-some : {A B : Type 0} (o : Option A) (f : A → Option B) (y : B) → (o >>= f) ≡ Some y → (x : A) × (o ≡ Some x) × (f x ≡ Some y)
bind-some None f y e = absurd (cc)
bind-some (Some x) f y e = (x, refl, e)

not-none : {A B : Type 0} (o : Option A) (x : A) (f : A → B) → o ≡ Some x → (o >>= λ y. Some (f y)) ≡ None → ⊥
not-none None x f is e = cc
not-none (Some y) x f is e = cc

pub list-same : (a b : ℕ) (xs ys : List ℕ) → a ≡ b → xs ≡ ys → a ∷ xs ≡ b ∷ ys
list-same a b xs ys e f = cc

-- what is found passes
pub find-pass : {A : Type 0} (p : A → Bool) (xs : List A) (x : A) → find p xs ≡ Some x → p x ≡ true
find-pass p [] x e = absurd (cc)
find-pass p (y ∷ ys) x e = by_test (p y) refl e (λ f. find-pass p ys x f)
  where
    by_test : (t : Bool) → p y ≡ t → cond t (Some y) (find p ys) ≡ Some x → (find p ys ≡ Some x → p x ≡ true) → p x ≡ true
    by_test true is f later = let same : y ≡ x = cc in ap p (sym same) ∙ is
    by_test false is f later = later f

-- bytes at the front, and what follows them
pub begins-cut : (text bytes : List ℕ) → begins_with text bytes ≡ true → text ≡ bytes ++ drop (length bytes) text
begins-cut text bytes is =
    sym (take-append-drop (length bytes) text) ∙ ap (λ front. front ++ drop (length bytes) text) (begins-part text bytes is)

pub begins-append : (bytes rest : List ℕ) → begins_with (bytes ++ rest) bytes ≡ true
begins-append bytes rest = begins-from_part (bytes ++ rest) bytes (take_at bytes rest (length bytes) refl)

pub after-append : (bytes rest : List ℕ) → after_bytes (bytes ++ rest) bytes ≡ Some rest
after-append bytes rest = rw (begins-append bytes rest, drop_at bytes rest (length bytes) refl) refl

pub after-cut : (text bytes rest : List ℕ) → after_bytes text bytes ≡ Some rest → text ≡ bytes ++ rest
after-cut text bytes rest e = by_test (begins_with text bytes) refl e
  where
    by_test : (t : Bool) → begins_with text bytes ≡ t → cond t (Some (drop (length bytes) text)) None ≡ Some rest → text ≡ bytes ++ rest
    by_test true is f = let same : drop (length bytes) text ≡ rest = cc in begins-cut text bytes is ∙ ap (λ xs. bytes ++ xs) same
    by_test false is f = absurd (cc)

entity-text : (e : Entity) (rest : List ℕ) → entity_at (entity_text e ++ rest) ≡ Some e
unfolding entity_at
entity-text Amp rest = refl
entity-text Lt rest = refl
entity-text Gt rest = refl
entity-text Quot rest = refl
entity-text Apos rest = refl

entity-some : (raw : List ℕ) (e : Entity) → entity_at raw ≡ Some e → raw ≡ entity_text e ++ drop (length (entity_text e)) raw
unfolding entity_at
entity-some raw e is = begins-cut raw (entity_text e) (find-pass (λ entity. begins_with raw (entity_text entity)) entities e is)

entity-none : (raw : List ℕ) → NoEntity raw → entity_at raw ≡ None
entity-none raw absent = by_answer (entity_at raw) refl
  where
    by_answer : (o : Option Entity) → entity_at raw ≡ o → entity_at raw ≡ None
    by_answer None is = is
    by_answer (Some e) is = absurd (absent e _ (entity-some raw e is))

no-entity : (raw : List ℕ) → entity_at raw ≡ None → NoEntity raw
no-entity raw none e rest is =
    let found : entity_at raw ≡ Some e = ap entity_at is ∙ entity-text e rest in
    cc

none-left : letter_at [] ≡ None
unfolding letter_at entity_at
none-left = refl

letter-spelled : (raw : List ℕ) (v : ℕ) (rest : List ℕ) → IsLetter raw v rest → letter_at raw ≡ Some (v, rest)
unfolding letter_at
letter-spelled raw v rest (inl (e, is, byte)) =
    rw (is, entity-text e rest, after-append (entity_text e) rest, byte) refl
letter-spelled raw v rest (inr (is, absent)) =
    rw (entity-none raw absent, is) refl

by_answer : (raw : List ℕ) (v : ℕ) (rest : List ℕ) (o : Option Entity) → entity_at raw ≡ o → entity_or_byte raw o ≡ Some (v, rest) → IsLetter raw v rest
by_answer [] v rest None is f = absurd (cc)
by_answer (b ∷ bs) v rest None is f =
    let same = some-same f in
    inr (list-same b v bs rest (ap (λ (p : ℕ × List ℕ). p.0) same) (ap (λ (p : ℕ × List ℕ). p.1) same), no-entity (b ∷ bs) is)
by_answer raw v rest (Some e) is f =
    let (after, cut, same) = bind-some (after_bytes raw (entity_text e)) (λ x. Some (entity_byte e, x)) (v, rest) f in
    let both = some-same same in
    inl (e, after-cut raw (entity_text e) after cut ∙ ap (λ xs. entity_text e ++ xs) (ap (λ (p : ℕ × List ℕ). p.1) both), sym (ap (λ (p : ℕ × List ℕ). p.0) both))

letter-found : (raw : List ℕ) (v : ℕ) (rest : List ℕ) → letter_at raw ≡ Some (v, rest) → IsLetter raw v rest
unfolding letter_at
letter-found raw v rest found = by_answer raw v rest (entity_at raw) refl found

letter-shorter : (raw : List ℕ) (v : ℕ) (rest : List ℕ) → IsLetter raw v rest → length rest < length raw
letter-shorter raw v rest (inl (e, is, byte)) = by_entity e is
  where
    by_entity : (f : Entity) → raw ≡ entity_text f ++ rest → length rest < length raw
    by_entity Amp g = rw g (omega arith)
    by_entity Lt g = rw g (omega arith)
    by_entity Gt g = rw g (omega arith)
    by_entity Quot g = rw g (omega arith)
    by_entity Apos g = rw g (omega arith)
letter-shorter raw v rest (inr (is, absent)) = rw is (omega arith)

no-letter : (raw : List ℕ) → letter_at raw ≡ None → raw ≡ []
unfolding letter_at
no-letter [] is = refl
no-letter (b ∷ bs) is = by_entity (entity_at (b ∷ bs)) refl is
  where
    by_entity : (o : Option Entity) → entity_at (b ∷ bs) ≡ o → entity_or_byte (b ∷ bs) o ≡ None → b ∷ bs ≡ []
    by_entity None found f = absurd (cc)
    by_entity (Some e) found f =
        let cut = ap (λ text. after_bytes text (entity_text e)) (entity-some (b ∷ bs) e found) ∙ after-append (entity_text e) _ in
        absurd (not-none (after_bytes (b ∷ bs) (entity_text e)) (drop (length (entity_text e)) (b ∷ bs)) (λ x. (entity_byte e, x)) cut f)

letters-spelled : (n : ℕ) (raw value : List ℕ) → length raw ≤ n → SpellsValue raw value → letters_of n raw ≡ value
letters-spelled n raw [] fits is = rw is (letters-none n [] none-left)
letters-spelled zero raw (v ∷ value) fits (rest, letter, others) = absurd (omega (arith, letter-shorter raw v rest letter))
letters-spelled (suc n) raw (v ∷ value) fits (rest, letter, others) =
    let shorter = letter-shorter raw v rest letter in
    letters-some n raw rest v (letter-spelled raw v rest letter) ∙ ap (λ vs. v ∷ vs) (letters-spelled n rest value (omega arith) others)

-- what spells a value is decoded to it
pub decoded-spelled : (raw value : List ℕ) → SpellsValue raw value → decoded raw ≡ value
unfolding decoded
decoded-spelled raw value is = letters-spelled (length raw) raw value (omega arith) is

letters-found : (n : ℕ) (raw : List ℕ) → length raw ≤ n → SpellsValue raw (letters_of n raw)
unfolding letters_of
letters-found zero raw fits = nil_from_length raw (omega arith)
letters-found (suc n) raw fits = by_letter n raw fits (letter_at raw) refl (λ rest small. letters-found n rest small)
  where
    by_letter : (n : ℕ) (raw : List ℕ) → length raw ≤ suc n → (o : Option (ℕ × List ℕ)) → letter_at raw ≡ o → ((rest : List ℕ) → length rest ≤ n → SpellsValue rest (letters_of n rest)) → SpellsValue raw (then_letters (λ rest. letters_of n rest) o)
    by_letter n raw fits None is later = no-letter raw is
    by_letter n raw fits (Some (v, rest)) is later =
        let letter = letter-found raw v rest is in
        (rest, letter, later rest (omega (arith, letter-shorter raw v rest letter)))

-- a value is spelled by what it was decoded from
pub decoded-found : (raw : List ℕ) → SpellsValue raw (decoded raw)
unfolding decoded
decoded-found raw = letters-found (length raw) raw (omega arith)

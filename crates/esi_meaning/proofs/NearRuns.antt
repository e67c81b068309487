-- Runs that differ only behind a leg to which two tables reply differently.
use Rattle.std.proofs.Common.{◌≡◌, ◌⊎◌, ℕ, zero, suc, ◌+◌, ◌-◌, ◌<◌, ◌≤◌, List, [], ◌∷◌, ◌++◌, length, take, Option, Some, None, refl, sym, ◌∙◌, ap, subst, inl, inr, arith}
use Rattle.std.proofs.Math.Seq.{take-append-add}
use Rattle.std.proofs.lemmas.List.{take-append-le, length-take, length-append}
use Rattle.edge_types.specs.Answered.{Answered}
use Rattle.esi_meaning.specs.Run.{Leg, Asks, AsksNobody, Run, tries, followed, in_turn, behind, with_front, or_else, instead}
use Rattle.esi_meaning.specs.Laws.{SameReply}

-- the tables reply alike to a leg
abbrev pub LegSame : List Answered → List Answered → Leg → Type 0
LegSame S T (Asks n w) = SameReply S T w
LegSame S T AsksNobody = Unit {0}

-- the tables reply alike to the first k legs
unfoldable pub Alike : List Answered → List Answered → ℕ → List Leg → Type 0
Alike S T zero legs = Unit {0}
Alike S T (suc k) [] = Unit {0}
Alike S T (suc k) (l ∷ legs) = LegSame S T l × Alike S T k legs

pub record Close (k : ℕ) (a b : Run) : Type 0 where
  pub ahead : take (suc k) a.legs ≡ take (suc k) b.legs
  pub whole : length a.legs ≤ k → a ≡ b

-- where the tables reply alike to the first k legs of a, b tries these too, and one more alike, and is a where a has
-- no more
pub record Near (S T : List Answered) (a b : Run) : Type 0 where
  pub at : (k : ℕ) → Alike S T k a.legs → Close k a b

pub near_refl : {S T : List Answered} {a : Run} → Near S T a a
near_refl = record { at = λ k h. record { ahead = refl; whole = λ _. refl } }

alike-front : (S T : List Answered) (k : ℕ) (xs ys : List Leg) → Alike S T k (xs ++ ys) → Alike S T k xs
unfolding Alike
alike-front S T zero xs ys h = tt
alike-front S T (suc k) [] ys h = tt
alike-front S T (suc k) (x ∷ xs) ys h = (h.0, alike-front S T k xs ys h.1)

alike-back : (S T : List Answered) (k : ℕ) (xs ys : List Leg) (j : ℕ) → length xs + j ≡ k → Alike S T k (xs ++ ys) → Alike S T j ys
unfolding Alike
alike-back S T k [] ys j e h = let same : j ≡ k = omega arith in rw same h
alike-back S T zero (x ∷ xs) ys j e h = absurd (omega arith)
alike-back S T (suc k) (x ∷ xs) ys j e h = alike-back S T k xs ys j (omega arith) h.1

take-behind : (xs ys zs : List Leg) (k j : ℕ) → length xs + j ≡ k → take (suc j) ys ≡ take (suc j) zs → take (suc k) (xs ++ ys) ≡ take (suc k) (xs ++ zs)
take-behind xs ys zs k j e same =
    let long : suc k ≡ length xs + suc j = omega arith in
    rw (long, take-append-add xs ys (suc j), take-append-add xs zs (suc j), same) refl

take-before : (xs ys vs ws : List Leg) (k : ℕ) → k < length xs → take (suc k) xs ≡ take (suc k) ys → take (suc k) (xs ++ vs) ≡ take (suc k) (ys ++ ws)
take-before xs ys vs ws k long same =
    let as_long = ap length same in
    let short : suc k ≤ length ys = omega (arith, length-take (suc k) xs, length-take (suc k) ys) in
    let here : suc k ≤ length xs = omega arith in
    take-append-le (suc k) xs vs here ∙ same ∙ sym (take-append-le (suc k) ys ws short)

pub le_or_lt : (m n : ℕ) → (m ≤ n) ⊎ (n < m)
le_or_lt zero n = inl (omega arith)
le_or_lt (suc m) zero = inr (omega arith)
le_or_lt (suc m) (suc n) = elim (le_or_lt m n) [ inl h ↦ inl (omega arith) | inr h ↦ inr (omega arith) ]

module _ {S T : List Answered} (a b : Run) (f g : Option (List ℕ) → Run) (na : Near S T a b) (nf : (o : Option (List ℕ)) → Near S T (f o) (g o)) where
  same_front : (k j : ℕ) → length a.legs + j ≡ k → a ≡ b → Close j (f a.text) (g a.text) → Close k (followed a f) (followed b g)
  same_front k j e same c =
      let P : Run → Type 0 = λ x. Close k (followed a f) (followed x g) in
      subst P same (record {
        ahead = take-behind a.legs (f a.text).legs (g a.text).legs k j e c.ahead;
        whole = λ short. ap (λ (x : Run). record { legs = a.legs ++ x.legs; text = x.text }) (c.whole (omega (arith, length-append a.legs (f a.text).legs)));
      })

  other_front : (k : ℕ) → k < length a.legs → Close k a b → Close k (followed a f) (followed b g)
  other_front k long c = record {
    ahead = take-before a.legs b.legs (f a.text).legs (g b.text).legs k long c.ahead;
    whole = λ short. absurd (omega (arith, length-append a.legs (f a.text).legs));
  }

  at_each : (k : ℕ) → Alike S T k (a.legs ++ (f a.text).legs) → (length a.legs ≤ k) ⊎ (k < length a.legs) → Close k (followed a f) (followed b g)
  at_each k h (inl short) =
      let e : length a.legs + (k - length a.legs) ≡ k = omega arith in
      same_front k (k - length a.legs) e ((na.at k (alike-front S T k a.legs (f a.text).legs h)).whole short)
      ((nf a.text).at (k - length a.legs) (alike-back S T k a.legs (f a.text).legs (k - length a.legs) e h))
  at_each k h (inr long) = other_front k long (na.at k (alike-front S T k a.legs (f a.text).legs h))

  pub near-followed : Near S T (followed a f) (followed b g)
  near-followed = record { at = λ k h. at_each k h (le_or_lt (length a.legs) k) }

-- the same legs, and a text that each leads to alike
with_text : (h : Option (List ℕ) → Option (List ℕ)) → Run → Run
with_text h a = record { legs = a.legs; text = h a.text }

near-behind : {S T : List Answered} {c d : Run} → Near S T c d → (o : Option (List ℕ)) → Near S T (behind c o) (behind d o)
near-behind n None = near_refl
near-behind n (Some front) = record {
  at = λ k h. record {
    ahead = (n.at k h).ahead;
    whole = λ short. ap (λ (x : Run). record { legs = x.legs; text = with_front front x.text }) ((n.at k h).whole short);
  };
}

near-instead : {S T : List Answered} {c d : Run} → Near S T c d → (o : Option (List ℕ)) → Near S T (instead c o) (instead d o)
near-instead n None = n
near-instead n (Some text) = near_refl

pub near-in_turn : {S T : List Answered} {a b c d : Run} → Near S T a b → Near S T c d → Near S T (in_turn a c) (in_turn b d)
near-in_turn {a = a} {b = b} {c = c} {d = d} na nc = near-followed a b (behind c) (behind d) na (near-behind nc)

pub near-or_else : {S T : List Answered} {a b c d : Run} → Near S T a b → Near S T c d → Near S T (or_else a c) (or_else b d)
near-or_else {a = a} {b = b} {c = c} {d = d} na nc = near-followed a b (instead c) (instead d) na (near-instead nc)

pub near-tries : {S T : List Answered} (l : Leg) {a b : Run} → (LegSame S T l → Near S T a b) → Near S T (tries l a) (tries l b)
unfolding Alike
near-tries {S} {T} l {a} {b} n = record { at = go }
  where
    go : (k : ℕ) → Alike S T k (l ∷ a.legs) → Close k (tries l a) (tries l b)
    go zero h = record { ahead = refl; whole = λ short. absurd (omega arith) }
    go (suc k) h =
        let c = (n h.0).at k h.1 in
        record {
          ahead = ap (λ (xs : List Leg). l ∷ xs) c.ahead;
          whole = λ short. ap (tries l) (c.whole (omega arith));
        }

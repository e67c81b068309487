-- Tokens that are read backwards.
use Rattle.std.proofs.Common.{◌≡◌, ℕ, ◌+◌, true, false, List, [], ◌∷◌, ◌++◌, reverse, length, Some, None, refl, ◌∙◌, ap}
use Rattle.std.proofs.lemmas.List.{reverse-append, nil_from_length}
use Rattle.esi_scanner.specs.declared.element_name.ElementName.{ElementName}
use Rattle.esi_scanner.specs.declared.token.Token.{Token}
use Rattle.template_check.specs.OpenElements.{ended_before, opened_by, ends_part, innermost, open_count, has_part}

last-first : (rest before : List Token) (token : Token) → rest ≡ before ++ token ∷ [] → reverse rest ≡ token ∷ reverse before
last-first rest before token is = ap reverse is ∙ reverse-append before (token ∷ [])

pub innermost-none : (n : ℕ) (rest : List Token) → length rest ≡ 0 → innermost n (reverse rest) ≡ None
unfolding innermost
innermost-none n rest is = rw (nil_from_length rest is) refl

pub innermost-here : (n : ℕ) (rest before : List Token) (token : Token) → rest ≡ before ++ token ∷ [] → ended_before token.kind n ≡ None → innermost n (reverse rest) ≡ opened_by token
unfolding innermost
innermost-here n rest before token is none = ap (innermost n) (last-first rest before token is) ∙ rw none refl

pub innermost-before : (n m : ℕ) (rest before : List Token) (token : Token) → rest ≡ before ++ token ∷ [] → ended_before token.kind n ≡ Some m → innermost n (reverse rest) ≡ innermost m (reverse before)
unfolding innermost
innermost-before n m rest before token is some = ap (innermost n) (last-first rest before token is) ∙ rw some refl

pub count-none : (n : ℕ) (rest : List Token) → length rest ≡ 0 → open_count n (reverse rest) ≡ 0
unfolding open_count
count-none n rest is = rw (nil_from_length rest is) refl

pub count-here : (n : ℕ) (rest before : List Token) (token : Token) → rest ≡ before ++ token ∷ [] → ended_before token.kind n ≡ None → open_count n (reverse rest) ≡ open_count n (reverse before) + 1
unfolding open_count
count-here n rest before token is none = ap (open_count n) (last-first rest before token is) ∙ rw none refl

pub count-before : (n m : ℕ) (rest before : List Token) (token : Token) → rest ≡ before ++ token ∷ [] → ended_before token.kind n ≡ Some m → open_count n (reverse rest) ≡ open_count m (reverse before)
unfolding open_count
count-before n m rest before token is some = ap (open_count n) (last-first rest before token is) ∙ rw some refl

pub part-none : (wanted : ElementName) (n : ℕ) (rest : List Token) → length rest ≡ 0 → has_part wanted n (reverse rest) ≡ false
unfolding has_part
part-none wanted n rest is = rw (nil_from_length rest is) refl

pub part-found : (wanted : ElementName) (n : ℕ) (rest before : List Token) (token : Token) → rest ≡ before ++ token ∷ [] → ends_part wanted token.kind n ≡ true → has_part wanted n (reverse rest) ≡ true
unfolding has_part
part-found wanted n rest before token is found = ap (has_part wanted n) (last-first rest before token is) ∙ rw found refl

pub part-here : (wanted : ElementName) (n : ℕ) (rest before : List Token) (token : Token) → rest ≡ before ++ token ∷ [] → ends_part wanted token.kind n ≡ false → ended_before token.kind n ≡ None → has_part wanted n (reverse rest) ≡ false
unfolding has_part
part-here wanted n rest before token is not_it none = ap (has_part wanted n) (last-first rest before token is) ∙ rw (not_it, none) refl

pub part-before : (wanted : ElementName) (n m : ℕ) (rest before : List Token) (token : Token) → rest ≡ before ++ token ∷ [] → ends_part wanted token.kind n ≡ false → ended_before token.kind n ≡ Some m → has_part wanted n (reverse rest) ≡ has_part wanted m (reverse before)
unfolding has_part
part-before wanted n m rest before token is not_it some = ap (has_part wanted n) (last-first rest before token is) ∙ rw (not_it, some) refl

-- What is spelled so is read.
use Rattle.std.proofs.Common.{◌≡◌, ◌⊎◌, ℕ, zero, suc, ◌≤◌, ◌==◌, Bool, true, false, cond, List, [], ◌∷◌, ◌++◌, length, length-append, Some, None, Ok, codes, refl, ◌∙◌, ap, inl, inr, append_assoc, arith}
use Rattle.std.specs.List.{AllPass, list_all, prefix_len}
use Rattle.std.specs.Char.{is_ascii_digit}
use Rattle.std.proofs.lemmas.Bool.{eqb-true, eq-eqb, ne_eqb}
use Rattle.std.proofs.lemmas.List.{take_at, drop_at}
use Rattle.std.proofs.lemmas.List.Sums.{AllPass-from_list_all}
use Rattle.esi_vars.specs.declared.reference.Reference.{Reference}
use Rattle.edge_types.specs.WhiteSpace.{is_ws}
use Rattle.esi_vars.specs.Reading.{after_byte, reference_at}
use Rattle.esi_vars.proofs.Complete.{prefix_len-run, cut_again}
use Rattle.esi_vars.proofs.Theorems.{reads_references}
use Rattle.esi_expr.specs.declared.expr.Comparison.{Comparison}
use Rattle.esi_expr.specs.declared.expr.Comparison.TheVariants as comparison
use Rattle.esi_expr.specs.declared.expr.Operand.{Operand}
use Rattle.esi_expr.specs.declared.expr.Operand.TheVariants as operand
use Rattle.esi_expr.specs.Tree.{Test, Single, Or, Conj, Sole, And, Neg, Not, Group, Filled, Compared}
use Rattle.esi_expr.specs.Numbers.{is_digit_count, are_digits, is_number}
use Rattle.esi_expr.specs.Reading.{Found, after_ws, after_sign, paired, alone, symbol_at, comparison_at, digits_at, operand_in, operand_at, plain_at, conj_with, test_with, neg_at}
use Rattle.esi_expr.specs.Spelling.{Padded, symbol, IsOperand, SpellsOperand, Spells, SpellsConj, SpellsNeg, nesting, conj_nesting, neg_nesting}
use Rattle.esi_expr.proofs.NumberLemmas.{both, digit_at}
use Rattle.esi_expr.proofs.ReadingLemmas.{Underway, underway_step, underway_end, conj_begun, test_begun}

-- white space is passed over
pub after_white : (ws tail : List ℕ) → AllPass is_ws ws → after_ws (ws ++ tail) ≡ after_ws tail
after_white [] tail all = refl
after_white (b ∷ bs) tail all =
    let here : is_ws b ≡ true = all 0 b (omega arith) in
    let later = after_white bs tail (λ k d h. all (suc k) d (omega arith)) in
    rw here later

ws_cases : (b : ℕ) → is_ws b ≡ true → (b ≡ 32) ⊎ ((b ≡ 9) ⊎ ((b ≡ 13) ⊎ (b ≡ 10)))
ws_cases b e = grind arith

-- no white space has what none of its four bytes has
ws_apart : (f : ℕ → Bool) (b : ℕ) → f 32 ≡ false → f 9 ≡ false → f 13 ≡ false → f 10 ≡ false → (b ≡ 32) ⊎ ((b ≡ 9) ⊎ ((b ≡ 13) ⊎ (b ≡ 10))) → f b ≡ false
ws_apart f b p q r s (inl e) = ap f e ∙ p
ws_apart f b p q r s (inr (inl e)) = ap f e ∙ q
ws_apart f b p q r s (inr (inr (inl e))) = ap f e ∙ r
ws_apart f b p q r s (inr (inr (inr e))) = ap f e ∙ s

ws_no_digit : (b : ℕ) → is_ws b ≡ true → is_ascii_digit b ≡ false
ws_no_digit b e = ws_apart is_ascii_digit b refl refl refl refl (ws_cases b e)

ws_no_equals : (b : ℕ) → is_ws b ≡ true → (b == 61) ≡ false
ws_no_equals b e = ws_apart (λ (x : ℕ). x == 61) b refl refl refl refl (ws_cases b e)

-- a byte that is neither white space nor a digit
pub record Marks (b : ℕ) : Type 0 where
  pub no_ws : is_ws b ≡ false
  pub no_digit : is_ascii_digit b ≡ false
  pub itself : (b == b) ≡ true

no_digit_white : (ws tail : List ℕ) → AllPass is_ws ws → prefix_len is_ascii_digit tail ≡ 0 → prefix_len is_ascii_digit (ws ++ tail) ≡ 0
no_digit_white [] tail all e = e
no_digit_white (b ∷ bs) tail all e =
    let white : is_ws b ≡ true = all 0 b (omega arith) in
    let none = ws_no_digit b white in
    rw none refl

-- a padded sign
sign_text : (bytes piece rest : List ℕ) (padded : Padded bytes piece) → piece ++ rest ≡ padded.0 ++ (bytes ++ rest)
sign_text bytes piece rest padded = rw padded.2 (append_assoc padded.0 bytes rest)

after_padded : (bytes piece rest : List ℕ) → Padded bytes piece → after_ws (piece ++ rest) ≡ after_ws (bytes ++ rest)
after_padded bytes piece rest padded = ap after_ws (sign_text bytes piece rest padded) ∙ after_white padded.0 (bytes ++ rest) padded.1

-- what the sign behind white space is
pub sign_again : (sign : ℕ) (piece rest : List ℕ) → Marks sign → Padded (sign ∷ []) piece → after_sign sign (piece ++ rest) ≡ Some rest
unfolding after_sign
sign_again sign piece rest marks padded = rw (after_padded (sign ∷ []) piece rest padded, marks.no_ws, marks.itself) refl

-- another sign isn't it
sign_other : (other sign : ℕ) (piece rest : List ℕ) → Marks sign → (sign == other) ≡ false → Padded (sign ∷ []) piece → after_sign other (piece ++ rest) ≡ None
unfolding after_sign
sign_other other sign piece rest marks apart padded = rw (after_padded (sign ∷ []) piece rest padded, marks.no_ws, apart) refl

no_symbol : (b : ℕ) → ((bs : List ℕ) → paired b bs ≡ None) → ((bs : List ℕ) → alone b bs ≡ None) → (rest : List ℕ) → symbol_at (b ∷ rest) ≡ None
no_symbol b p a [] = a []
no_symbol b p a (c ∷ cs) = by_test (c == 61)
  where
    by_test : (t : Bool) → cond t (paired b cs) (alone b (c ∷ cs)) ≡ None
    by_test true = p cs
    by_test false = a (c ∷ cs)

-- after this text a negation goes on no further
pub record EndsNeg (rest : List ℕ) : Type 0 where
  pub no_digit : prefix_len is_ascii_digit rest ≡ 0
  pub no_comparison : comparison_at rest ≡ None

-- nor does a conjunction
pub record EndsConj (rest : List ℕ) : Type 0 where
  pub neg : EndsNeg rest
  pub no_and : after_sign 38 rest ≡ None

-- nor a test
pub record EndsTest (rest : List ℕ) : Type 0 where
  pub conj : EndsConj rest
  pub no_or : after_sign 124 rest ≡ None

sign_ends : (sign : ℕ) (piece rest : List ℕ) → Marks sign → ((bs : List ℕ) → paired sign bs ≡ None) → ((bs : List ℕ) → alone sign bs ≡ None) → Padded (sign ∷ []) piece → EndsNeg (piece ++ rest)
unfolding comparison_at
sign_ends sign piece rest marks p a padded =
    let digit : prefix_len is_ascii_digit (sign ∷ rest) ≡ 0 = rw marks.no_digit refl in
    record {
      no_digit = rw (sign_text (sign ∷ []) piece rest padded) (no_digit_white padded.0 (sign ∷ rest) padded.1 digit);
      no_comparison = rw (after_padded (sign ∷ []) piece rest padded, marks.no_ws) (no_symbol sign p a rest);
    }

and_marks : Marks 38
and_marks = record { no_ws = refl; no_digit = refl; itself = refl }

or_marks : Marks 124
or_marks = record { no_ws = refl; no_digit = refl; itself = refl }

open_marks : Marks 40
open_marks = record { no_ws = refl; no_digit = refl; itself = refl }

close_marks : Marks 41
close_marks = record { no_ws = refl; no_digit = refl; itself = refl }

not_marks : Marks 33
not_marks = record { no_ws = refl; no_digit = refl; itself = refl }

and_ends : (piece rest : List ℕ) → Padded (codes "&") piece → EndsNeg (piece ++ rest)
and_ends piece rest padded = sign_ends 38 piece rest and_marks (λ bs. refl) (λ bs. refl) padded

or_ends : (piece rest : List ℕ) → Padded (codes "|") piece → EndsConj (piece ++ rest)
or_ends piece rest padded = record {
  neg = sign_ends 124 piece rest or_marks (λ bs. refl) (λ bs. refl) padded;
  no_and = sign_other 38 124 piece rest or_marks refl padded;
}

close_ends : (piece rest : List ℕ) → Padded (codes ")") piece → EndsTest (piece ++ rest)
close_ends piece rest padded = record {
  conj = record {
    neg = sign_ends 41 piece rest close_marks (λ bs. refl) (λ bs. refl) padded;
    no_and = sign_other 38 41 piece rest close_marks refl padded;
  };
  no_or = sign_other 124 41 piece rest close_marks refl padded;
}

-- white space alone behind a test
pub all_white : (ws : List ℕ) → AllPass is_ws ws → after_ws ws ≡ []
all_white [] all = refl
all_white (b ∷ bs) all =
    let here : is_ws b ≡ true = all 0 b (omega arith) in
    let later = all_white bs (λ k d h. all (suc k) d (omega arith)) in
    rw here later

no_digit_alone : (ws : List ℕ) → AllPass is_ws ws → prefix_len is_ascii_digit ws ≡ 0
no_digit_alone [] all = refl
no_digit_alone (b ∷ bs) all =
    let white : is_ws b ≡ true = all 0 b (omega arith) in
    let none = ws_no_digit b white in
    rw none refl

pub white_ends : (ws : List ℕ) → AllPass is_ws ws → EndsTest ws
unfolding after_sign comparison_at
white_ends ws all =
    let none = all_white ws all in
    record {
      conj = record { neg = record { no_digit = no_digit_alone ws all; no_comparison = rw none refl }; no_and = rw none refl };
      no_or = rw none refl;
    }

digits_again : (digits rest : List ℕ) → are_digits digits ≡ true → prefix_len is_ascii_digit rest ≡ 0 → digits_at (digits ++ rest) ≡ Some (digits, rest)
unfolding digits_at
digits_again digits rest are none =
    let parts = both (is_digit_count (length digits)) (list_all is_ascii_digit digits) are in
    let len = prefix_len-run is_ascii_digit digits rest (AllPass-from_list_all is_ascii_digit digits parts.1) none in
    rw (len, parts.0, take_at digits rest (length digits) refl, drop_at digits rest (length digits) refl) refl

-- the first byte of an operand is no white space and no sign
pub record Head (b : ℕ) : Type 0 where
  pub no_ws : is_ws b ≡ false
  pub no_not : (b == 33) ≡ false
  pub no_open : (b == 40) ≡ false
  pub no_equals : (b == 61) ≡ false

-- how an operand begins
pub record Begins (bytes : List ℕ) : Type 0 where
  pub first : ℕ
  pub more : List ℕ
  pub head : Head first
  pub whole : bytes ≡ first ∷ more

dollar_head : Head 36
dollar_head = record { no_ws = refl; no_not = refl; no_open = refl; no_equals = refl }

quote_head : Head 39
quote_head = record { no_ws = refl; no_not = refl; no_open = refl; no_equals = refl }

minus_head : Head 45
minus_head = record { no_ws = refl; no_not = refl; no_open = refl; no_equals = refl }

digit_no_ws : (b : ℕ) → 48 ≤ b → is_ws b ≡ false
digit_no_ws b low =
    let first = ne_eqb b 32 (λ e. omega arith) in
    let second = ne_eqb b 9 (λ e. omega arith) in
    let third = ne_eqb b 13 (λ e. omega arith) in
    let fourth = ne_eqb b 10 (λ e. omega arith) in
    rw (first, second, third, fourth) refl

digit_head : (b : ℕ) → 48 ≤ b → b ≤ 57 → Head b
digit_head b low high = record {
  no_ws = digit_no_ws b low;
  no_not = ne_eqb b 33 (λ e. omega arith);
  no_open = ne_eqb b 40 (λ e. omega arith);
  no_equals = ne_eqb b 61 (λ e. omega arith);
}

-- a number begins with a minus or a digit
number_by : (b : ℕ) (bs : List ℕ) (t : Bool) → (b == 45) ≡ t → are_digits (cond t bs (b ∷ bs)) ≡ true → Head b
number_by b bs true is are = rw (eqb-true b 45 is) minus_head
number_by b bs false is are = let range = digit_at (b ∷ bs) are 0 0 (omega arith) in digit_head b range.0 range.1

number_begins : (spelling : List ℕ) → is_number spelling ≡ true → Begins spelling
number_begins [] e = absurd (cc)
number_begins (b ∷ bs) e = record { first = b; more = bs; head = number_by b bs (b == 45) refl e; whole = refl }

operand_begins : (one : Operand) (bytes : List ℕ) → IsOperand one bytes → Begins bytes
operand_begins (operand.Reference r) bytes is = record { first = 36; more = 40 ∷ (is.name ++ (is.key ++ (is.default ++ codes ")"))); head = dollar_head; whole = is.whole }
operand_begins (operand.Quoted text) bytes is = record { first = 39; more = text ++ codes "'"; head = quote_head; whole = is.1 }
operand_begins (operand.Number spelling) bytes is =
    let b = number_begins spelling is.0 in
    record { first = b.first; more = b.more; head = b.head; whole = is.1 ∙ b.whole }

reference_by : (text rest : List ℕ) (r : Reference) (more : List ℕ) → text ≡ 36 ∷ more → reference_at text ≡ Some (r, rest) → operand_in text ≡ Some (operand.Reference r, rest)
reference_by text rest r more e read =
    let at : reference_at (36 ∷ more) ≡ Some (r, rest) = rw e at read in
    rw (e, at) refl

number_again : (b : ℕ) (bs rest : List ℕ) (t : Bool) → (b == 45) ≡ t → are_digits (cond t bs (b ∷ bs)) ≡ true → prefix_len is_ascii_digit rest ≡ 0
    → operand_in (b ∷ (bs ++ rest)) ≡ Some (operand.Number (b ∷ bs), rest)
number_again b bs rest true is are none =
    let minus = eqb-true b 45 is in
    let read = digits_again bs rest are none in
    rw (minus, read) refl
number_again b bs rest false is are none =
    let range = digit_at (b ∷ bs) are 0 0 (omega arith) in
    let dollar = ne_eqb b 36 (λ e. omega (arith, range.0)) in
    let quote = ne_eqb b 39 (λ e. omega (arith, range.0)) in
    let read : digits_at (b ∷ (bs ++ rest)) ≡ Some (b ∷ bs, rest) = digits_again (b ∷ bs) rest are none in
    rw (dollar, quote, is, read) refl

number_text : (spelling rest : List ℕ) → is_number spelling ≡ true → prefix_len is_ascii_digit rest ≡ 0 → operand_in (spelling ++ rest) ≡ Some (operand.Number spelling, rest)
number_text [] rest e none = absurd (cc)
number_text (b ∷ bs) rest e none = number_again b bs rest (b == 45) refl e none

in_again : (one : Operand) (bytes rest : List ℕ) → IsOperand one bytes → prefix_len is_ascii_digit rest ≡ 0 → operand_in (bytes ++ rest) ≡ Some (one, rest)
in_again (operand.Reference r) bytes rest is none =
    let begins : bytes ++ rest ≡ 36 ∷ (40 ∷ ((is.name ++ (is.key ++ (is.default ++ codes ")"))) ++ rest)) = ap (λ (t : List ℕ). t ++ rest) is.whole in
    reference_by (bytes ++ rest) rest r _ begins ((reads_references (bytes ++ rest) rest r).1 (bytes, is, refl))
in_again (operand.Quoted text) bytes rest is none =
    let regrouped : bytes ++ rest ≡ 39 ∷ (text ++ (39 ∷ rest)) = rw is.1 (simp append_assoc) in
    rw (regrouped, cut_again text rest is.0) refl
in_again (operand.Number spelling) bytes rest is none = rw is.1 (number_text spelling rest is.0 none)

-- white space stops where an operand begins
begins_after : (bytes rest : List ℕ) → Begins bytes → after_ws (bytes ++ rest) ≡ bytes ++ rest
begins_after bytes rest b = let none = b.head.no_ws in rw (b.whole, none) refl

-- an operand is read, where no digit follows it
pub operand_again : (one : Operand) (piece rest : List ℕ) → SpellsOperand one piece → prefix_len is_ascii_digit rest ≡ 0 → operand_at (piece ++ rest) ≡ Some (one, rest)
unfolding operand_at
operand_again one piece rest (bytes, is, padded) none =
    rw (after_padded bytes piece rest padded, begins_after bytes rest (operand_begins one bytes is)) (in_again one bytes rest is none)

-- an operand is no sign
operand_no_sign : (sign : ℕ) (one : Operand) (piece rest : List ℕ) → SpellsOperand one piece → ((b : ℕ) → Head b → (b == sign) ≡ false) → after_sign sign (piece ++ rest) ≡ None
unfolding after_sign
operand_no_sign sign one piece rest (bytes, is, padded) apart =
    let b = operand_begins one bytes is in
    let none = b.head.no_ws in
    let other = apart b.first b.head in
    rw (after_padded bytes piece rest padded, b.whole, none, other) refl

-- nor does it begin with `=`
no_equals_by : (b : ℕ) (ws tail : List ℕ) → AllPass is_ws ws → after_byte 61 tail ≡ None → after_byte 61 (ws ++ tail) ≡ None
no_equals_by b [] tail all e = e
no_equals_by b (w ∷ ws) tail all e =
    let white : is_ws w ≡ true = all 0 w (omega arith) in
    let other = ws_no_equals w white in
    rw other refl

operand_no_equals : (one : Operand) (piece rest : List ℕ) → SpellsOperand one piece → after_byte 61 (piece ++ rest) ≡ None
operand_no_equals one piece rest (bytes, is, padded) =
    let b = operand_begins one bytes is in
    let other = b.head.no_equals in
    let here : after_byte 61 (bytes ++ rest) ≡ None = rw (b.whole, other) refl in
    rw (sign_text bytes piece rest padded) (no_equals_by 0 padded.0 (bytes ++ rest) padded.1 here)

alone_again : (b : ℕ) (rest : List ℕ) → after_byte 61 rest ≡ None → symbol_at (b ∷ rest) ≡ alone b rest
alone_again b [] e = refl
alone_again b (c ∷ cs) e = by_test (c == 61) e
  where
    by_test : (t : Bool) → cond t (Some cs) None ≡ None → cond t (paired b cs) (alone b (c ∷ cs)) ≡ alone b (c ∷ cs)
    by_test true e = absurd (cc)
    by_test false e = refl

symbol_again : (by : Comparison) (rest : List ℕ) → after_byte 61 rest ≡ None → symbol_at (after_ws (symbol by ++ rest)) ≡ Some (by, rest)
symbol_again comparison.EqualTo rest e = refl
symbol_again comparison.Unequal rest e = refl
symbol_again comparison.AtMost rest e = refl
symbol_again comparison.AtLeast rest e = refl
symbol_again comparison.Below rest e = alone_again 60 rest e
symbol_again comparison.Above rest e = alone_again 62 rest e

comparison_again : (by : Comparison) (piece rest : List ℕ) → Padded (symbol by) piece → after_byte 61 rest ≡ None → comparison_at (piece ++ rest) ≡ Some (by, rest)
unfolding comparison_at
comparison_again by piece rest padded e = ap symbol_at (after_padded (symbol by) piece rest padded) ∙ symbol_again by rest e

symbol_no_digit : (by : Comparison) (rest : List ℕ) → prefix_len is_ascii_digit (symbol by ++ rest) ≡ 0
symbol_no_digit comparison.EqualTo rest = refl
symbol_no_digit comparison.Unequal rest = refl
symbol_no_digit comparison.AtMost rest = refl
symbol_no_digit comparison.AtLeast rest = refl
symbol_no_digit comparison.Below rest = refl
symbol_no_digit comparison.Above rest = refl

padded_no_digit : (bytes piece rest : List ℕ) → Padded bytes piece → prefix_len is_ascii_digit (bytes ++ rest) ≡ 0 → prefix_len is_ascii_digit (piece ++ rest) ≡ 0
padded_no_digit bytes piece rest padded e = rw (sign_text bytes piece rest padded) (no_digit_white padded.0 (bytes ++ rest) padded.1 e)

filled_again : (one : Operand) (piece rest : List ℕ) → SpellsOperand one piece → EndsNeg rest → plain_at (piece ++ rest) ≡ Ok (Filled one, rest)
unfolding plain_at
filled_again one piece rest spelled ends = let none = ends.no_comparison in rw (operand_again one piece rest spelled ends.no_digit, none) refl

three : (piece a b c rest : List ℕ) → piece ≡ a ++ (b ++ c) → piece ++ rest ≡ a ++ (b ++ (c ++ rest))
three piece a b c rest e = rw e (simp append_assoc)

compared_again : (left : Operand) (by : Comparison) (right : Operand) (before sign after rest : List ℕ) → SpellsOperand left before → Padded (symbol by) sign → SpellsOperand right after → EndsNeg rest
    → plain_at (before ++ (sign ++ (after ++ rest))) ≡ Ok (Compared left by right, rest)
unfolding plain_at
compared_again left by right before sign after rest l padded r ends =
    let first = operand_again left before (sign ++ (after ++ rest)) l (padded_no_digit (symbol by) sign (after ++ rest) padded (symbol_no_digit by (after ++ rest))) in
    let mid = comparison_again by sign (after ++ rest) padded (operand_no_equals right after rest r) in
    let last = operand_again right after rest r ends.no_digit in
    rw (first, mid, last) refl

-- a reader that reads what is spelled so, where a negation goes on no further
abbrev pub Reads : ℕ → (List ℕ → Found Neg) → Type 0
Reads n neg = (one : Neg) (piece rest : List ℕ) → SpellsNeg one piece → neg_nesting one ≤ n → EndsNeg rest → neg (piece ++ rest) ≡ Ok (one, rest)

conj_under : (n : ℕ) (neg : List ℕ → Found Neg) → Reads n neg → (one : Conj) (piece rest : List ℕ) → SpellsConj one piece → conj_nesting one ≤ n → EndsNeg rest
    → Underway And 38 neg one rest (conj_with neg (piece ++ rest))
conj_under n neg reads (Sole only) piece rest spelled few ends = conj_begun neg (piece ++ rest) rest only (reads only piece rest spelled few ends)
conj_under n neg reads (And front last) piece rest (before, sign, after, f, padded, l, whole) few ends =
    let text = three piece before sign after rest whole in
    let under = conj_under n neg reads front before (sign ++ (after ++ rest)) f (omega arith) (and_ends sign (after ++ rest) padded) in
    rw text (underway_step And 38 neg front last (sign ++ (after ++ rest)) (after ++ rest) rest (conj_with neg (before ++ (sign ++ (after ++ rest)))) under
    (sign_again 38 sign (after ++ rest) and_marks padded) (reads last after rest l (omega arith) ends) (omega (arith, length-append after rest)))

conj_again : (n : ℕ) (neg : List ℕ → Found Neg) → Reads n neg → (one : Conj) (piece rest : List ℕ) → SpellsConj one piece → conj_nesting one ≤ n → EndsConj rest
    → conj_with neg (piece ++ rest) ≡ Ok (one, rest)
conj_again n neg reads one piece rest spelled few ends = underway_end And 38 neg one rest (conj_with neg (piece ++ rest)) (conj_under n neg reads one piece rest spelled few ends.neg) ends.no_and

test_under : (n : ℕ) (neg : List ℕ → Found Neg) → Reads n neg → (one : Test) (piece rest : List ℕ) → Spells one piece → nesting one ≤ n → EndsConj rest
    → Underway Or 124 (conj_with neg) one rest (test_with neg (piece ++ rest))
test_under n neg reads (Single only) piece rest spelled few ends = test_begun neg (piece ++ rest) rest only (conj_again n neg reads only piece rest spelled few ends)
test_under n neg reads (Or front last) piece rest (before, sign, after, f, padded, l, whole) few ends =
    let text = three piece before sign after rest whole in
    let under = test_under n neg reads front before (sign ++ (after ++ rest)) f (omega arith) (or_ends sign (after ++ rest) padded) in
    rw text (underway_step Or 124 (conj_with neg) front last (sign ++ (after ++ rest)) (after ++ rest) rest (test_with neg (before ++ (sign ++ (after ++ rest)))) under
    (sign_again 124 sign (after ++ rest) or_marks padded) (conj_again n neg reads last after rest l (omega arith) ends) (omega (arith, length-append after rest)))

pub test_again : (n : ℕ) (neg : List ℕ → Found Neg) → Reads n neg → (one : Test) (piece rest : List ℕ) → Spells one piece → nesting one ≤ n → EndsTest rest
    → test_with neg (piece ++ rest) ≡ Ok (one, rest)
test_again n neg reads one piece rest spelled few ends = underway_end Or 124 (conj_with neg) one rest (test_with neg (piece ++ rest)) (test_under n neg reads one piece rest spelled few ends.conj) ends.no_or

two : (piece a b rest : List ℕ) → piece ≡ a ++ b → piece ++ rest ≡ a ++ (b ++ rest)
two piece a b rest e = rw e (simp append_assoc)

-- where an operand stands, neither `!` nor `(` does
plain_nested : (n : ℕ) (one : Operand) (before tail : List ℕ) → SpellsOperand one before → neg_at (suc n) (before ++ tail) ≡ plain_at (before ++ tail)
unfolding neg_at
plain_nested n one before tail spelled =
    rw (operand_no_sign 33 one before tail spelled (λ b h. h.no_not), operand_no_sign 40 one before tail spelled (λ b h. h.no_open)) refl

pub neg_again : (n : ℕ) → Reads n (neg_at n)
unfolding neg_at
neg_again zero (Not inner) piece rest spelled few ends = absurd (omega arith)
neg_again zero (Group inner) piece rest spelled few ends = absurd (omega arith)
neg_again zero (Filled only) piece rest spelled few ends = filled_again only piece rest spelled ends
neg_again zero (Compared left by right) piece rest (before, sign, after, l, padded, r, whole) few ends =
    rw (three piece before sign after rest whole) (compared_again left by right before sign after rest l padded r ends)
neg_again (suc n) (Not inner) piece rest (sign, after, padded, spelled, whole) few ends =
    let read = neg_again n inner after rest spelled (omega arith) ends in
    rw (two piece sign after rest whole, sign_again 33 sign (after ++ rest) not_marks padded, read) refl
neg_again (suc n) (Group inner) piece rest (first, within, last, open_padded, spelled, close_padded, whole) few ends =
    let read = test_again n (neg_at n) (neg_again n) inner within (last ++ rest) spelled (omega arith) (close_ends last rest close_padded) in
    rw (
      three piece first within last rest whole,
      sign_other 33 40 first (within ++ (last ++ rest)) open_marks refl open_padded,
      sign_again 40 first (within ++ (last ++ rest)) open_marks open_padded,
      read,
      sign_again 41 last rest close_marks close_padded,
    ) refl
neg_again (suc n) (Filled only) piece rest spelled few ends =
    plain_nested n only piece rest spelled ∙ filled_again only piece rest spelled ends
neg_again (suc n) (Compared left by right) piece rest (before, sign, after, l, padded, r, whole) few ends =
    rw (three piece before sign after rest whole) (plain_nested n left before (sign ++ (after ++ rest)) l ∙ compared_again left by right before sign after rest l padded r ends)

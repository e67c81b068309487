-- A test, read from the left of a text.
use Rattle.std.specs.Prelude.{ℕ, zero, suc, ◌==◌, List, [], ◌∷◌, ◌++◌, length, take, drop, codes, Option, Some, None, Result, Ok, Err, if◌then◌else◌}
use Rattle.std.specs.Str.{byte}
use Rattle.std.specs.Char.{is_ascii_digit}
use Rattle.std.specs.List.{prefix_len}
use Rattle.std.specs.Result.{result_ok}
use Rattle.esi_vars.specs.declared.reference.Reference.{Reference}
use Rattle.edge_types.specs.WhiteSpace.{is_ws}
use Rattle.esi_vars.specs.Reading.{after_byte, cut_at, reference_at}
use Rattle.esi_expr.specs.declared.expr.Comparison.{Comparison}
use Rattle.esi_expr.specs.declared.expr.Comparison.TheVariants as comparison
use Rattle.esi_expr.specs.declared.expr.Operand.{Operand}
use Rattle.esi_expr.specs.declared.expr.Operand.TheVariants as operand
use Rattle.esi_expr.specs.declared.reading.TheConstants.{NESTING_LIMIT}
use Rattle.esi_expr.specs.declared.stop.Wanted.{Wanted}
use Rattle.esi_expr.specs.declared.stop.Wanted.TheVariants as wanted
use Rattle.esi_expr.specs.Numbers.{is_digit_count}
use Rattle.esi_expr.specs.Tree.{Test, Single, Or, Conj, Sole, And, Neg, Not, Group, Filled, Compared}

-- what follows the white space at the front
abbrev pub after_ws : List ℕ → List ℕ
after_ws [] = []
after_ws (b ∷ bs) = if is_ws b then after_ws bs else b ∷ bs

-- what follows this byte, which may have white space before it
unfoldable pub after_sign : ℕ → List ℕ → Option (List ℕ)
after_sign sign text = after_byte sign (after_ws text)

-- a comparison of this byte and `=`
abbrev pub paired : ℕ → List ℕ → Option (Comparison × List ℕ)
paired b bs =
    if b == byte "=" then Some (comparison.EqualTo, bs)
    else (if b == byte "!" then Some (comparison.Unequal, bs)
    else (if b == byte "<" then Some (comparison.AtMost, bs)
    else (if b == byte ">" then Some (comparison.AtLeast, bs)
    else None)))

-- a comparison of this byte alone
abbrev pub alone : ℕ → List ℕ → Option (Comparison × List ℕ)
alone b bs =
    if b == byte "<" then Some (comparison.Below, bs)
    else (if b == byte ">" then Some (comparison.Above, bs)
    else None)

-- the longest comparison at the front
abbrev pub symbol_at : List ℕ → Option (Comparison × List ℕ)
symbol_at [] = None
symbol_at (b ∷ []) = alone b []
symbol_at (b ∷ c ∷ cs) = if c == byte "=" then paired b cs else alone b (c ∷ cs)

-- what the reader above finds, which may have white space before it
unfoldable pub comparison_at : List ℕ → Option (Comparison × List ℕ)
comparison_at text = symbol_at (after_ws text)

-- a text, cut in two
abbrev pub cut : ℕ → List ℕ → List ℕ × List ℕ
cut n text = (take n text, drop n text)

-- the longest run of digits at the front, if it has 1 to 18
unfoldable pub digits_at : List ℕ → Option (List ℕ × List ℕ)
digits_at text = if is_digit_count (prefix_len is_ascii_digit text) then Some (cut (prefix_len is_ascii_digit text) text) else None

-- operands of the three kinds
abbrev pub referred : Option (Reference × List ℕ) → Option (Operand × List ℕ)
referred None = None
referred (Some found) = Some (operand.Reference found.0, found.1)

abbrev pub quoted : Option (List ℕ × List ℕ) → Option (Operand × List ℕ)
quoted None = None
quoted (Some found) = Some (operand.Quoted found.0, found.1)

abbrev pub numbered : List ℕ → Option (List ℕ × List ℕ) → Option (Operand × List ℕ)
numbered sign None = None
numbered sign (Some found) = Some (operand.Number (sign ++ found.0), found.1)

-- the operand at the front of a text, by the first byte, which shows its kind, and what follows that byte
abbrev pub operand_by : ℕ → List ℕ → List ℕ → Option (Operand × List ℕ)
operand_by b bs text =
    if b == byte "$" then referred (reference_at text)
    else (if b == byte "'" then quoted (cut_at (byte "'") bs)
    else (if b == byte "-" then numbered (codes "-") (digits_at bs)
    else numbered [] (digits_at text)))

abbrev pub operand_in : List ℕ → Option (Operand × List ℕ)
operand_in [] = None
operand_in (b ∷ bs) = operand_by b bs (b ∷ bs)

-- what the reader above finds, which may have white space before it
unfoldable pub operand_at : List ℕ → Option (Operand × List ℕ)
operand_at text = operand_in (after_ws text)

-- what is wanted where a text can't be read on, and the text from there on
abbrev pub Stopped : Type 0
Stopped = Wanted × List ℕ

-- what a reader of tests finds: what it reads and what follows it, or where it stops
abbrev pub Found : Type 0 → Type 0
Found A = Result (A × List ℕ) Stopped

-- what another reader gives, if the first goes on
infixl 10 ◌>>=◌
abbrev pub ◌>>=◌ : {A B : Type 0} → Result A Stopped → (A → Result B Stopped) → Result B Stopped
Ok found >>= next = next found
Err stop >>= next = Err stop

-- an operand, which is wanted here
abbrev pub operand_or : List ℕ → Option (Operand × List ℕ) → Found Operand
operand_or here None = Err (wanted.Operand, here)
operand_or here (Some found) = Ok found

abbrev pub wanted_at : List ℕ → Found Operand
wanted_at text = operand_or (after_ws text) (operand_at text)

-- an operand alone, or compared with the one after a comparison
abbrev pub compared : Operand → List ℕ → Option (Comparison × List ℕ) → Found Neg
compared left text None = Ok (Filled left, text)
compared left text (Some by) = do
  right ← wanted_at by.1
  Ok (Compared left by.0 right.0, right.1)

-- an operand, alone or compared
unfoldable pub plain_at : List ℕ → Found Neg
plain_at text = do
  left ← wanted_at text
  compared left.0 left.1 (comparison_at left.1)

-- reading on after a sign, if it is there
abbrev pub behind : {A : Type 0} → Option (List ℕ) → A × List ℕ → (List ℕ → Found A) → Found A
behind None here onward = Ok here
behind (Some rest) here onward = onward rest

-- to what has been read, what follows it after such signs, one after another, at most this many times
unfoldable pub joined_at : {A B : Type 0} → (A → B → A) → ℕ → (List ℕ → Found B) → ℕ → A → List ℕ → Found A
joined_at join sign next zero front text = Ok (front, text)
joined_at join sign next (suc n) front text =
    behind (after_sign sign text) (front, text) (λ rest. next rest >>= (λ found. joined_at join sign next n (join front found.0) found.1))

-- negations with `&` between them, by a reader of negations
unfoldable pub conj_with : (List ℕ → Found Neg) → List ℕ → Found Conj
conj_with neg text = do
  first ← neg text
  joined_at And (byte "&") neg (length first.1) (Sole first.0) first.1

-- conjunctions with bars between them
unfoldable pub test_with : (List ℕ → Found Neg) → List ℕ → Found Test
test_with neg text = do
  first ← conj_with neg text
  joined_at Or (byte "|") (conj_with neg) (length first.1) (Single first.0) first.1

-- a test in parentheses, at its end, where the second one is wanted
abbrev pub closed : Test → List ℕ → Option (List ℕ) → Found Neg
closed inner here None = Err (wanted.Closing, here)
closed inner here (Some rest) = Ok (Group inner, rest)

-- what follows `!`
abbrev pub not_with : (List ℕ → Found Neg) → List ℕ → Found Neg
not_with neg text = do
  inner ← neg text
  Ok (Not inner.0, inner.1)

-- what follows `(`
abbrev pub group_with : (List ℕ → Found Neg) → List ℕ → Found Neg
group_with neg text = do
  inner ← test_with neg text
  closed inner.0 (after_ws inner.1) (after_sign (byte ")") inner.1)

-- by what follows `!` and what follows `(`, if they are there
abbrev pub nested : Option (List ℕ) → Option (List ℕ) → List ℕ → (List ℕ → Found Neg) → Found Neg
nested (Some rest) parenthesis text neg = not_with neg rest
nested None (Some rest) text neg = group_with neg rest
nested None None text neg = plain_at text

-- a negation with at most this many `!` and `(` around an operand
unfoldable pub neg_at : ℕ → List ℕ → Found Neg
neg_at zero text = plain_at text
neg_at (suc n) text = nested (after_sign (byte "!") text) (after_sign (byte "(") text) text (neg_at n)

-- what was read, where nothing follows it; else an operator is wanted
abbrev pub ended : Test → List ℕ → Result Test Stopped
ended found [] = Ok found
ended found (b ∷ bs) = Err (wanted.Operator, b ∷ bs)

-- the test that a text is, or where its reading stops
abbrev pub reading : List ℕ → Result Test Stopped
reading text = do
  found ← test_with (neg_at NESTING_LIMIT) text
  ended found.0 (after_ws found.1)

-- the test that a text is
unfoldable pub read_test : List ℕ → Option Test
read_test text = result_ok (reading text)

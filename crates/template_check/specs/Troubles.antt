-- What is wrong with a test where its reading stops.
use Rattle.std.specs.Prelude.{ℕ, ◌-◌, ◌==◌, ◌||◌, Bool, List, [], ◌∷◌, length, if◌then◌else◌}
use Rattle.std.specs.Str.{byte}
use Rattle.std.specs.Char.{is_ascii_digit}
use Rattle.esi_expr.specs.declared.stop.Wanted.{Wanted}
use Rattle.esi_expr.specs.declared.stop.Wanted.TheVariants as wanted
use Rattle.template_check.specs.declared.trouble.TestProblem.{TestProblem}
use Rattle.template_check.specs.declared.trouble.TestProblem.TheVariants as problem
use Rattle.template_check.specs.declared.trouble.TestTrouble.{TestTrouble}
use Rattle.template_check.specs.Stops.{stop_of}

-- whether a byte is one of two
abbrev pub is_either : ℕ → ℕ → ℕ → Bool
is_either one other b = b == one || b == other

-- if an operand is wanted and this byte comes: what begins as one and isn't one, or what doesn't begin as one
abbrev pub operand_problem : ℕ → TestProblem
operand_problem b =
    if b == byte "$" then problem.NoReference
    else (if b == byte "'" then problem.OpenQuote
    else (if b == byte "\"" then problem.DoubleQuote
    else (if b == byte "-" || is_ascii_digit b then problem.NoNumber
    else (if is_either (byte "(") (byte "!") b then problem.TooDeep
    else (if is_either (byte "&") (byte "|") b then problem.Doubled
    else problem.NoOperand)))))

-- if an operator is wanted, or the end of a group
abbrev pub operator_problem : ℕ → TestProblem
operator_problem b =
    if b == byte "=" then problem.OneEquals
    else (if b == byte ")" then problem.NoOpening
    else problem.NoOperator)

-- what is wrong if this is wanted and this is the rest of the text
abbrev pub problem_of : Wanted → List ℕ → TestProblem
problem_of wanted.Operand [] = problem.NoOperand
problem_of wanted.Operand (b ∷ bs) = operand_problem b
problem_of wanted.Operator [] = problem.NoOperator
problem_of wanted.Operator (b ∷ bs) = operator_problem b
problem_of wanted.Closing [] = problem.NoClosing
problem_of wanted.Closing (b ∷ bs) = operator_problem b

-- what is wrong, and its place, which is how far the text was read
abbrev pub trouble_of : List ℕ → TestTrouble
trouble_of text =
    let stop = stop_of text in
    record { problem = problem_of stop.0 stop.1; place = length text - length stop.1 }

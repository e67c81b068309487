-- What a problem is called.
use Rattle.std.specs.Prelude.{ℕ, List, codes}
use Rattle.template_check.specs.declared.trouble.TestProblem.{TestProblem}
use Rattle.template_check.specs.declared.trouble.TestProblem.TheVariants as problem

abbrev pub words_of : TestProblem → List ℕ
words_of problem.NoOperand = codes "a reference, a number or a text in single quotes is wanted here, such as 'text'"
words_of problem.NoReference = codes "this is no reference, such as $(HTTP_HOST) or $(HTTP_COOKIE{name})"
words_of problem.OpenQuote = codes "the quote has no second one"
words_of problem.DoubleQuote = codes "a text stands in single quotes"
words_of problem.NoNumber = codes "a number has 1 to 18 digits"
words_of problem.TooDeep = codes "at most 32 `(` and `!` may stand round an operand"
words_of problem.Doubled = codes "`&` means and, `|` means or, and each stands once"
words_of problem.OneEquals = codes "`==` compares, and not `=`"
words_of problem.NoOpening = codes "no `(` is open for this `)`"
words_of problem.NoClosing = codes "a `)` is missing"
words_of problem.NoOperator = codes "an operator is wanted here: ==, !=, <, >, <=, >=, & or |"

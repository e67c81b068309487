-- The reasons in words.
use Rattle.std.specs.Prelude.{ℕ, List, codes}
use Rattle.config_file.specs.declared.fault.Reason.{Reason}
use Rattle.config_file.specs.declared.fault.Reason.TheVariants as reason

abbrev pub words_of : Reason → List ℕ
words_of reason.Form = codes "isn't TOML of one line: NAME = VALUE, [origins] or a comment"
words_of reason.Header = codes "the only table is [origins]"
words_of reason.Table = codes "takes no table; a name with a dot stands in quotes, as \"a.test\""
words_of reason.Unknown = codes "no option of serve has this name"
words_of reason.OfLine = codes "belongs on the command line"
words_of reason.Origin = codes "an origin is a row of the table [origins], as \"a.test\" = \"127.0.0.1:8080\""
words_of reason.NoFlag = codes "takes true or false"
words_of reason.NoWord = codes "takes a string or an integer"
words_of reason.NoList = codes "takes a string, or a list of strings"
words_of reason.Twice = codes "stands in an earlier line too"

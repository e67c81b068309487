use Rattle.std.proofs.Common.{Bor, [], sym, rules}
use Rattle.clap.specs.Words.{Text}
use Rattle.edge_setup.proofs.PrefixLists.{none_among}
use Rattle.edge_setup.proofs.private.prefixes_among.Goals as goal

abbrev none : Bor Text
none = record { ref_ptr = (0, 0); now = [] }

pub returns-in_default : goal.returns-in_default
returns-in_default c = sym (none_among c.args.texts.now c.loop-text.text-index none c.loop-text-test.true (search rules))

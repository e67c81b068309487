use Rattle.edge_commands.proofs.FileWords.{files_are_asked, files_are_wanted}
use Rattle.edge_commands.proofs.laws.files_are_asked.Goals as goal

pub returns-clause-files : goal.returns-clause-files
returns-clause-files c = files_are_asked

pub returns-clause-none : goal.returns-clause-none
returns-clause-none c = files_are_wanted

use Rattle.esi_scanner.proofs.Theorems.{gives-found, gives-only, gives-malformed, gives-refused}
use Rattle.esi_scanner.proofs.scanner.scan.Goals as goal

pub returns-clause-found : goal.returns-clause-found
returns-clause-found c = gives-found c.args.text.now c.tokens_of.result c.tokens_of.ensures

pub returns-clause-only : goal.returns-clause-only
returns-clause-only c = gives-only c.args.text.now c.tokens_of.result c.tokens_of.ensures

pub returns-clause-malformed : goal.returns-clause-malformed
returns-clause-malformed c = gives-malformed c.args.text.now c.tokens_of.result c.tokens_of.ensures

pub returns-clause-refused : goal.returns-clause-refused
returns-clause-refused c = gives-refused c.args.text.now c.tokens_of.result c.tokens_of.ensures

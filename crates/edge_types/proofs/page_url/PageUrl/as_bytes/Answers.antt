use Rattle.std.proofs.Common.{subst}
use Rattle.std.specs.Str.{IsAscii}
use Rattle.url.specs.Parts.{IsValid}
use Rattle.edge_types.proofs.AskedLemmas.{lent_text, asks_itself}
use Rattle.edge_types.proofs.page_url.PageUrl.as_bytes.Goals as goal

pub returns-clause-asked : goal.returns-clause-asked
returns-clause-asked c =
    let url = c.self.inside.url.value in
    let text = lent_text url c.deref.result.now c.args.self.now c.as_str.result.now c.self.view_is c.deref.ensures c.as_str.ensures.value in
    asks_itself url c.args.self.now c.self.invariant (subst IsValid c.deref.ensures c.as_str.ensures.valid) (subst IsAscii text c.as_str.ensures.ascii) c.self.view_is

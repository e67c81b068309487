use Rattle.std.proofs.Common.{sym, ◌∙◌, ap}
use Rattle.url.specs.Parts.{Parts, text_between}
use Rattle.url.specs.declared.slicing.Position.TheVariants.{BeforeUsername, AfterPort}
use Rattle.edge_types.proofs.AskedLemmas.{authority-host_and_port, authority-of, base-known}
use Rattle.edge_types.proofs.page_url.PageUrl.authority.Goals as goal

pub returns : goal.returns
returns c =
    let known = base-known c.self.inside.url.value c.args.self.now c.self.invariant c.self.view_is in
    c.as_bytes.ensures.value ∙ c.authority.ensures ∙ ap (λ (url : Parts). text_between url BeforeUsername AfterPort) c.deref.ensures
    ∙ authority-host_and_port c.self.inside.url.value c.self.invariant.page ∙ sym (authority-of c.self.inside.url.value c.args.self.now known)

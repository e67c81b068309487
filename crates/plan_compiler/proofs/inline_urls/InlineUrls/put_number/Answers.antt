use Rattle.std.proofs.Common.{◌≡◌, ℕ, List, Option, Some, ap, sym, ◌∙◌, if◌then◌else◌, rules}
use Rattle.esi_meaning.specs.Inlines.{is_url}
use Rattle.plan_compiler.specs.Urls.{number_of}
use Rattle.plan_compiler.proofs.UrlLemmas.{number_put}
use Rattle.plan_compiler.proofs.inline_urls.InlineUrls.put_number.Goals as goal

pub returns-clause-numbers : goal.returns-clause-numbers
returns-clause-numbers c = λ w.
    let is : c.args.url.now ≡ Some c.in-Some.url = search rules in
    number_put c.args.self.now.firsts c.insert.new.self _ _ c.args.number c.in_ok-share.ensures c.in_ok-insert.ensures.updates.0 w
    ∙ ap (λ (o : Option (List ℕ)). if is_url w o then Some c.args.number else number_of c.args.self.now w) (sym is)

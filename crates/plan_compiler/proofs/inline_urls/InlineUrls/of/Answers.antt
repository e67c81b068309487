use Rattle.std.proofs.Common.{◌≡◌, ◌+◌, ◌-◌, ◌<◌, length, arith, rules}
use Rattle.plan_compiler.specs.Urls.{url_of}
use Rattle.plan_compiler.proofs.UrlLemmas.{number_before, urls_before}
use Rattle.plan_compiler.proofs.inline_urls.InlineUrls.of.Goals as goal

pub loop-at-preserved : goal.loop-at-preserved
loop-at-preserved c =
    let at = c.loop-at.at - 1 in
    let next : c.loop-at.at ≡ at + 1 = omega (arith, c.loop-at-test.true) in
    let within : at < length c.args.inlines.now = omega (arith, c.loop-at-test.true, c.loop-at.invariant.within) in
    let url : c.in_ok-url.url ≡ url_of c.args.base.now c.index-inlines-at.result = search rules in
    record {
      within = omega (arith, within);
      urls = urls_before c.args.base.now c.args.inlines.now at c.loop-at.at c.index-inlines-at.result c.in_ok-url.url _ _ next within c.index-inlines-at.is url c.in_ok-put.ensures.urls c.loop-at.invariant.urls;
      numbers = number_before c.args.base.now c.args.inlines.now at c.loop-at.at c.index-inlines-at.result c.in_ok-url.url _ _ next within c.index-inlines-at.is url c.in_ok-put.ensures.numbers c.loop-at.invariant.numbers;
    }

use Rattle.std.proofs.Common.{◌≡◌, ◌≤◌, ℕ, List, length, map, reverse, drop}
use Rattle.plan_compiler.specs.Urls.{entry_among, entry_found, number_of, url_of}
use Rattle.plan_compiler.proofs.inline_urls.InlineUrls.of.Given as goal

abbrev pub invariant-loop-at : goal.invariant-loop-at
invariant-loop-at l = record {
  within : l.at ≤ length l.inlines;
  urls : l.found.urls.items ≡ reverse (map (url_of l.base) (drop l.at l.inlines));
  numbers : (w : List ℕ) → entry_found l.inlines (number_of l.found w) ≡ entry_among l.base w (drop l.at l.inlines);
}

abbrev pub decreases-loop-at : goal.decreases-loop-at
decreases-loop-at l = l.at

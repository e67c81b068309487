-- What is joined are the cookies of the line, cut at its semicolons, trimmed, and chosen by their names.
use Rattle.std.proofs.Common.{◌≡◌, ◌∙◌, ap, refl, rules, tests, ◌==◌, ℕ, List, [], ◌∷◌, codes, filter}
use Rattle.std.specs.List.{join_by}
use Rattle.std.proofs.lemmas.Iterator.{YieldsList-from_map_by, items_from_drains}
use Rattle.std.proofs.lemmas.Iterator.Consumers.{YieldsList-at, YieldsList-from_filter}
use Rattle.std.proofs.lemmas.Iterator.Splits.{YieldsList-from_slice_split}
use Rattle.std.proofs.lemmas.Result.{IfOk-weaker}
use Rattle.bstr.specs.Owned.{joined}
use Rattle.edge_types.specs.Blanks.{trimmed}
use Rattle.page_http.specs.Cookies.{has_name, pairs_in}
use Rattle.page_http.proofs.cookies.named_in.Goals as goal

joined-join : (separator : List ℕ) (parts : List (List ℕ)) → joined separator parts ≡ join_by (λ part. part) separator parts
joined-join separator [] = refl
joined-join separator (part ∷ parts) = refl

pub returns : goal.returns
returns c =
    IfOk-weaker c.join.result _ _
    (λ v found. found.4
    ∙ ap (joined (codes "; ")) (items_from_drains found.1 (found.3.1.0, found.3.1.1, λ _. (found.3.0, found.3.1.2))
    (YieldsList-at found.2
    (YieldsList-from_filter _ (has_name c.args.names.now)
    (YieldsList-at c.filter-cookies.ensures.source
    (YieldsList-from_map_by _ (λ r. r.now) trimmed
    (YieldsList-at c.map.ensures.source
    (YieldsList-from_slice_split _ (λ b. b == 59) c.args.line.now c.split.ensures.rest c.split.ensures.done c.split.ensures.closure (λ x b q k. search (rules, tests))))
    c.map.ensures.closure (λ x r q k. search (rules, tests))))
    c.filter-cookies.ensures.closure (λ x b q k. search (rules, tests)))))
    ∙ joined-join (codes "; ") (filter (has_name c.args.names.now) (pairs_in c.args.line.now)))
    c.join.ensures

-- What a table has for a URL.
use Rattle.std.proofs.Common.{◌≡◌, ◌∙◌, ℕ, List, [], ◌∷◌, Option, Some, sym, ap, ap₂}
use Rattle.std.proofs.lemmas.Bool.{cond_both}
use Rattle.std.proofs.lemmas.Slice.Eq.{bytes_eq-Decides}
use Rattle.edge_types.specs.Answered.{Answered}
use Rattle.edge_types.specs.declared.answer.Reply.{Reply}
use Rattle.edge_types.specs.Table.{answer_of, is_of, reply_in}
use Rattle.answer_sources.specs.Given.{replied}

-- the answer of a URL names it
is_named : (table : List Answered) (url : List ℕ) (a : Answered) → answer_of table url ≡ Some a → a.url ≡ url
is_named [] url a is = absurd (cc)
is_named (first ∷ table) url a is =
    cond_both (is_of url first) (Some first) (answer_of table url) (λ (found : Option Answered). found ≡ Some a → a.url ≡ url)
    (λ named e. let same : first ≡ a = cc in ap (λ (x : Answered). x.url) (sym same) ∙ (bytes_eq-Decides first.url url).0 named)
    (λ other e. is_named table url a e)
    is

pub is_replied : (table : List Answered) (url : List ℕ) (a : Answered) → answer_of table url ≡ Some a → a ≡ replied table url
is_replied table url a is =
    ap₂ (λ u (x : Reply). record { url = u; reply = x }) (is_named table url a is) (sym (ap reply_in is))

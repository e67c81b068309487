-- A source without references.
use Rattle.std.proofs.Common.{◌≡◌, ℕ, ◌<◌, ◌≤◌, List, [], ◌∷◌, length, get_or, arith, ap, sym, ◌∙◌}
use Rattle.std.proofs.lemmas.List.{append-nil}
use Rattle.edge_types.specs.declared.request.Request.{Request}
use Rattle.esi_vars.specs.declared.part.Part.{Part}
use Rattle.esi_vars.specs.declared.part.Part.TheVariants as part
use Rattle.esi_vars.specs.Values.{part_value, substituted}

-- one text denotes itself, whatever the request is
pub text_alone : (source : List Part) (one other : Part) (text : List ℕ) → 1 ≤ length source → length source < 2 → one ≡ get_or source 0 other → one ≡ part.Text text
    → (r : Request) → substituted r source ≡ text
unfolding substituted
text_alone [] one other text some few first is r = absurd (omega (arith, some))
text_alone (p ∷ []) one other text some few first is r = append-nil (part_value r p) ∙ ap (part_value r) (sym first ∙ is)
text_alone (p ∷ q ∷ ps) one other text some few first is r = absurd (omega (arith, few))

use Rattle.std.proofs.Common.{◌≡◌, ◌==◌, List, [], ◌∷◌, length, refl, ◌∙◌, ap}
use Rattle.std.proofs.Math.Dec.{eqb-suc-zero}
use Rattle.esi_tree.specs.Reading.{Frame}
use Rattle.esi_tree.specs.State.{frames_of, is_none_open}
use Rattle.esi_tree.proofs.open_elements.OpenElements.is_empty.Goals as goal

none-open : (frames : List Frame) → (length frames == 0) ≡ is_none_open frames
none-open [] = refl
none-open (frame ∷ outer) = eqb-suc-zero (length outer)

pub returns : goal.returns
returns c = ap (λ n. n == 0) c.len.ensures ∙ none-open (frames_of c.args.self.now)

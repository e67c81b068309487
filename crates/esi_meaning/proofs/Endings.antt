-- What the code's loop over elements keeps.
use Rattle.std.proofs.Common.{◌≡◌, ℕ, ◌+◌, ◌<◌, ◌≤◌, List, ◌∷◌, ◌++◌, length, refl, sym, ◌∙◌, ap, append_assoc, length-append, arith, subst, drop, get_or, drop-cons, add-one}
use Rattle.std.proofs.lemmas.List.Folds.{concat-append}
use Rattle.edge_types.specs.Pieces.{joined}
use Rattle.edge_types.specs.declared.request.Request.{Request}
use Rattle.esi_vars.specs.declared.part.Part.{Part}
use Rattle.esi_tree.specs.declared.node.Node.{Node}
use Rattle.esi_tree.specs.Shown.{element_of, elements_of}
use Rattle.esi_meaning.specs.Meaning.{element_run, elements_run}
use Rattle.esi_meaning.specs.Run.{Run, in_turn, with_front}
use Rattle.esi_meaning.specs.Ending.{Ends, Adds}
use Rattle.esi_meaning.specs.declared.limits.TheConstants.{MAX_LEGS}
use Rattle.esi_meaning.specs.declared.draft.Ending.{Ending}
use Rattle.esi_meaning.specs.declared.draft.Ending.TheVariants.{Complete}
use Rattle.esi_meaning.specs.declared.draft.Draft.{Draft}
use Rattle.esi_meaning.proofs.RunLemmas.{with_front-with_front}

-- what is left of a run, after these legs and this text
pub record Leaves (whole rest : Run) (start now : Draft) : Type 0 where
  pub few : now.legs ≤ MAX_LEGS
  pub sum : start.legs + length whole.legs ≡ now.legs + length rest.legs
  pub text : List ℕ
  pub gave : whole.text ≡ with_front text rest.text
  pub added : Adds text start.body now.body

pub adds-more : (x y : List ℕ) (a b c : List (List ℕ)) → Adds x a b → Adds y b c → Adds (x ++ y) a c
adds-more x y a b c first second = record {
  pieces = first.pieces ++ second.pieces;
  appended = second.appended ∙ ap (λ (ps : List (List ℕ)). ps ++ second.pieces) first.appended ∙ append_assoc a first.pieces second.pieces;
  spell = concat-append first.pieces second.pieces ∙ ap (λ (bytes : List ℕ). bytes ++ joined second.pieces) first.spell ∙ ap (λ (bytes : List ℕ). x ++ bytes) second.spell;
}

module _ (whole a b : Run) (start old new : Draft) (left : Leaves whole (in_turn a b) start old) where
  pub leaves-more : Ends a old new Complete → Leaves whole b start new
  leaves-more e =
      let legs : length (in_turn a b).legs ≡ length a.legs + length b.legs = rw e.0.gave (length-append a.legs b.legs) in
      let gave : (in_turn a b).text ≡ with_front e.0.text b.text = rw e.0.gave refl in
      record {
        few = e.1.few;
        sum = omega (arith, e.1.sum, left.sum, legs);
        text = left.text ++ e.0.text;
        gave = left.gave ∙ ap (with_front left.text) gave ∙ with_front-with_front left.text e.0.text b.text;
        added = adds-more left.text e.0.text start.body old.body new.body left.added e.0.added;
      }

-- one element more, as the code goes over the nodes
pub leaves-next : (r : Request) (leg : List Part → Run) (whole : Run) (start old new : Draft) (nodes : List Node) (i : ℕ) (x : Node) (ending : Ending) → i < length nodes → x ≡ get_or nodes i x
    → Leaves whole (elements_run r leg (elements_of (drop i nodes))) start old → Ends (element_run r leg (element_of x)) old new ending → ending ≡ Complete
    → Leaves whole (elements_run r leg (elements_of (drop (i + 1) nodes))) start new
leaves-next r leg whole start old new nodes i x ending within is left e complete =
    let cons : drop i nodes ≡ x ∷ drop (i + 1) nodes = rw (add-one, drop-cons nodes i x, ← is) refl in
    let here = subst (λ (ns : List Node). Leaves whole (elements_run r leg (elements_of ns)) start old) cons left in
    let ended = subst (λ (v : Ending). Ends (element_run r leg (element_of x)) old new v) complete e in
    leaves-more whole (element_run r leg (element_of x)) (elements_run r leg (elements_of (drop (i + 1) nodes))) start old new here ended

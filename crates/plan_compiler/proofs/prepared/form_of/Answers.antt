use Rattle.std.proofs.Common.{◌≡◌, true, List, ℕ, Ok, map, sym, ap, ◌∙◌}
use Rattle.std.specs.Arc.{arc_value}
use Rattle.edge_types.specs.Answered.{Answered, processed, body_of}
use Rattle.esi_tree.specs.Answer.{tree_in}
use Rattle.esi_tree.specs.Reading.{tree_of}
use Rattle.esi_tree.specs.Tree.{Elements}
use Rattle.esi_meaning.specs.Inlines.{inlines}
use Rattle.plan_compiler.specs.declared.plan.Plan.{Plan}
use Rattle.plan_compiler.specs.Bodies as bodies
use Rattle.plan_compiler.specs.Code.{code_of}
use Rattle.plan_compiler.specs.Prepared.{IsPlanOf}
use Rattle.plan_compiler.specs.Shown.{steps_in, inlines_in}
use Rattle.plan_compiler.proofs.prepared.form_of.Goals as goal

planned : (text body : List ℕ) (t : Elements) (plan : Plan) → body ≡ text → tree_of body ≡ Ok t → steps_in plan ≡ code_of t → inlines_in plan ≡ bodies.entries t
    → map (bodies.body_in (steps_in plan)) (inlines_in plan) ≡ map bodies.body_of (inlines t) → IsPlanOf text plan
planned text body t plan same read steps entry inline =
    record { t = t; read = ap tree_of (sym same) ∙ read; steps_are = steps; entries_are = entry; inlines_are = inline }

pub returns-in-Ok : goal.returns-in-Ok
returns-in-Ok c =
    let is_processed : processed (arc_value c.args.answer.now).reply ≡ true =
    ap (λ (a : Answered). processed a.reply) (sym c.deref.ensures) ∙ sym c.processed.ensures ∙ c.if-not-processed.false in (
      is_processed,
      planned (body_of (arc_value c.args.answer.now).reply) c.in_ok-body.body (tree_in c.in-Ok.template) c.in_ok-compile-in-Ok.field-0
          (c.in_ok-body.ensures ∙ ap (λ (a : Answered). body_of a.reply) c.deref-2.ensures) c.in-Ok.ensures.tree c.in_ok-compile-in-Ok.ensures.steps c.in_ok-compile-in-Ok.ensures.entries c.in_ok-compile-in-Ok.ensures.inlines,
    )

-- An answer made ready: what its body is.
use Rattle.std.specs.Prelude.{◌≡◌, ℕ, true, false, List, [], map, Ok, Err}
use Rattle.edge_types.specs.Answered.{Answered, processed, body_of}
use Rattle.esi_tree.specs.Reading.{tree_of}
use Rattle.esi_tree.specs.Tree.{Elements}
use Rattle.esi_meaning.specs.Inlines.{inlines}
use Rattle.plan_compiler.specs.declared.plan.Plan.{Plan}
use Rattle.plan_compiler.specs.declared.prepared.Form.{Form}
use Rattle.plan_compiler.specs.declared.prepared.Form.TheVariants.{Plain, Planned, BadAt}
use Rattle.plan_compiler.specs.Bodies as bodies
use Rattle.plan_compiler.specs.Code.{code_of}
use Rattle.plan_compiler.specs.Shown.{steps_in, inlines_in}
use Rattle.plan_compiler.specs.Urls.{AreUrls}
use Rattle.plan_compiler.specs.declared.inline.Inline.{Inline}
use Rattle.plan_compiler.specs.declared.inline_urls.InlineUrls.{InlineUrls}

-- the plan of a text: the steps of its tree, and the bodies of its inlines
pub record IsPlanOf (text : List ℕ) (plan : Plan) : Type 0 where
  pub t : Elements
  pub read : tree_of text ≡ Ok t
  pub steps_are : steps_in plan ≡ code_of t
  pub entries_are : inlines_in plan ≡ bodies.entries t
  pub inlines_are : map (bodies.body_in (steps_in plan)) (inlines_in plan) ≡ map bodies.body_of (inlines t)

-- an answer has this form
abbrev pub IsForm : Answered → Form → Type 0
IsForm a Plain = processed a.reply ≡ false
IsForm a (Planned plan) = (processed a.reply ≡ true) × IsPlanOf (body_of a.reply) plan
IsForm a (BadAt place) = (processed a.reply ≡ true) × (tree_of (body_of a.reply) ≡ Err place)

-- the entries of a form
abbrev pub inlines_of : Form → List Inline
inlines_of Plain = []
inlines_of (Planned plan) = inlines_in plan
inlines_of (BadAt place) = []

-- an answer has this form, and the inlines in it these URLs
pub record IsReady (a : Answered) (form : Form) (urls : InlineUrls) : Type 0 where
  pub form_is : IsForm a form
  pub urls_are : AreUrls a.url (inlines_of form) urls

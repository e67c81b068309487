-- A page that isn't processed.
use Rattle.edge_types.specs.declared.answer.Reply.{Reply}
use Rattle.edge_types.specs.declared.answer.Reply.TheVariants.{Failed, Got}
use Rattle.edge_types.specs.declared.outcome.PageFault.TheVariants.{PageFetch}
use Rattle.edge_types.specs.Outcome.{Shown, Page, Fault}

abbrev pub plain_outcome : Reply → Shown
plain_outcome Failed = Fault PageFetch
plain_outcome (Got head control body) = Page head body

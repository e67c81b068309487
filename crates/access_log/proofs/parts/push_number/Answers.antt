use Rattle.std.proofs.Common.{sym, subst, ◌∙◌}
use Rattle.access_log.specs.Text.{IsPrintable}
use Rattle.access_log.proofs.Printable.{number}
use Rattle.access_log.proofs.parts.push_number.Goals as goal

pub push-requires : goal.push-requires
push-requires c = subst IsPrintable (sym (c.as_bytes.ensures.value ∙ c.format.ensures.text)) (number c.args.number).each

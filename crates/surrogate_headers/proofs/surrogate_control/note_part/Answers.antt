use Rattle.std.proofs.Common.{◌≡◌, Some, sym, ap, ◌∙◌}
use Rattle.edge_types.specs.Blanks.{trimmed}
use Rattle.surrogate_headers.specs.Directive.{directive_of, shown_directive, shown_target}
use Rattle.surrogate_headers.specs.Control.{directives_among}
use Rattle.surrogate_headers.specs.Found.{settled}
use Rattle.surrogate_headers.proofs.FoundLemmas.{settled-noted, settled-passed, among-some}
use Rattle.surrogate_headers.proofs.surrogate_control.note_part.Goals as goal

pub returns-in_default-aim_of : goal.returns-in_default-aim_of
returns-in_default-aim_of c = λ parts.
    let found = c.args.found.now in
    let device = c.args.device.now in
    let directive = c.in-Some.directive in
    let read : directive_of (trimmed c.args.part.now) ≡ Some (shown_directive directive) = ap directive_of (sym c.trimmed.ensures) ∙ sym c.in-Some.ensures in
    sym (ap (settled found device) (among-some c.args.part.now parts (shown_directive directive) read)
    ∙ settled-passed found directive.asks (shown_target directive.target) device (directives_among parts) (sym c.aim_of.ensures ∙ c.in_default-aim_of.is))

pub returns : goal.returns
returns c = λ parts.
    let found = c.args.found.now in
    let device = c.args.device.now in
    let directive = c.in-Some.directive in
    let read : directive_of (trimmed c.args.part.now) ≡ Some (shown_directive directive) = ap directive_of (sym c.trimmed.ensures) ∙ sym c.in-Some.ensures in
    ap (λ f. settled f device (directives_among parts)) c.note.ensures
    ∙ settled-noted found directive.asks (shown_target directive.target) c.in-Some-aim_of.aim device (directives_among parts) (sym c.aim_of.ensures ∙ c.in-Some-aim_of.is)
    ∙ sym (ap (settled found device) (among-some c.args.part.now parts (shown_directive directive) read))

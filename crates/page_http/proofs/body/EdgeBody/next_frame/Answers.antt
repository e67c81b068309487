-- The frame at the place of the next is the first of those that are left.
use Rattle.std.proofs.Common.{rules, ◌≡◌, [], slice_get, None, Some, sym, ◌∙◌, arith}
use Rattle.page_http.specs.Frames.{frames_in}
use Rattle.page_http.proofs.FrameLemmas.{left-next, length-next, none-left}
use Rattle.page_http.proofs.body.EdgeBody.next_frame.Goals as goal

pub returns-in_default-clause-frame : goal.returns-in_default-clause-frame
returns-in_default-clause-frame c =
    let none : slice_get (frames_in c.self.inside.frames) c.self.inside.next ≡ None = search rules in
    let empty : c.args.self.now ≡ [] = sym c.self.view_is ∙ none-left (frames_in c.self.inside.frames) c.self.inside.next none in
    (empty, empty)

pub overflow_sub-self : goal.overflow_sub-self
overflow_sub-self c =
    let some : slice_get (frames_in c.self.inside.frames) c.self.inside.next ≡ Some c.in-Some.bytes = search rules in
    omega (arith, c.len.ensures.value, c.self.invariant, length-next (frames_in c.self.inside.frames) c.self.inside.next c.in-Some.bytes some)

pub invariant_of-self : goal.invariant_of-self
invariant_of-self c =
    let some : slice_get (frames_in c.self.inside.frames) c.self.inside.next ≡ Some c.in-Some.bytes = search rules in
    omega (arith, c.len.ensures.value, c.self.invariant, length-next (frames_in c.self.inside.frames) c.self.inside.next c.in-Some.bytes some)

pub returns-clause-frame : goal.returns-clause-frame
returns-clause-frame c =
    let some : slice_get (frames_in c.self.inside.frames) c.self.inside.next ≡ Some c.in-Some.bytes = search rules in
    sym c.self.view_is ∙ left-next (frames_in c.self.inside.frames) c.self.inside.next c.in-Some.bytes some

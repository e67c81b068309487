use Rattle.std.proofs.Common.{◌≡◌, ◌∙◌, refl, sym, subst, List, ℕ, Bool, false, None}
use Rattle.origin_queue.specs.Queued.{Queued, stands, without}
use Rattle.origin_queue.specs.Queue.{LeavesAs, Leaves}
use Rattle.origin_queue.proofs.PlaceLemmas.{without_none}
use Rattle.origin_queue.proofs.queue.OriginQueue.leave.Goals as goal

-- who wasn't called leaves
leaves_waiting : (n : ℕ) (old : Queued) (waiting called : List ℕ) → stands n old.called ≡ false → waiting ≡ without n old.waiting → called ≡ without n old.called
    → Leaves old n None (record { bounds = old.bounds; out = old.out; given = old.given; waiting = waiting; called = called })
leaves_waiting n old waiting called none is kept =
    subst (λ (b : Bool). LeavesAs b old n None (record { bounds = old.bounds; out = old.out; given = old.given; waiting = waiting; called = called })) (sym none)
    (refl, λ i. record { bounds = old.bounds; out = old.out; given = old.given; waiting = is i; called = (kept ∙ without_none n old.called none) i })

pub returns : goal.returns
returns c =
    let inside = c.self.inside in
    let old : Queued = record { bounds = inside.bounds; out = inside.out; given = inside.given; waiting = inside.waiting.items; called = inside.called.items } in
    let new : Queued = record { bounds = inside.bounds; out = inside.out; given = inside.given; waiting = c.take_out-2.new.places.items; called = c.take_out.new.places.items } in
    subst (λ (was : Queued). Leaves was c.args.place.number None new) c.self.view_is
    (leaves_waiting c.args.place.number old c.take_out-2.new.places.items c.take_out.new.places.items (sym c.take_out.ensures.was_there ∙ c.if-take_out.false) c.take_out-2.ensures.after c.take_out.ensures.after)

use Rattle.std.proofs.Common.{◌+◌, inl, inr, arith}
use Rattle.std.proofs.KnownBytes.{Consumes-nil}
use Rattle.edge_case.proofs.Takes.{takes_all, takes_more, moved, whole_input, longer_input}
use Rattle.edge_case.proofs.input.read_up_to.Goals as goal

pub loop-text-init : goal.loop-text-init
loop-text-init g c = record { consumed = rw c.new-text.ensures.items (Consumes-nil _); few = omega arith }

pub returns-in_err-n-clause-at_most : goal.returns-in_err-n-clause-at_most
returns-in_err-n-clause-at_most g c =
    takes_more (c.args.most + 1) c.min-room.result _ _ _ c.loop-text.text.items
    (let long = c.loop-text.text.ok.0 in omega arith) c.loop-text.invariant.consumed c.in_err-n.ensures.err

pub returns-then-n-eq0-clause-whole : goal.returns-then-n-eq0-clause-whole
returns-then-n-eq0-clause-whole g c = λ few.
    let m = c.in_ok-n.ensures.ok in
    whole_input _ _ c.read_some.new.text.items (moved c.min-room.result c.in_ok-n.n _ _ _ c.loop-text.text.items c.read_some.new.text.items c.loop-text.invariant.consumed m)
    (m.end c.if-n-eq0.true (omega arith))

pub returns-then-n-eq0-clause-at_most : goal.returns-then-n-eq0-clause-at_most
returns-then-n-eq0-clause-at_most g c =
    let m = c.in_ok-n.ensures.ok in
    takes_all (c.args.most + 1) _ _ c.read_some.new.text.items (let long = c.read_some.new.text.ok.0 in let grown = c.in_ok-n.ensures.len in let few = m.few in omega arith)
    (moved c.min-room.result c.in_ok-n.n _ _ _ c.loop-text.text.items c.read_some.new.text.items c.loop-text.invariant.consumed m)

pub loop-text-preserved : goal.loop-text-preserved
loop-text-preserved g c =
    let m = c.in_ok-n.ensures.ok in
    record {
      consumed = moved c.min-room.result c.in_ok-n.n _ _ _ c.loop-text.text.items c.read_some.new.text.items c.loop-text.invariant.consumed m;
      few = let grown = c.in_ok-n.ensures.len in let few = m.few in omega arith;
    }

pub returns-clause-longer : goal.returns-clause-longer
returns-clause-longer g c = λ long.
    longer_input c.args.most _ _ c.loop-text.text.items c.loop-text.invariant.consumed (let len = c.loop-text.text.ok.0 in omega arith)

pub returns-clause-at_most : goal.returns-clause-at_most
returns-clause-at_most g c =
    takes_all (c.args.most + 1) _ _ c.loop-text.text.items (let len = c.loop-text.text.ok.0 in omega arith) c.loop-text.invariant.consumed

pub returns-clause-through : goal.returns-clause-through
returns-clause-through g c = inr (record { taken = c.loop-text.text.items; count = (let len = c.loop-text.text.ok.0 in let few = c.loop-text.invariant.few in omega arith); consumed = c.loop-text.invariant.consumed })

pub returns-then-n-eq0-clause-through : goal.returns-then-n-eq0-clause-through
returns-then-n-eq0-clause-through g c =
    let m = c.in_ok-n.ensures.ok in
    inl (m.end c.if-n-eq0.true (omega arith))

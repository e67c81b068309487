use Rattle.std.proofs.Common.{◌≡◌, false, take, drop, sym, ap, ◌∙◌, eq-eqb}
use Rattle.std.proofs.lemmas.List.{take_rest}
use Rattle.surrogate_headers.specs.Cut.{parts_of, parts_from}
use Rattle.surrogate_headers.proofs.PartsLemmas.{onto, onto_none, onto_cut, onto_end}
use Rattle.surrogate_headers.proofs.parts.first_part.Goals as goal

pub loop-i-init : goal.loop-i-init
loop-i-init c = onto_none false c.args.value.now

pub returns-in-44 : goal.returns-in-44
unfolding parts_of
returns-in-44 c =
    let value = c.args.value.now in
    let i = c.loop-i.i in
    let outside : parts_from c.loop-i.quoted (drop i value) ≡ parts_from false (drop i value) = ap (λ t. parts_from t (drop i value)) c.if-not-quoted.true in
    sym c.loop-i.invariant ∙ ap (onto (take i value)) outside ∙ onto_cut value i c.loop-i-test.true (eq-eqb _ _ c.in-44.is) ∙ simp take_rest

pub returns : goal.returns
unfolding parts_of
returns c = sym c.loop-i.invariant ∙ onto_end c.args.value.now c.loop-i.i c.loop-i.quoted c.loop-i-test.false

use Rattle.std.proofs.Common.{◌+◌, ◌-◌, ◌++◌, length, drop, refl, sym, ap, ◌∙◌, arith}
use Rattle.esi_vars.specs.Parts.{parts_of, text_part}
use Rattle.esi_vars.proofs.PartsLemmas.{next_within, rest_of, parts_turn, parts_end}
use Rattle.esi_vars.proofs.part.parts.Goals as goal

pub push_text-requires-clause-within : goal.push_text-requires-clause-within
push_text-requires-clause-within c =
    let cut = c.split_at.ensures.back ∙ ap (drop c.loop-found.at) c.as_bytes-bytes.ensures in
    let found = next_within c.loop-found.at 0 0 c.args.text.now _ _ _ _ c.loop-found.invariant.0 cut c.in-Some.ensures.value in
    omega (arith, found.order)

pub loop-found-preserved : goal.loop-found-preserved
loop-found-preserved c =
    let len = ap length c.as_bytes-bytes.ensures in
    let cut = c.split_at.ensures.back ∙ ap (drop c.loop-found.at) c.as_bytes-bytes.ensures in
    let found = next_within c.loop-found.at (c.loop-found.at + length c.in-Some.found.before.now) (length c.as_bytes-bytes.result.now - length c.in-Some.found.rest.now) c.args.text.now _ _ _ _ c.loop-found.invariant.0 cut c.in-Some.ensures.value in
    let text = c.in_ok-push_text.ensures ∙ ap (λ bytes. c.loop-found.parts.items ++ text_part bytes) (found.before_is refl) in
    let so_far = ap (λ left. c.loop-found.parts.items ++ parts_of left) cut ∙ c.loop-found.invariant.1 in (
      omega (arith, len, found.shorter),
      ap (λ left. c.push.new.self.items ++ parts_of left) (found.rest_is (omega (arith, len)))
          ∙ parts_turn _ _ _ _ _ _ _ _ _ text c.in_ok-push.ensures.items c.in_ok-owned.ensures c.in-Some.ensures.value so_far,
    )

pub returns : goal.returns
returns c =
    let len = ap length c.as_bytes-bytes.ensures in
    let cut = c.split_at.ensures.back ∙ ap (drop c.loop-found.at) c.as_bytes-bytes.ensures in
    let text = c.in_ok-push_text-2.ensures ∙ ap (λ bytes. c.loop-found.parts.items ++ text_part bytes) (rest_of c.args.text.now c.loop-found.at _ len ∙ sym cut) in
    let so_far = ap (λ left. c.loop-found.parts.items ++ parts_of left) cut ∙ c.loop-found.invariant.1 in
    parts_end _ _ _ _ text c.in_default.ensures.value so_far

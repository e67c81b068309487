use Rattle.std.proofs.Common.{◌≡◌, ◌<◌, ◌+◌, ◌-◌, is_some, length, Some, None, arith, sym, ◌∙◌, ap, Ok}
use Rattle.std.proofs.lemmas.List.{append-nil}
use Rattle.esi_scanner.specs.Scan.{token_at, tokens_at_end}
use Rattle.esi_scanner.proofs.ScanLemmas.{ahead, cut-start, cut-next, cut-fault, cut-end}
use Rattle.esi_scanner.proofs.scanner.tokens_of.Goals as goal

pub loop-rest-init : goal.loop-rest-init
loop-rest-init c = record { within = omega arith; so_far = rw c.new-tokens.ensures.items (cut-start c.args.text.now) }

pub returns-in_default : goal.returns-in_default
returns-in_default c =
    let some : 0 < length c.loop-rest.rest.now = grind arith in
    let none : token_at (is_some c.loop-rest.block) c.loop-rest.rest.now ≡ None = rw (← c.is_some.ensures) (sym (rw c.in_default.is at c.in_ok-kind.ensures.value)) in
    cut-fault c.args.text.now c.loop-rest.tokens.items c.loop-rest.block c.loop-rest.at c.loop-rest.rest.now some none c.loop-rest.invariant.so_far

pub overflow_sub-end : goal.overflow_sub-end
overflow_sub-end c =
    let shorter : length c.in-Some.after.now < length c.loop-rest.rest.now = rw c.in-Some.is at c.in_ok-kind.ensures.shorter in
    omega arith

pub loop-rest-smaller : goal.loop-rest-smaller
loop-rest-smaller c =
    let shorter : length c.in-Some.after.now < length c.loop-rest.rest.now = rw c.in-Some.is at c.in_ok-kind.ensures.shorter in
    shorter

pub loop-rest-preserved : goal.loop-rest-preserved
loop-rest-preserved c =
    let some : 0 < length c.loop-rest.rest.now = grind arith in
    let found : token_at (is_some c.loop-rest.block) c.loop-rest.rest.now ≡ Some (c.in-Some.kind, c.in-Some.after.now) = rw (← c.is_some.ensures) (sym (rw c.in-Some.is at c.in_ok-kind.ensures.value)) in
    let shorter : length c.in-Some.after.now < length c.loop-rest.rest.now = rw c.in-Some.is at c.in_ok-kind.ensures.shorter in
    let end = length c.args.text.now - length c.in-Some.after.now in
    let place : end ≡ c.loop-rest.at + (length c.loop-rest.rest.now - length c.in-Some.after.now) = omega arith in
    let next = cut-next c.args.text.now c.loop-rest.tokens.items c.loop-rest.block c.loop-rest.at c.loop-rest.rest.now c.in-Some.kind c.in-Some.after.now end some found shorter place c.loop-rest.invariant.so_far in
    record { within = omega arith; so_far = rw (c.in_ok-push.ensures.items, c.block_after-block.ensures) next }

pub returns-in-None : goal.returns-in-None
returns-in-None c =
    let none : length c.loop-rest.rest.now ≡ 0 = grind arith in
    cut-end c.args.text.now c.loop-rest.tokens.items c.loop-rest.block c.loop-rest.at c.loop-rest.rest.now none c.loop-rest.invariant.so_far
    ∙ ap (λ b. ahead c.loop-rest.tokens.items (tokens_at_end b)) c.in-None.is ∙ ap Ok (append-nil c.loop-rest.tokens.items)

pub returns-in-Some-block : goal.returns-in-Some-block
returns-in-Some-block c =
    let none : length c.loop-rest.rest.now ≡ 0 = grind arith in
    cut-end c.args.text.now c.loop-rest.tokens.items c.loop-rest.block c.loop-rest.at c.loop-rest.rest.now none c.loop-rest.invariant.so_far
    ∙ ap (λ b. ahead c.loop-rest.tokens.items (tokens_at_end b)) c.in-Some-block.is

use Rattle.std.proofs.Common.{[], ◌≤◌, ◌+◌, drop, arith}
use Rattle.template_check.specs.Warned.{warnings_from}
use Rattle.template_check.proofs.WarnedLemmas.{whole, token-next, token-end}
use Rattle.template_check.proofs.warned.token_warnings.Goals as goal

pub loop-token-preserved : goal.loop-token-preserved
loop-token-preserved c =
    let text = c.args.text.now in
    let tokens = c.args.tokens.now in
    let i = c.loop-token.token-index in
    let depth = c.loop-token.depth in
    let more : c.depth_behind-depth.result ≤ depth + 1 = c.depth_behind-depth.ensures.few in
    let before : depth ≤ i = c.loop-token.invariant.few in
    record {
      few = omega (arith, more, before);
      so_far = token-next depth c.depth_behind-depth.result i text c.token-item.result tokens (warnings_from 0 text tokens) c.loop-token.found.items c.add_token.new.found.items c.loop-token-test.true
          c.token-item.is c.loop-token.invariant.so_far c.in_ok-add_token.ensures c.depth_behind-depth.ensures.value;
    }

pub returns : goal.returns
returns c =
    let text = c.args.text.now in
    let tokens = c.args.tokens.now in
    let i = c.loop-token.token-index in
    let depth = c.loop-token.depth in
    whole [] (warnings_from 0 text tokens) c.loop-token.found.items (warnings_from depth text (drop i tokens)) c.loop-token.invariant.so_far (token-end depth text i tokens c.loop-token-test.false)

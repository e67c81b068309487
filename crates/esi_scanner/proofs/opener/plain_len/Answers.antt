use Rattle.esi_scanner.proofs.Places.{plain-outside, plain-inside}
use Rattle.esi_scanner.proofs.opener.plain_len.Goals as goal

pub returns-then-block-clause-plain : goal.returns-then-block-clause-plain
returns-then-block-clause-plain c =
    rw (c.if-block.true, c.unwrap_or.ensures) (plain-inside c.args.text.now c.memchr2.result c.memchr2.ensures)

pub returns-clause-plain : goal.returns-clause-plain
returns-clause-plain c =
    rw (c.if-block.false, c.unwrap_or-2.ensures) (plain-outside c.args.text.now c.memchr.result c.memchr.ensures)

use Rattle.std.proofs.Common.{◌≡◌, ◌<◌, None, false, take, codes, bytes_eq, sym, arith}
use Rattle.esi_scanner.specs.Scan.{mark_at}
use Rattle.esi_scanner.proofs.Places.{no-opener}
use Rattle.esi_scanner.proofs.scanner.token_at.Goals as goal

pub returns-clause-shorter : goal.returns-clause-shorter
returns-clause-shorter c =
    let none : mark_at c.args.block c.args.text.now ≡ None = sym c.in_default-mark_at.ensures.value in
    let no_open : bytes_eq (take 5 c.args.text.now) (codes "<esi:") ≡ false = rw c.as_slice.ensures at c.in_default.ensures.cases in
    let no_close : bytes_eq (take 6 c.args.text.now) (codes "</esi:") ≡ false = rw c.as_slice-2.ensures at c.in_default-strip_prefix.ensures.cases in
    let plain = no-opener c.args.block c.args.text.now no_open no_close none in
    let some : 0 < c.text_len.result = c.text_len.ensures.some plain c.requires in
    omega arith

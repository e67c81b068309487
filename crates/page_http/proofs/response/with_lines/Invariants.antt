-- What was added, with the lines that are left, is the whole.
use Rattle.std.proofs.Common.{◌≡◌, ◌↔◌, length, map, All}
use Rattle.http_header.specs.HeaderMap.{append_all}
use Rattle.page_http.specs.Sent.{IsLine, line_of}
use Rattle.page_http.proofs.response.with_lines.Given as goal

abbrev pub invariant-loop-lines : goal.invariant-loop-lines
invariant-loop-lines l =
    (append_all l.fields (map line_of l.lines) ≡ append_all l.fn.fields (map line_of l.fn.lines))
    × (All IsLine l.lines ↔ All IsLine l.fn.lines)

abbrev pub decreases-loop-lines : goal.decreases-loop-lines
decreases-loop-lines l = length l.lines

-- No frame is left exactly where the next is past the last.
use Rattle.std.proofs.Common.{◌≤◌, length, arith, sym, ◌∙◌}
use Rattle.std.proofs.lemmas.Bool.{leb-true, le-leb}
use Rattle.page_http.specs.Frames.{frames_in}
use Rattle.page_http.proofs.FrameLemmas.{done}
use Rattle.page_http.proofs.body.EdgeBody.is_done.Goals as goal

pub returns : goal.returns
returns c =
    let left = done (frames_in c.self.inside.frames) c.self.inside.next in (
      λ t. let past : c.count.result ≤ c.self.inside.next = leb-true _ _ t in
          sym c.self.view_is ∙ left.0 (omega (arith, c.count.ensures, past)),
      λ e. let past : length (frames_in c.self.inside.frames) ≤ c.self.inside.next = left.1 (c.self.view_is ∙ e) in
          le-leb _ _ (omega (arith, c.count.ensures, past)),
    )

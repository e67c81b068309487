-- Each frame is hashed behind those before it, and none is left at the end.
use Rattle.std.proofs.Common.{rules, ◌≡◌, ℕ, ◌+◌, List, ◌++◌, drop, slice_get, Some, None, sym, ap, ◌∙◌, arith, append-nil}
use Rattle.std.proofs.lemmas.List.{append_assoc}
use Rattle.std.proofs.lemmas.Option.{slice_get_within}
use Rattle.edge_types.specs.Pieces.{joined}
use Rattle.sha2.specs.Sha256.{sha256}
use Rattle.page_http.specs.Frames.{frames_in}
use Rattle.page_http.proofs.FrameLemmas.{left-next, none-left}
use Rattle.page_http.proofs.body.Frames.digest_from.Goals as goal

-- the bytes before the next frame and its own, and those after it
one-more : (frames : List (List ℕ)) (n : ℕ) (bytes m : List ℕ) → slice_get frames n ≡ Some bytes
    → (m ++ bytes) ++ joined (drop (n + 1) frames) ≡ m ++ joined (drop n frames)
one-more frames n bytes m some =
    append_assoc m bytes (joined (drop (n + 1) frames))
    ∙ ap (λ (left : List (List ℕ)). m ++ joined left) (sym (left-next frames n bytes some))

pub loop-frame-preserved-in-Some : goal.loop-frame-preserved-in-Some
loop-frame-preserved-in-Some c =
    let frames = frames_in c.args.self.now in
    let bytes = c.deref.result.now in
    let some : slice_get frames c.loop-frame.next ≡ Some bytes = search rules in
    let (m, held, whole) = c.loop-frame.invariant in
    (m ++ bytes, c.update.ensures m held, one-more frames c.loop-frame.next bytes m some ∙ whole)

pub loop-frame-smaller : goal.loop-frame-smaller
loop-frame-smaller c =
    let frames = frames_in c.args.self.now in
    let some : slice_get frames c.loop-frame.next ≡ Some c.deref.result.now = search rules in
    omega (arith, slice_get_within frames c.loop-frame.next c.deref.result.now some)

pub loop-frame-preserved : goal.loop-frame-preserved
loop-frame-preserved c =
    let frames = frames_in c.args.self.now in
    let bytes = c.deref.result.now in
    let some : slice_get frames c.loop-frame.next ≡ Some bytes = search rules in
    let (m, held, whole) = c.loop-frame.invariant in
    (m ++ bytes, c.update.ensures m held, one-more frames c.loop-frame.next bytes m some ∙ whole)

pub returns : goal.returns
returns c =
    let frames = frames_in c.args.self.now in
    let none : slice_get frames c.loop-frame.next ≡ None = search rules in
    let (m, held, whole) = c.loop-frame.invariant in
    c.finalize.ensures m held
    ∙ ap sha256 (sym (append-nil m) ∙ ap (λ (left : List (List ℕ)). m ++ joined left) (sym (none-left frames c.loop-frame.next none)) ∙ whole)

use Rattle.std.proofs.Common.{◌≡◌, ◌+◌, ◌≤◌, List, [], ◌∷◌, map, slice_get, None, Option, refl}
use Rattle.esi_tree.specs.declared.open_elements.TheConstants.{OPEN_LIMIT}
use Rattle.esi_tree.specs.Tree.{Element, depth}
use Rattle.esi_tree.specs.Shown.{row, element_of}
use Rattle.esi_tree.specs.Reading.{Frame, HasText}
use Rattle.esi_tree.specs.State.{frames_of, EndsWell}
use Rattle.esi_tree.proofs.reader.Reader.ended.Goals as goal

well-page : (frames : List Frame) (content : List Element) (top : Option Frame) → top ≡ None → top ≡ slice_get frames 0 → EndsWell (record { frames = frames; content = content }) → (depth (row content) ≤ OPEN_LIMIT + 1) × HasText (row content)
well-page [] content top none is well = well 0 (row content) refl
well-page (frame ∷ outer) content top none is well = absurd (cc)

pub of-requires : goal.of-requires
of-requires c =
    let well = well-page (frames_of c.args.self.open) (map element_of c.args.self.content.items) None refl c.in-None.ensures c.requires in
    record { shallow = well.0; written = well.1 }

-- The frames that are left of a body.
use Rattle.std.proofs.Common.{◌≡◌, ◌⊎◌, inl, inr, ℕ, ◌+◌, ◌-◌, ◌<◌, ◌≤◌, List, [], ◌∷◌, ◌++◌, length, drop, get_or, slice_get, None, Some, Result, Ok, Err, refl, sym, ap, ◌∙◌, arith, length-append}
use Rattle.std.proofs.lemmas.List.{append_assoc, drop_more, drop_all, length-drop}
use Rattle.std.proofs.lemmas.Option.{slice_get_within, slice_get_cases, get_or_from_slice_get}
use Rattle.std.specs.declared.alloc.AllocError.{AllocError}
use Rattle.edge_types.specs.Pieces.{joined}
use Rattle.http_body.specs.declared.frame.Frame.{Frame}
use Rattle.http_body.specs.Frame.{bytes_in}
use Rattle.page_http.specs.Laws.{GivesItsBytes, bytes_of}

-- the frame at a place, and those after it
pub left-next : (frames : List (List ℕ)) (n : ℕ) (bytes : List ℕ) → slice_get frames n ≡ Some bytes → drop n frames ≡ bytes ∷ drop (n + 1) frames
left-next frames n bytes e =
    drop_more frames n bytes (slice_get_within frames n bytes e)
    ∙ ap (λ b. b ∷ drop (n + 1) frames) (get_or_from_slice_get frames n bytes bytes e)

-- their bytes
pub length-next : (frames : List (List ℕ)) (n : ℕ) (bytes : List ℕ) → slice_get frames n ≡ Some bytes → length (joined (drop n frames)) ≡ length bytes + length (joined (drop (n + 1) frames))
length-next frames n bytes e =
    ap (λ (left : List (List ℕ)). length (joined left)) (left-next frames n bytes e)
    ∙ length-append bytes (joined (drop (n + 1) frames))

-- none is left past the last
pub none-left : (frames : List (List ℕ)) (n : ℕ) → slice_get frames n ≡ None → drop n frames ≡ []
none-left frames n e = by_place (slice_get_cases frames n).1
  where
    no : (x : List ℕ) → Some x ≡ None → drop n frames ≡ []
    no x is = cc

    by_place : ((x : List ℕ) × (n < length frames) × (slice_get frames n ≡ Some x) × (get_or frames n x ≡ x)) ⊎ ((length frames ≤ n) × (slice_get frames n ≡ None)) → drop n frames ≡ []
    by_place (inl there) = no there.0 (sym there.2 ∙ e)
    by_place (inr past) = drop_all n frames past.0

-- so it is exactly where the place is past the last
pub done : (frames : List (List ℕ)) (n : ℕ) → (length frames ≤ n → drop n frames ≡ []) × (drop n frames ≡ [] → length frames ≤ n)
done frames n = (
  drop_all n frames,
  λ e.
      let none : length (drop n frames) ≡ 0 = ap length e in
      let rest : length (drop n frames) ≡ length frames - n = length-drop n frames in
      omega arith,
)

-- the bytes that came, and those that are left
pub gives_its_bytes : GivesItsBytes
gives_its_bytes frames [] None e = (joined frames, refl, λ _. ap joined e)
gives_its_bytes frames [] (Some last) given = (joined frames, refl, λ is. more last is)
  where
    more : (last : Result (Frame (List ℕ)) AllocError) → Some last ≡ None → joined frames ≡ []
    more last is = cc
gives_its_bytes frames (Err e ∷ answers) last given = gives_its_bytes frames answers last given
gives_its_bytes frames (Ok frame ∷ answers) last given =
    let (left, taken, after) = given in
    let (bytes, first, as_data) = taken in
    let (rest, whole, end) = gives_its_bytes left answers last after in
    let own : bytes_in frame.kind ≡ bytes = ap (λ (f : Frame (List ℕ)). bytes_in f.kind) as_data in (
      rest,
      ap joined first
          ∙ ap (λ t. bytes ++ t) whole
          ∙ sym (append_assoc bytes (bytes_of answers) rest)
          ∙ ap (λ t. (t ++ bytes_of answers) ++ rest) (sym own),
      end,
    )

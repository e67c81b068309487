-- The parts of a text: references, and the text between them.
use Rattle.std.specs.Prelude.{ℕ, zero, suc, ◌-◌, List, [], ◌∷◌, ◌++◌, length, Option, Some, None}
use Rattle.esi_vars.specs.declared.reference.Reference.{Reference}
use Rattle.esi_vars.specs.declared.part.Part.{Part}
use Rattle.esi_vars.specs.declared.part.Part.TheVariants as part
use Rattle.esi_vars.specs.Reading.{Written, reference_at, written_at}

-- what is at a place, and at those after it: `after n` is what is past n more bytes
abbrev pub then_places : ℕ → List ℕ → (ℕ → List Part) → Option (Reference × List ℕ) → List Part
then_places b bs after None = part.Text (b ∷ []) ∷ after 0
then_places b bs after (Some found) = part.Reference found.0 ∷ after (length bs - length found.1)

-- past the first bytes of a text: at each place the reference that begins there, else one byte of text
unfoldable pub places_past : ℕ → List ℕ → List Part
places_past past [] = []
places_past (suc past) (b ∷ bs) = places_past past bs
places_past zero (b ∷ bs) = then_places b bs (λ past. places_past past bs) (reference_at (b ∷ bs))

-- the text read from the left: a reference where one begins, else one byte of text
unfoldable pub places_of : List ℕ → List Part
places_of text = places_past 0 text

-- text before other parts, made one with the text that they begin with
abbrev pub with_text : List ℕ → List Part → List Part
with_text bytes [] = part.Text bytes ∷ []
with_text bytes (part.Text more ∷ ps) = part.Text (bytes ++ more) ∷ ps
with_text bytes (part.Reference r ∷ ps) = part.Text bytes ∷ (part.Reference r ∷ ps)

-- neighbouring texts made one
unfoldable pub joined : List Part → List Part
joined [] = []
joined (part.Text bytes ∷ ps) = with_text bytes (joined ps)
joined (part.Reference r ∷ ps) = part.Reference r ∷ joined ps

-- the parts of a text: its references, and between them text in one piece
unfoldable pub parts_of : List ℕ → List Part
parts_of text = joined (places_of text)

-- bytes as a part, if there are any
abbrev pub text_part : List ℕ → List Part
text_part [] = []
text_part (b ∷ bs) = part.Text (b ∷ bs) ∷ []

-- the first reference of a text, what is before it and what follows it
pub record Found : Type 0 where
  pub before : List ℕ
  pub written : Written
  pub rest : List ℕ

-- more bytes before a reference that was found
abbrev pub with_before : List ℕ → Option Found → Option Found
with_before bytes None = None
with_before bytes (Some found) = Some (record { before = bytes ++ found.before; written = found.written; rest = found.rest })

-- the reference that begins here, else the one that is found later
abbrev pub found_or : Option (Written × List ℕ) → Option Found → Option Found
found_or None later = later
found_or (Some x) later = Some (record { before = []; written = x.0; rest = x.1 })

-- the first reference of a text
unfoldable pub next_reference : List ℕ → Option Found
next_reference [] = None
next_reference (b ∷ bs) = found_or (written_at (b ∷ bs)) (with_before (b ∷ []) (next_reference bs))

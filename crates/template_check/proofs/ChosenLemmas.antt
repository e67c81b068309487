-- The parts of a source, read from the left.
use Rattle.std.proofs.Common.{◌≡◌, ℕ, ◌+◌, ◌<◌, ◌≤◌, true, false, List, ◌∷◌, drop, length, get_or, ◌∙◌, ap, refl, sym}
use Rattle.std.proofs.lemmas.List.{drop_more, drop_all}
use Rattle.std.specs.List.{list_any}
use Rattle.esi_vars.specs.declared.part.Part.{Part}
use Rattle.esi_vars.specs.declared.part.Part.TheVariants as part
use Rattle.esi_vars.specs.declared.reference.Reference.{Reference}
use Rattle.template_check.specs.Chosen.{is_chosen, is_end, is_written}

-- the parts from a place on, by the part that is there
pub chosen-at : (i : ℕ) (d : Part) (parts : List Part) → i < length parts → is_chosen (drop i parts) ≡ is_chosen (get_or parts i d ∷ drop (i + 1) parts)
chosen-at i d parts within = ap is_chosen (drop_more parts i d within)

pub chosen-found : (i : ℕ) (d : Part) (parts : List Part) (r : Reference) → i < length parts → get_or parts i d ≡ part.Reference r → is_written r.variable r.key ≡ true → is_chosen (drop i parts) ≡ true
unfolding is_chosen
chosen-found i d parts r within is written = chosen-at i d parts within ∙ rw (is, written) refl

pub chosen-passed : (i : ℕ) (d : Part) (parts : List Part) (r : Reference) → i < length parts → get_or parts i d ≡ part.Reference r → is_written r.variable r.key ≡ false → is_chosen (drop (i + 1) parts) ≡ is_chosen (drop i parts)
unfolding is_chosen
chosen-passed i d parts r within is written = sym (chosen-at i d parts within ∙ rw (is, written) refl)

pub chosen-ended : (i : ℕ) (d : Part) (parts : List Part) (bytes : List ℕ) → i < length parts → get_or parts i d ≡ part.Text bytes → list_any is_end bytes ≡ true → is_chosen (drop i parts) ≡ false
unfolding is_chosen
chosen-ended i d parts bytes within is ends = chosen-at i d parts within ∙ rw (is, ends) refl

pub chosen-further : (i : ℕ) (d : Part) (parts : List Part) (bytes : List ℕ) → i < length parts → get_or parts i d ≡ part.Text bytes → list_any is_end bytes ≡ false → is_chosen (drop (i + 1) parts) ≡ is_chosen (drop i parts)
unfolding is_chosen
chosen-further i d parts bytes within is ends = sym (chosen-at i d parts within ∙ rw (is, ends) refl)

pub chosen-end : (i : ℕ) (parts : List Part) → length parts ≤ i → is_chosen (drop i parts) ≡ false
unfolding is_chosen
chosen-end i parts past = ap is_chosen (drop_all i parts past)

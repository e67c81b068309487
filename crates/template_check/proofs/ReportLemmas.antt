-- The lines of warnings, one after the other.
use Rattle.std.proofs.Common.{◌≡◌, ℕ, ◌+◌, ◌<◌, List, [], ◌∷◌, ◌++◌, take, length, get_or, sym, ◌∙◌, ap, subst, append_assoc, append-nil, Option}
use Rattle.std.proofs.lemmas.List.{take_more}
use Rattle.std.proofs.KnownBytes.{Appends-nil, Appends-trans}
use Rattle.std.specs.Io.KnownBytes.{Appends}
use Rattle.template_check.specs.declared.position.Position.{Position}
use Rattle.template_check.specs.declared.warned.Warned.{Warned}
use Rattle.template_check.specs.Positions.{position_of}
use Rattle.template_check.specs.Report.{warning_at, warning_lines}

lines-more : (name text : List ℕ) (front : List Warned) (w : Warned) → warning_lines name text (front ++ w ∷ []) ≡ warning_lines name text front ++ warning_at name (position_of text w.place) w.warning
unfolding warning_lines
lines-more name text [] w = append-nil (warning_at name (position_of text w.place) w.warning)
lines-more name text (f ∷ fs) w =
    let line = warning_at name (position_of text f.place) f.warning in
    ap (λ (back : List ℕ). line ++ back) (lines-more name text fs w)
    ∙ sym (append_assoc line (warning_lines name text fs) (warning_at name (position_of text w.place) w.warning))

-- before the first warning
pub none_yet : (a : Option (List ℕ)) (name text : List ℕ) (found : List Warned) → Appends a a (warning_lines name text (take 0 found))
unfolding warning_lines
none_yet a name text found = Appends-nil a

-- one warning more
pub one_more : (a b c : Option (List ℕ)) (name text : List ℕ) (found : List Warned) (i : ℕ) (d : Warned) (position : Position) → i < length found → position ≡ position_of text (get_or found i d).place
    → Appends a b (warning_lines name text (take i found)) → Appends b c (warning_at name position (get_or found i d).warning) → Appends a c (warning_lines name text (take (i + 1) found))
one_more a b c name text found i d position within is front line =
    let w = get_or found i d in
    let own = warning_at name (position_of text w.place) w.warning in
    let lines : warning_lines name text (take i found) ++ own ≡ warning_lines name text (take (i + 1) found) =
    sym (lines-more name text (take i found) w) ∙ ap (warning_lines name text) (sym (take_more found i d within)) in
    let last : Appends b c own = subst (λ (p : Position). Appends b c (warning_at name p w.warning)) is line in
    subst (Appends a c) lines (Appends-trans a b c (warning_lines name text (take i found)) own front last)

-- The bars of a chart, one after another.
use Rattle.std.proofs.Common.{◌≡◌, ℕ, ◌+◌, ◌<◌, ◌≤◌, List, ◌∷◌, ◌++◌, length, drop, get_or, sym, ◌∙◌, ap, append_assoc}
use Rattle.std.proofs.lemmas.List.{drop_more, drop_all, append-nil}
use Rattle.edge_metrics.specs.declared.history.Sample.{Sample}
use Rattle.edge_metrics.specs.declared.series.Series.{Series}
use Rattle.edge_metrics.specs.Page.{bar, bars, height_of, value_in}

-- one bar more is drawn, and then all are
pub bars_turn : (drawn : Series) (most left : ℕ) (text text1 : List ℕ) (samples : List Sample) (i : ℕ) (sample : Sample) (all : List ℕ) → i < length samples → sample ≡ get_or samples i sample
    → text1 ≡ text ++ bar left (height_of (value_in drawn sample) most) → text ++ bars drawn most left (drop i samples) ≡ all → text1 ++ bars drawn most (left + 10) (drop (i + 1) samples) ≡ all
bars_turn drawn most left text text1 samples i sample all within at added so_far =
    let cut : drop i samples ≡ sample ∷ drop (i + 1) samples = drop_more samples i sample within ∙ ap (λ q. q ∷ drop (i + 1) samples) (sym at) in
    rw added (append_assoc text (bar left (height_of (value_in drawn sample) most)) (bars drawn most (left + 10) (drop (i + 1) samples)))
    ∙ ap (λ rest. text ++ bars drawn most left rest) (sym cut) ∙ so_far

pub bars_end : (drawn : Series) (most left : ℕ) (text : List ℕ) (samples : List Sample) (i : ℕ) (all : List ℕ) → length samples ≤ i
    → text ++ bars drawn most left (drop i samples) ≡ all → text ≡ all
bars_end drawn most left text samples i all past so_far =
    sym (append-nil text) ∙ ap (λ rest. text ++ bars drawn most left rest) (sym (drop_all i samples past)) ∙ so_far

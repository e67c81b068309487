-- What is read is what is spelled.
use Rattle.std.proofs.Common.{◌≡◌, ℕ, List, [], ◌∷◌, ◌++◌, Some, Result, Ok, Err, refl, sym, ◌∙◌, ap, subst}
use Rattle.std.specs.List.{AllPass}
use Rattle.std.proofs.lemmas.List.{append-nil}
use Rattle.std.proofs.lemmas.Option.{same_Some}
use Rattle.std.specs.Result.{result_ok}
use Rattle.edge_types.specs.WhiteSpace.{is_ws}
use Rattle.esi_expr.specs.declared.reading.TheConstants.{NESTING_LIMIT}
use Rattle.esi_expr.specs.Tree.{Test}
use Rattle.esi_expr.specs.Reading.{Stopped, after_ws, test_with, neg_at, ended, reading, read_test}
use Rattle.esi_expr.specs.Spelling.{IsTest}
use Rattle.esi_expr.specs.Laws.{ReadsTests, TestsAreOne}
use Rattle.esi_vars.proofs.Sound.{Stands}
use Rattle.esi_expr.proofs.ReadingLemmas.{found_then, same_ok}
use Rattle.esi_expr.proofs.Sound.{Shallow, white_at, neg_sound, test_sound}
use Rattle.esi_expr.proofs.Complete.{all_white, white_ends, neg_again, test_again}

white_by : (rest : List ℕ) → (ws : List ℕ) × AllPass is_ws ws × (rest ≡ ws ++ after_ws rest) → after_ws rest ≡ [] → AllPass is_ws rest
white_by rest (ws, all, whole) none =
    let same : rest ≡ ws = whole ∙ (ap (λ (t : List ℕ). ws ++ t) none ∙ append-nil ws) in
    subst (λ (t : List ℕ). AllPass is_ws t) (sym same) all

ended_is : (one found : Test) (tail : List ℕ) → ended found tail ≡ Ok one → (found ≡ one) × (tail ≡ [])
ended_is one found [] e = (same_ok found one e, refl)
ended_is one found (b ∷ bs) e = absurd (cc)

sound_by : (text : List ℕ) (one : Test) (rest : List ℕ) → Stands (Shallow NESTING_LIMIT one) text rest → after_ws rest ≡ [] → IsTest one text
sound_by text one rest s none = record { piece = s.piece; ws = rest; spelled = s.is.0; shallow = s.is.1; white = white_by rest (white_at rest) none; whole = s.whole }

-- a reading that gives a test reads it to the text's end
test_read : (one : Test) (found : Result Test Stopped) → result_ok found ≡ Some one → found ≡ Ok one
test_read one (Ok other) e = ap (λ (y : Test). Ok y) (same_Some other one e)
test_read one (Err stop) e = absurd (cc)

read_sound : (text : List ℕ) (one : Test) → read_test text ≡ Some one → IsTest one text
unfolding read_test
read_sound text one e = found_then (λ found. ended found.0 (after_ws found.1)) (test_with (neg_at NESTING_LIMIT) text) one (test_read one (reading text) e) (λ x read end.
    let (same, none) = ended_is one x.0 (after_ws x.1) end in
    let s = test_sound NESTING_LIMIT (neg_at NESTING_LIMIT) (neg_sound NESTING_LIMIT) text x.0 x.1 read in
    subst (λ (y : Test). IsTest y text) same (sound_by text x.0 x.1 s none))

read_again : (text : List ℕ) (one : Test) → IsTest one text → read_test text ≡ Some one
unfolding read_test
read_again text one is =
    let read = test_again NESTING_LIMIT (neg_at NESTING_LIMIT) (neg_again NESTING_LIMIT) one is.piece is.ws is.spelled is.shallow (white_ends is.ws is.white) in
    rw (is.whole, read, all_white is.ws is.white) refl

pub reads_tests : ReadsTests
reads_tests text one = (read_sound text one, read_again text one)

pub tests_are_one : TestsAreOne
tests_are_one text one other a b = same_Some one other (sym (read_again text one a) ∙ read_again text other b)

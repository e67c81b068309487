-- Positions at the end of a walk.
use Rattle.std.proofs.Common.{◌≡◌, ℕ, ◌+◌, ◌-◌, ◌==◌, ◌≤◌, Bool, true, false, List, [], ◌∷◌, ◌++◌, take, drop, length, min, refl, sym, ◌∙◌, ap, arith}
use Rattle.std.specs.Str.{byte}
use Rattle.std.proofs.Math.Seq.{take-add}
use Rattle.std.proofs.lemmas.List.{drop_all, length-drop}
use Rattle.template_check.specs.declared.position.Position.{Position}
use Rattle.template_check.specs.Positions.{behind, behind_all, position_of}
use Rattle.template_check.specs.Laws.{before, line_feeds, IsOneLine, LineIsCounted, FirstLineIsCounted, ColumnIsCounted}

pub walked-all : (bytes : List ℕ) (i : ℕ) (position start : Position) → length bytes ≤ i → behind_all (drop i bytes) position ≡ behind_all bytes start → position ≡ behind_all bytes start
walked-all bytes i position start past is = ap (λ bs. behind_all bs position) (sym (drop_all i bytes past)) ∙ is

-- reading on from any position
line-step : (t : Bool) (b : ℕ) (bs : List ℕ) (start : Position) → (b == byte "\n") ≡ t → ((next : Position) → (behind_all bs next).line ≡ next.line + line_feeds bs) → (behind_all bs (behind b start)).line ≡ start.line + line_feeds (b ∷ bs)
line-step true b bs start is others = rw is (others (record { line = start.line + 1; column = 1 }) ∙ omega arith)
line-step false b bs start is others = rw is (others (record { line = start.line; column = start.column + 1 }))

line-from : (bytes : List ℕ) (start : Position) → (behind_all bytes start).line ≡ start.line + line_feeds bytes
line-from [] start = omega arith
line-from (b ∷ bs) start = line-step (b == byte "\n") b bs start refl (λ next. line-from bs next)

column-step : (t : Bool) (b : ℕ) (bs : List ℕ) (start : Position) → (b == byte "\n") ≡ t → ((next : Position) → IsOneLine bs → (behind_all bs next).column ≡ next.column + length bs) → IsOneLine (b ∷ bs) → (behind_all bs (behind b start)).column ≡ start.column + length (b ∷ bs)
column-step true b bs start is others one =
    let some : line_feeds bs + 1 ≡ 0 = rw is at one in
    absurd (omega (arith, some))
column-step false b bs start is others one =
    let none : line_feeds bs ≡ 0 = rw is at one in
    rw is (others (record { line = start.line; column = start.column + 1 }) none ∙ omega arith)

column-from : (bytes : List ℕ) (start : Position) → IsOneLine bytes → (behind_all bytes start).column ≡ start.column + length bytes
column-from [] start one = omega arith
column-from (b ∷ bs) start one = column-step (b == byte "\n") b bs start refl (λ next none. column-from bs next none) one

behind-append : (front back : List ℕ) (start : Position) → behind_all (front ++ back) start ≡ behind_all back (behind_all front start)
behind-append [] back start = refl
behind-append (b ∷ bs) back start = behind-append bs back (behind b start)

pub line-counted : LineIsCounted
unfolding position_of
line-counted text place = line-from (before text place) (record { line = 1; column = 1 }) ∙ omega arith

pub first-counted : FirstLineIsCounted
unfolding position_of
first-counted text place one = column-from (before text place) (record { line = 1; column = 1 }) one ∙ omega arith

pub column-counted : ColumnIsCounted
unfolding position_of
column-counted text place lines line is one =
    ap (λ bytes. (behind_all bytes (record { line = 1; column = 1 })).column) is
    ∙ ap (λ (p : Position). p.column) (behind-append lines (byte "\n" ∷ line) (record { line = 1; column = 1 }))
    ∙ column-from line (record { line = (behind_all lines (record { line = 1; column = 1 })).line + 1; column = 1 }) one
    ∙ omega arith

-- a position is no further on than the bytes before it
feeds-step : (t : Bool) (b : ℕ) (bs : List ℕ) → (b == byte "\n") ≡ t → line_feeds bs ≤ length bs → line_feeds (b ∷ bs) ≤ length (b ∷ bs)
feeds-step true b bs is few = rw is (omega (arith, few))
feeds-step false b bs is few = rw is (omega (arith, few))

feeds-few : (bytes : List ℕ) → line_feeds bytes ≤ length bytes
feeds-few [] = omega arith
feeds-few (b ∷ bs) = feeds-step (b == byte "\n") b bs refl (feeds-few bs)

few-step : (t : Bool) (b : ℕ) (bs : List ℕ) (start : Position) → (b == byte "\n") ≡ t → ((next : Position) → 1 ≤ next.column → (behind_all bs next).column ≤ next.column + length bs) → 1 ≤ start.column → (behind_all bs (behind b start)).column ≤ start.column + length (b ∷ bs)
few-step true b bs start is others some = rw is (omega (arith, some, others (record { line = start.line + 1; column = 1 }) (omega arith)))
few-step false b bs start is others some = rw is (omega (arith, others (record { line = start.line; column = start.column + 1 }) (omega arith)))

few-from : (bytes : List ℕ) (start : Position) → 1 ≤ start.column → (behind_all bytes start).column ≤ start.column + length bytes
few-from [] start some = omega arith
few-from (b ∷ bs) start some = few-step (b == byte "\n") b bs start refl (λ next any. few-from bs next any) some

pub lines_few : (text : List ℕ) (place : ℕ) → (position_of text place).line ≤ 1 + length (before text place)
lines_few text place = omega (arith, line-counted text place, feeds-few (before text place))

pub columns_few : (text : List ℕ) (place : ℕ) → (position_of text place).column ≤ 1 + length (before text place)
unfolding position_of
columns_few text place = few-from (before text place) (record { line = 1; column = 1 }) (omega arith)

-- the position of a place, counted on from that of an earlier one
pub counted_on : (text : List ℕ) (at place : ℕ) → at ≤ place → at ≤ length text → behind_all (take (min (place - at) (length (drop at text))) (drop at text)) (position_of text at) ≡ position_of text place
unfolding position_of
counted_on text at place earlier within =
    let start : Position = record { line = 1; column = 1 } in
    let n = min (place - at) (length (drop at text)) in
    let here : min at (length text) ≡ at = omega (arith, within) in
    let all : at + n ≡ min place (length text) = omega (arith, earlier, within, length-drop at text) in
    ap (λ m. behind_all (take n (drop at text)) (behind_all (take m text) start)) here
    ∙ sym (behind-append (take at text) (take n (drop at text)) start)
    ∙ ap (λ (bytes : List ℕ). behind_all bytes start) (sym (take-add at n text) ∙ ap (λ m. take m text) all)

-- the first byte's
pub at_start : (text : List ℕ) → record { line = 1; column = 1 } ≡ position_of text 0
unfolding position_of
at_start text =
    let none : 0 ≡ min 0 (length text) = omega arith in
    ap (λ n. behind_all (take n text) (record { line = 1; column = 1 })) none

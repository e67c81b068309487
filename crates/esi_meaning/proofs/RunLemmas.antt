-- How runs go together: a run after a run after a run, and the runs that change nothing.
use Rattle.std.proofs.Common.{◌≡◌, ℕ, List, [], ◌++◌, Option, Some, None, refl, sym, ◌∙◌, ap, append_assoc}
use Rattle.std.proofs.lemmas.List.{append-nil}
use Rattle.esi_meaning.specs.Run.{Leg, Run, gives, followed, with_front, behind, in_turn}

abbrev run_of : List Leg → Option (List ℕ) → Run
run_of legs text = record { legs = legs; text = text }

pub with_front-with_front : (a b : List ℕ) (o : Option (List ℕ)) → with_front a (with_front b o) ≡ with_front (a ++ b) o
with_front-with_front a b None = refl
with_front-with_front a b (Some c) = ap Some (sym (append_assoc a b c))

pub with_front-nil : (o : Option (List ℕ)) → with_front [] o ≡ o
with_front-nil None = refl
with_front-nil (Some text) = refl

pub followed-followed : (a : Run) (f g : Option (List ℕ) → Run) → followed (followed a f) g ≡ followed a (λ o. followed (f o) g)
followed-followed a f g =
    let b : Run = f a.text in
    let c : Run = g b.text in
    ap (λ (legs : List Leg). run_of legs c.text) (append_assoc a.legs b.legs c.legs)

-- nothing before a run
pub in_turn-nothing_before : (a : Run) → in_turn (gives (Some [])) a ≡ a
in_turn-nothing_before a = ap (run_of a.legs) (with_front-nil a.text)

nothing_behind : (legs : List Leg) (text : Option (List ℕ)) → in_turn (run_of legs text) (gives (Some [])) ≡ run_of legs text
nothing_behind legs None = ap (λ (ls : List Leg). run_of ls None) (append-nil legs)
nothing_behind legs (Some text) = ap (λ (ls : List Leg). run_of ls (Some (text ++ []))) (append-nil legs) ∙ ap (λ (x : List ℕ). run_of legs (Some x)) (append-nil text)

-- and nothing behind it
pub in_turn-nothing_behind : (a : Run) → in_turn a (gives (Some [])) ≡ a
in_turn-nothing_behind a = nothing_behind a.legs a.text

behind-behind : (b c : Run) (o : Option (List ℕ)) → followed (behind b o) (behind c) ≡ behind (in_turn b c) o
behind-behind b c None = refl
behind-behind b c (Some front) = later b.text
  where
    later : (o : Option (List ℕ)) → followed (run_of b.legs (with_front front o)) (behind c) ≡ behind (followed (run_of b.legs o) (behind c)) (Some front)
    later None = refl
    later (Some text) = ap (run_of (b.legs ++ c.legs)) (sym (with_front-with_front front text c.text))

pub in_turn-in_turn : (a b c : Run) → in_turn (in_turn a b) c ≡ in_turn a (in_turn b c)
in_turn-in_turn a b c =
    followed-followed a (behind b) (behind c) ∙ ap (λ (x : Run). run_of (a.legs ++ x.legs) x.text) (behind-behind b c a.text)

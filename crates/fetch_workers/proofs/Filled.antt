-- A log that is looked through by number.
use Rattle.std.proofs.Common.{◌≡◌, ℕ, suc, ◌<◌, ◌≤◌, List, [], ◌∷◌, length, map, Option, Some, None, option_map, slice_get, refl, sym, ◌∙◌, ap, arith}
use Rattle.std.specs.List.{filter_map}
use Rattle.std.proofs.lemmas.List.{length-map}
use Rattle.std.proofs.lemmas.Option.{slice_get-map}
use Rattle.answer_board.specs.Board.{State, answer_at, log_of}
use Rattle.fetch_workers.specs.declared.log.Own.{Own}

-- what a call gives of the items is no longer than these
given_first : {X : Type 0} (f : ℕ → Option X) (n : ℕ) (ns : List ℕ) (first : Option X) → f n ≡ first → length (filter_map f ns) ≤ length ns → length (filter_map f (n ∷ ns)) ≤ suc (length ns)
given_first f n ns None is short = rw is (omega (arith, short))
given_first f n ns (Some x) is short = rw is (omega (arith, short))

length_given : {X : Type 0} (f : ℕ → Option X) (ns : List ℕ) → length (filter_map f ns) ≤ length ns
length_given f [] = omega arith
length_given f (n ∷ ns) = given_first f n ns (f n) refl (length_given f ns)

-- lists with the same item at each place of the longer one
same_items : {X : Type 0} (xs ys : List X) → length xs ≤ length ys → ((k : ℕ) → k < length ys → slice_get xs k ≡ slice_get ys k) → xs ≡ ys
same_items [] [] short each = refl
same_items [] (y ∷ ys) short each =
    let clash : None ≡ Some y = each 0 (omega arith) in absurd (cc)
same_items (x ∷ xs) [] short each = absurd (omega (arith, short))
same_items (x ∷ xs) (y ∷ ys) short each =
    let heads : Some x ≡ Some y = each 0 (omega arith) in
    let head : x ≡ y = cc in
    let rest : xs ≡ ys = same_items xs ys (omega (arith, short)) (λ k below. each (suc k) (omega (arith, below))) in
    ap (λ h. h ∷ xs) head ∙ ap (λ l. y ∷ l) rest

-- the answers of a worker's list are the log, where each is the answer of its place
pub own_are_log : (b : State) (own : List Own) → length b.filled ≡ length own
    → ((k : ℕ) → k < length own → slice_get (log_of b) k ≡ option_map (λ (o : Own). o.answer) (slice_get own k))
    → map (λ (o : Own). o.answer) own ≡ log_of b
own_are_log b own same each =
    let len = length-map own (λ (o : Own). o.answer) in
    let short = length_given (answer_at b.slots) b.filled in
    sym (same_items (log_of b) (map (λ (o : Own). o.answer) own) (omega (arith, len, same, short)) (λ k below. each k (omega (arith, len, below)) ∙ sym (slice_get-map (λ (o : Own). o.answer) own k)))

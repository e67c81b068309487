-- The search for a word in an agent's field.
use Rattle.std.proofs.Common.{◌≡◌, ℕ, zero, suc, ◌+◌, ◌-◌, ◌<◌, ◌≤◌, false, true, List, [], ◌∷◌, length, take, drop, Some, None, nat_eq, refl, sym, ◌∙◌, ap, arith}
use Rattle.std.specs.List.{starts_with}
use Rattle.std.proofs.lemmas.Bool.{false_from_ne_true}
use Rattle.std.proofs.lemmas.List.{drop-drop, length-drop, length-append, take_at, take_all}
use Rattle.memchr.specs.Find.{FindsNeedle, Nowhere, OccursAt}
use Rattle.memchr.proofs.lemmas.MatchLemmas.{OccursAt-split, OccursAt-from_part}
use Rattle.esi_vars.specs.Agent.{behind}
use Rattle.esi_vars.proofs.AgentTheorems.{begins, begins_again, here, later, never, none_found}
use Rattle.esi_vars.proofs.SearchLemmas.{lacks_word}

-- a word occurs at a place if what follows the place begins with it
occurs : (word text : List ℕ) (at : ℕ) → at ≤ length text → starts_with nat_eq (drop at text) word ≡ true → OccursAt text word at
occurs word text at within is =
    let cut = begins word (drop at text) is in
    let part : take (length word) (drop at text) ≡ word = ap (take (length word)) cut ∙ take_at word (drop (length word) (drop at text)) (length word) refl in
    OccursAt-from_part text word at (omega (arith, ap length cut, length-append word (drop (length word) (drop at text)), length-drop at text)) part

-- places at which it doesn't begin are passed over
passed : (word text : List ℕ) (at : ℕ) → at ≤ length text → ((i : ℕ) → i < at → starts_with nat_eq (drop i text) word ≡ false) → behind word text ≡ behind word (drop at text)
passed word text zero within fails = refl
passed word [] (suc at) within fails = absurd (omega arith)
passed word (b ∷ bs) (suc at) within fails = later word b bs (fails 0 (omega arith)) ∙ passed word bs at (omega arith) (λ i h. fails (suc i) (omega arith))

found_here : (word text : List ℕ) → 0 < length text → starts_with nat_eq text word ≡ true → behind word text ≡ Some (drop (length word) text)
found_here word [] some is = absurd (omega arith)
found_here word (b ∷ bs) some is = here word b bs is

-- what a search finds in a text that isn't empty
after_place : (word text : List ℕ) (at : ℕ) → 0 < length text → FindsNeedle text word 0 (Some at) → Some (drop (at + length word) text) ≡ behind word text
after_place word text at some (first, stands) =
    let begun = begins_again word (drop at text) (drop (at + length word) text) (OccursAt-split text word at stands) in
    let short : at < length text = place_within word text at some first.before stands in
    let there = found_here word (drop at text) (omega (arith, length-drop at text)) begun in
    let skipped = passed word text at (omega arith) (λ i h. false_from_ne_true _ (λ is. first.before i (omega arith) h (occurs word text i (omega arith) is))) in
    sym (skipped ∙ there ∙ ap Some (drop-drop (length word) at text))
  where
    place_within : (word text : List ℕ) (at : ℕ) → 0 < length text → Nowhere (OccursAt text word) 0 at → OccursAt text word at → at < length text
    place_within [] text zero some before stands = some
    place_within [] text (suc at) some before stands = absurd (before 0 (omega arith) (omega arith) (occurs [] text 0 (omega arith) refl))
    place_within (w ∷ ws) text at some before stands = omega (arith, stands.fits)

pub behind_nothing : (word text : List ℕ) → length text ≡ 0 → None ≡ behind word text
behind_nothing word [] none = sym (never word)
behind_nothing word (b ∷ bs) none = absurd (omega (arith, none))

-- what is left of a text, as a cut of it
pub behind_found : (word text : List ℕ) (at : ℕ) → 0 < length text → FindsNeedle text word 0 (Some at)
    → Some (take (length text - (at + length word)) (drop (at + length word) text)) ≡ behind word text
behind_found word text at some found =
    ap Some (take_all (length text - (at + length word)) (drop (at + length word) text) (omega (arith, length-drop (at + length word) text))) ∙ after_place word text at some found

pub behind_absent : (word text : List ℕ) → Nowhere (OccursAt text word) 0 (length text + 1) → None ≡ behind word text
behind_absent word text nowhere = sym (none_found word text (lacks_word text word nowhere))

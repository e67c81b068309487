-- Why no token begins at an opener.
use Rattle.std.specs.Prelude.{ℕ, zero, suc, ◌-◌, ◌==◌, Bool, true, false, List, [], ◌∷◌, drop, length, min, codes, bytes_eq, Option, Some, None, if◌then◌else◌}
use Rattle.std.specs.List.{list_any}
use Rattle.std.specs.Borrow.{Bor}
use Rattle.esi_scanner.specs.declared.element_name.ElementName.{ElementName}
use Rattle.esi_scanner.specs.declared.problem.Problem.{Problem}
use Rattle.esi_scanner.specs.declared.problem.Problem.TheVariants as problem
use Rattle.esi_scanner.specs.declared.problem.Trouble.{Trouble}
use Rattle.edge_types.specs.WhiteSpace.{after_ws}
use Rattle.esi_scanner.specs.Bytes.{is_quote, attribute_len, begins_with, ◌>>=◌}
use Rattle.esi_scanner.specs.Tag.{name_at, equals_at, quoted_at, element_at, end_at}

-- the name of an attribute at the front, and what follows its value
unfoldable pub skipped_at : List ℕ → Option (List ℕ × List ℕ)
skipped_at text = do
  name ← name_at text
  value ← equals_at name.1
  quoted ← quoted_at value
  Some (name.0, quoted.1)

-- an attribute whose name is among those seen ends the walk, else what follows it does
abbrev pub walked_on : (List (List ℕ) → List ℕ → Bool × List ℕ) → List (List ℕ) → List ℕ → Option (List ℕ × List ℕ) → Bool × List ℕ
walked_on others seen text None = (false, text)
walked_on others seen text (Some first) =
    if list_any (bytes_eq first.0) seen then (true, text) else others (first.0 ∷ seen) first.1

-- what follows at most n attributes, up to one whose name came before; and whether one did
unfoldable pub walked : ℕ → List (List ℕ) → List ℕ → Bool × List ℕ
walked zero seen text = (false, text)
walked (suc n) seen text = walked_on (λ more rest. walked n more rest) seen text (skipped_at text)

-- the problem of a value that can't be read
abbrev pub value_problem : List ℕ → Problem
value_problem [] = problem.NoQuote
value_problem (b ∷ bs) = if is_quote b then problem.OpenQuote else problem.NoQuote

-- the problem of what follows an attribute's name
abbrev value_or_equals : Option (List ℕ) → Problem
value_or_equals None = problem.NoEquals
value_or_equals (Some value) = value_problem value

abbrev pub attribute_problem : List ℕ → Problem
attribute_problem text = value_or_equals (equals_at text)

-- the problem of an attribute, if there is white space before it
abbrev named_problem : Option (List ℕ × List ℕ) → Problem
named_problem None = problem.NoSpace
named_problem (Some name) = attribute_problem name.1

-- the problem of what follows the attributes, if no tag ends there
unfoldable pub end_problem : List ℕ → Problem × List ℕ
end_problem text =
    let after = after_ws text in
    if length after == 0 then (problem.TextEnds, after)
    else (if attribute_len after == 0 then (problem.StrayByte, after) else (named_problem (name_at text), after))

-- the problem of what follows the attributes: if a tag ends there, its element is the one that has to have an end
abbrev unended_problem : List ℕ → List ℕ → Option (Bool × List ℕ) → Problem × List ℕ
unended_problem text rest (Some end) = (problem.NoRemoveEnd, text)
unended_problem text rest None = end_problem rest

abbrev walked_problem : List ℕ → Bool × List ℕ → Problem × List ℕ
walked_problem text found = if found.0 then (problem.Twice, after_ws found.1) else unended_problem text found.1 (end_at found.1)

abbrev opened_problem : List ℕ → Option (ElementName × List ℕ) → Problem × List ℕ
opened_problem text None = (problem.UnknownElement, text)
opened_problem text (Some name) = walked_problem text (walked (length name.1) [] name.1)

-- the problem of an opening tag, from after its `<esi:` on
unfoldable pub open_problem : List ℕ → Problem × List ℕ
open_problem text = opened_problem text (element_at text)

abbrev closed_problem : List ℕ → Option (ElementName × List ℕ) → Problem × List ℕ
closed_problem text None = (problem.UnknownElement, text)
closed_problem text (Some name) =
    let after = after_ws name.1 in
    if length after == 0 then (problem.TextEnds, after) else (problem.StrayByte, after)

-- the problem of a closing tag, from after its `</esi:` on
unfoldable pub close_problem : List ℕ → Problem × List ℕ
close_problem text = closed_problem text (element_at text)

-- the problem of the opener at the front, and the text from where the problem is
unfoldable pub problem_of : List ℕ → Problem × List ℕ
problem_of text =
    if begins_with text (codes "<esi:") then open_problem (drop 5 text)
    else (if begins_with text (codes "</esi:") then close_problem (drop 6 text) else (problem.NoBlockEnd, text))

-- the problem of the opener at a place of a text, and its own place
unfoldable pub trouble_at : List ℕ → ℕ → Trouble
trouble_at text place =
    let found = problem_of (drop (min place (length text)) text) in
    record { problem = found.0; place = length text - length found.1 }

-- what a reader of the code returns, without where its bytes lie in memory
abbrev pub shown_problem : Problem × Bor (List ℕ) → Problem × List ℕ
shown_problem found = (found.0, found.1.now)

abbrev pub shown_walk : Bool × Bor (List ℕ) → Bool × List ℕ
shown_walk found = (found.0, found.1.now)

-- Laws of reading and of values, over the definitions alone.
use Rattle.std.specs.Prelude.{◌≡◌, ◌↔◌, ℕ, ◌<◌, List, [], ◌++◌, length, Some, None}
use Rattle.std.specs.Str.Iter.{HasSubslice}
use Rattle.edge_types.specs.declared.request.Request.{Request}
use Rattle.esi_vars.specs.declared.reference.Reference.{Reference}
use Rattle.esi_vars.specs.declared.part.Part.{Part}
use Rattle.esi_vars.specs.Reference.{IsReference}
use Rattle.esi_vars.specs.Reading.{reference_at}
use Rattle.esi_vars.specs.Spelling.{Spells}
use Rattle.esi_vars.specs.Parts.{parts_of}
use Rattle.edge_types.specs.Pieces.{joined}
use Rattle.esi_vars.specs.Values.{substituted, text_of, value_pieces}
use Rattle.esi_vars.specs.Field.{parts_between, halves, named}
use Rattle.esi_vars.specs.Agent.{behind}
use Rattle.esi_vars.specs.Finds.{AreParts, AreHalves, IsNamed, IsBehind}

-- what is read at the front of a text is what is spelled there
abbrev pub ReadsReferences : Type 0
ReadsReferences = (text rest : List ℕ) (reference : Reference) → (reference_at text ≡ Some (reference, rest)) ↔ ((piece : List ℕ) × IsReference piece reference × (text ≡ piece ++ rest))

-- the parts of a text spell it
abbrev pub PartsSpell : Type 0
PartsSpell = (text : List ℕ) → Spells (parts_of text) text

-- and no other parts do
abbrev pub PartsAreOne : Type 0
PartsAreOne = (parts : List Part) (text : List ℕ) → Spells parts text → parts ≡ parts_of text

-- substituting the parts gives the text with its references replaced
abbrev pub SubstitutesText : Type 0
SubstitutesText = (request : Request) (text : List ℕ) → substituted request (parts_of text) ≡ text_of request text

-- the pieces of the values, joined, are the values one after another
abbrev pub PiecesAreValues : Type 0
PiecesAreValues = (request : Request) (parts : List Part) → joined (value_pieces request [] parts) ≡ substituted request parts

-- the parts between such bytes are those that the bytes separate
abbrev pub CutsFields : Type 0
CutsFields = (separator : ℕ) (field : List ℕ) (parts : List (List ℕ)) → (parts_between separator field ≡ parts) ↔ AreParts separator field parts

-- the halves of a text are those at the first such byte
abbrev pub CutsOnce : Type 0
CutsOnce = (separator : ℕ) (text : List ℕ) (both : List ℕ × List ℕ) → (halves separator text ≡ both) ↔ AreHalves separator text both

-- the value that is looked up is that of the first part with the name
abbrev pub LooksUp : Type 0
LooksUp = (name value : List ℕ) (parts : List (List ℕ)) → (named name parts ≡ value) ↔ IsNamed name parts value

-- what is found after a word follows the first place at which it begins
abbrev pub FindsTheFirst : Type 0
FindsTheFirst = (word text rest : List ℕ) → 0 < length word → (behind word text ≡ Some rest) ↔ IsBehind word text rest

-- and nothing is found exactly if it doesn't occur
abbrev pub FindsNone : Type 0
FindsNone = (word text : List ℕ) → 0 < length word → (behind word text ≡ None) ↔ (¬ HasSubslice text word)

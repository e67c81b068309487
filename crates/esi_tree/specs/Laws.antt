-- What holds of templates and of how they are read.
use Rattle.std.specs.Prelude.{◌≡◌, ◌⊎◌, ◌↔◌, ℕ, List, [], ◌∷◌, ◌++◌, length, Ok, Err}
use Rattle.esi_scanner.specs.declared.token.Token.{Token}
use Rattle.esi_tree.specs.Tree.{Elements}
use Rattle.esi_tree.specs.Items.{Item, items_of}
use Rattle.esi_tree.specs.Template.{IsTemplate, Begins}
use Rattle.esi_scanner.specs.Spelling.{Spells, IsFaultAt}
use Rattle.esi_tree.specs.Reading.{tree_of_tokens, tree_of}

-- what is read from tokens is their template, and what is their template is read
abbrev pub ReadsTemplates : Type 0
ReadsTemplates = (text : List ℕ) (tokens : List Token) (tree : Elements) → (tree_of_tokens text tokens ≡ Ok tree) ↔ IsTemplate tree (items_of text tokens)

-- items are the template of at most one tree
abbrev pub OneTree : Type 0
OneTree = (tree other : Elements) (items : List Item) → IsTemplate tree items → IsTemplate other items → tree ≡ other

-- the first token that can't continue a template is there
pub record IsFirstBad (text : List ℕ) (tokens : List Token) (at : ℕ) : Type 0 where
  pub front : List Token
  pub token : Token
  pub back : List Token
  pub joined : tokens ≡ front ++ token ∷ back
  pub place : at ≡ token.span.start
  pub begins : Begins (items_of text front)
  pub ends : ¬ Begins (items_of text (front ++ token ∷ []))

-- the tokens begin a template but aren't one, and the place is that of the text's end
pub record EndsEarly (text : List ℕ) (tokens : List Token) (at : ℕ) : Type 0 where
  pub place : at ≡ length text
  pub begins : Begins (items_of text tokens)
  pub none : (tree : Elements) → ¬ IsTemplate tree (items_of text tokens)

-- a fault is reported at the first token that can't continue a template, else at the text's end
abbrev pub TellsThePlace : Type 0
TellsThePlace = (text : List ℕ) (tokens : List Token) (at : ℕ) → (tree_of_tokens text tokens ≡ Err at) ↔ (IsFirstBad text tokens at ⊎ EndsEarly text tokens at)

-- a text that tokens spell, which are the template of this tree
pub record IsText (tree : Elements) (text : List ℕ) : Type 0 where
  pub tokens : List Token
  pub spelled : Spells text tokens
  pub is : IsTemplate tree (items_of text tokens)

-- what is read from a text is its tree, and what is its tree is read
abbrev pub ReadsTexts : Type 0
ReadsTexts = (text : List ℕ) (tree : Elements) → (tree_of text ≡ Ok tree) ↔ IsText tree text

-- a text that tokens spell, which aren't a template from this place on
pub record IsNoTemplate (text : List ℕ) (at : ℕ) : Type 0 where
  pub tokens : List Token
  pub spelled : Spells text tokens
  pub place : IsFirstBad text tokens at ⊎ EndsEarly text tokens at

-- the place of a text's fault: that of its tokens, else that of its template
abbrev pub TellsThePlaceOfTexts : Type 0
TellsThePlaceOfTexts = (text : List ℕ) (at : ℕ) → (tree_of text ≡ Err at) ↔ (IsFaultAt text at ⊎ IsNoTemplate text at)

-- a text is the template of at most one tree
abbrev pub TextsAreOne : Type 0
TextsAreOne = (text : List ℕ) (tree other : Elements) → IsText tree text → IsText other text → tree ≡ other

-- Items read one after another, first without a look at the depth.
use Rattle.std.proofs.Common.{◌≡◌, ℕ, Bool, true, false, nat_lt, cond, List, [], ◌∷◌, ◌++◌, length, Option, Some, None, refl, ◌∙◌, ap}
use Rattle.std.proofs.lemmas.Option.{option_and_then_some}
use Rattle.esi_scanner.specs.declared.element_name.ElementName.{ElementName}
use Rattle.esi_scanner.specs.declared.element_name.ElementName.TheVariants as element
use Rattle.esi_scanner.specs.declared.attribute.Attribute.{Attribute}
use Rattle.esi_scanner.specs.declared.tag.Tag.{Tag}
use Rattle.esi_scanner.specs.Bytes.{◌>>=◌}
use Rattle.esi_tree.specs.declared.open_elements.TheConstants.{OPEN_LIMIT}
use Rattle.esi_tree.specs.Tree.{Element}
use Rattle.esi_tree.specs.Items.{Item, Text, Open, Close, Remove, Block}
use Rattle.esi_tree.specs.Template.{struck}
use Rattle.esi_tree.specs.Reading.{Frame, State, Child, put, put_in, after_text, after_remove, may_stand, opened_by, inside, entered, name_of, is_same, child_of, left, after_tag, after}

-- what has been read after an opening tag, however many elements are open
abbrev pub opened : Tag → State → Option State
opened tag state = entered tag.name tag.attributes state >>= λ within. cond tag.closed (left tag.name within) (Some within)

-- what has been read after an item, however many elements are open
abbrev pub taken : Item → State → Option State
taken (Text bytes) state = after_text bytes state
taken (Open tag) state = opened tag state
taken (Close name) state = left name state
taken Remove state = after_remove state
taken Block state = Some state

-- whether one more element may be open, where the item opens one
abbrev pub fits : Item → ℕ → Bool
fits (Open tag) n = nat_lt n OPEN_LIMIT
fits (Text bytes) n = true
fits (Close name) n = true
fits Remove n = true
fits Block n = true

pub after-is : (item : Item) (state : State) → after item state ≡ cond (fits item (length state.frames)) (taken item state) None
unfolding after after_tag
after-is (Text bytes) state = refl
after-is (Open tag) state = refl
after-is (Close name) state = refl
after-is Remove state = refl
after-is Block state = refl

abbrev pub run : List Item → State → Option State
run [] state = Some state
run (item ∷ items) state = taken item state >>= λ next. run items next

-- the same with a look at the depth
abbrev pub steps : List Item → State → Option State
steps [] state = Some state
steps (item ∷ items) state = after item state >>= λ next. steps items next

bind-append : (o : Option State) (xs ys : List Item) → ((s : State) → run (xs ++ ys) s ≡ (run xs s >>= λ n. run ys n)) → (o >>= λ s. run (xs ++ ys) s) ≡ ((o >>= λ s. run xs s) >>= λ n. run ys n)
bind-append None xs ys each = refl
bind-append (Some s) xs ys each = each s

pub run-append : (xs ys : List Item) (state : State) → run (xs ++ ys) state ≡ (run xs state >>= λ n. run ys n)
run-append [] ys state = refl
run-append (x ∷ xs) ys state = bind-append (taken x state) xs ys (λ s. run-append xs ys s)

-- what the first items and then the others do
pub run-after : (xs ys : List Item) (state next : State) → run xs state ≡ Some next → run (xs ++ ys) state ≡ run ys next
run-after xs ys state next first = run-append xs ys state ∙ ap (λ o. o >>= λ n. run ys n) first

pub run-one : (item : Item) (items : List Item) (state next : State) → taken item state ≡ Some next → run (item ∷ items) state ≡ run items next
run-one item items state next first = ap (λ o. o >>= λ n. run items n) first

bind-struck : (o : Option State) (items : List Item) → ((s : State) → run (struck items) s ≡ run items s) → (o >>= λ s. run (struck items) s) ≡ (o >>= λ s. run items s)
bind-struck None items each = refl
bind-struck (Some s) items each = each s

-- the marks of blocks make no difference
pub run-struck : (items : List Item) (state : State) → run (struck items) state ≡ run items state
run-struck [] state = refl
run-struck (Text bytes ∷ items) state = bind-struck (after_text bytes state) items (λ s. run-struck items s)
run-struck (Open tag ∷ items) state = bind-struck (opened tag state) items (λ s. run-struck items s)
run-struck (Close name ∷ items) state = bind-struck (left name state) items (λ s. run-struck items s)
run-struck (Remove ∷ items) state = bind-struck (after_remove state) items (λ s. run-struck items s)
run-struck (Block ∷ items) state = run-struck items state

pub struck-append : (xs ys : List Item) → struck (xs ++ ys) ≡ struck xs ++ struck ys
struck-append [] ys = refl
struck-append (Text bytes ∷ xs) ys = ap (λ items. Text bytes ∷ items) (struck-append xs ys)
struck-append (Open tag ∷ xs) ys = ap (λ items. Open tag ∷ items) (struck-append xs ys)
struck-append (Close name ∷ xs) ys = ap (λ items. Close name ∷ items) (struck-append xs ys)
struck-append (Remove ∷ xs) ys = ap (λ items. Remove ∷ items) (struck-append xs ys)
struck-append (Block ∷ xs) ys = struck-append xs ys

-- a choice that gave something was made by the test
pub chosen_some : {A : Type 0} (b : Bool) (o : Option A) (x : A) → cond b o None ≡ Some x → (b ≡ true) × (o ≡ Some x)
chosen_some true o x e = (refl, e)
chosen_some false o x e = absurd (cc)

-- what a tag must be that enters an element
pub record Enters (name : ElementName) (attributes : List Attribute) (state within : State) : Type 0 where
  pub frame : Frame
  pub allowed : may_stand name state.frames ≡ true
  pub opens : opened_by name attributes ≡ Some frame
  pub within_is : inside frame state ≡ within

pub entered-inverts : (name : ElementName) (attributes : List Attribute) (state within : State) → entered name attributes state ≡ Some within → Enters name attributes state within
unfolding entered
entered-inverts name attributes state within e =
    let parts = chosen_some (may_stand name state.frames) (opened_by name attributes >>= λ frame. Some (inside frame state)) within e in
    option_and_then_some (λ frame. Some (inside frame state)) (opened_by name attributes) within parts.1 (λ frame opens rest.
    record { frame = frame; allowed = parts.0; opens = opens; within_is = cc })

pub entered-is : (name : ElementName) (attributes : List Attribute) (state : State) (frame : Frame) → may_stand name state.frames ≡ true → opened_by name attributes ≡ Some frame → entered name attributes state ≡ Some (inside frame state)
unfolding entered
entered-is name attributes state frame allowed opens = rw (allowed, opens) refl

-- what an opening tag does
pub opened-is : (tag : Tag) (state within : State) (closed : Bool) → tag.closed ≡ closed → entered tag.name tag.attributes state ≡ Some within → opened tag state ≡ cond closed (left tag.name within) (Some within)
opened-is tag state within closed is into = rw (is, into) refl

pub opened-inverts : (tag : Tag) (state next : State) → opened tag state ≡ Some next → (within : State) × Enters tag.name tag.attributes state within × (cond tag.closed (left tag.name within) (Some within) ≡ Some next)
opened-inverts tag state next e =
    option_and_then_some (λ within. cond tag.closed (left tag.name within) (Some within)) (entered tag.name tag.attributes state) next e
    (λ within into rest. (within, entered-inverts tag.name tag.attributes state within into, rest))

pub same-self : (name : ElementName) → is_same name name ≡ true
same-self element.Include = refl
same-self element.Inline = refl
same-self element.Choose = refl
same-self element.When = refl
same-self element.Otherwise = refl
same-self element.Try = refl
same-self element.Attempt = refl
same-self element.Except = refl
same-self element.Comment = refl
same-self element.Remove = refl
same-self element.Vars = refl

pub same-is : (a b : ElementName) → is_same a b ≡ true → a ≡ b
same-is element.Include element.Include e = refl
same-is element.Inline element.Inline e = refl
same-is element.Choose element.Choose e = refl
same-is element.When element.When e = refl
same-is element.Otherwise element.Otherwise e = refl
same-is element.Try element.Try e = refl
same-is element.Attempt element.Attempt e = refl
same-is element.Except element.Except e = refl
same-is element.Comment element.Comment e = refl
same-is element.Remove element.Remove e = refl
same-is element.Vars element.Vars e = refl
same-is _ _ e = absurd (cc)

-- what the end of an element leaves
pub left-is : (name : ElementName) (frame : Frame) (child : Child) (state : State) → name ≡ name_of frame → child_of frame ≡ Some child → left name (inside frame state) ≡ Some (put child state)
unfolding left
left-is name frame child state named is = rw (named, same-self (name_of frame), is) refl

-- what must have been open where an element ends
pub record Leaves (name : ElementName) (frames : List Frame) (content : List Element) (next : State) : Type 0 where
  pub frame : Frame
  pub outer : List Frame
  pub child : Child
  pub frames_are : frames ≡ frame ∷ outer
  pub named : name ≡ name_of frame
  pub child_is : child_of frame ≡ Some child
  pub next_is : put_in child outer content ≡ next

pub left-inverts : (name : ElementName) (frames : List Frame) (content : List Element) (next : State) → left name (record { frames = frames; content = content }) ≡ Some next → Leaves name frames content next
unfolding left
left-inverts name [] content next e = absurd (cc)
left-inverts name (frame ∷ outer) content next e =
    let parts = chosen_some (is_same name (name_of frame)) (child_of frame >>= λ child. Some (put_in child outer content)) next e in
    option_and_then_some (λ child. Some (put_in child outer content)) (child_of frame) next parts.1 (λ child is rest.
    record { frame = frame; outer = outer; child = child; frames_are = refl; named = same-is name (name_of frame) parts.0; child_is = is; next_is = cc })

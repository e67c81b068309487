-- A template that is read is no deeper than the elements that may be open, and one: each open element has room for what
-- has been read inside.
use Rattle.std.proofs.Common.{◌≡◌, ℕ, ◌+◌, ◌<◌, ◌≤◌, max, Bool, true, false, cond, List, [], ◌∷◌, ◌++◌, length, Option, Some, None, unwrap_or, Result, Ok, Err, refl, sym, ap, subst, arith, ltb, ltb-true}
use Rattle.std.specs.List.{list_any}
use Rattle.std.proofs.lemmas.Option.{cond_some, option_and_then_some}
use Rattle.esi_scanner.specs.declared.attribute.Attribute.{Attribute}
use Rattle.esi_scanner.specs.declared.element_name.ElementName.{ElementName}
use Rattle.esi_scanner.specs.declared.element_name.ElementName.TheVariants as element
use Rattle.esi_scanner.specs.declared.tag.Tag.{Tag}
use Rattle.esi_scanner.specs.declared.token.Token.{Token}
use Rattle.esi_scanner.specs.Bytes.{◌>>=◌}
use Rattle.esi_expr.specs.Tree.{Test}
use Rattle.esi_tree.specs.declared.include.Include.{Include}
use Rattle.esi_tree.specs.declared.open_elements.TheConstants.{OPEN_LIMIT}
use Rattle.esi_tree.specs.Tree as tree
use Rattle.esi_tree.specs.Tree.{Element, Elements, Branches, NoBranch, element_depth, depth, branches_depth}
use Rattle.esi_tree.specs.Shown.{row, Branch, branch_before, branch_row}
use Rattle.esi_tree.specs.Items.{Item, Text, Open, Close, Remove, Block, item_of}
use Rattle.esi_tree.specs.Attributes.{include_of, when_test, inline_name, is_white}
use Rattle.esi_tree.specs.Reading.{Halves, Neither, AttemptAlone, ExceptAlone, Both, Frame, InInclude, InComment, InInline, InVars, InChoose, InWhen, InOtherwise, InTry, InAttempt, InExcept, State, start, Child, AnElement, ABranch, AnAttempt, AnExcept, with_attempt, with_except, with_element, with_branch, with_half, grown, grown_page, put_in, put, is_run, in_vars, text_element, after_text, after_remove, is_when, may_stand, opened_by, inside, entered, name_of, is_same, child_of, left_in, left, after_tag, after, ended, then_read, read_from, tree_of_tokens}

-- how deep the parts of a try are
abbrev halves_depth : Halves → ℕ
halves_depth Neither = 0
halves_depth (AttemptAlone attempt) = depth attempt
halves_depth (ExceptAlone except) = depth except
halves_depth (Both attempt except swapped) = max (depth attempt) (depth except)

-- how deep what has been read in an open element is
abbrev frame_depth : Frame → ℕ
frame_depth (InInclude include) = 0
frame_depth InComment = 0
frame_depth (InInline name content) = depth (row content)
frame_depth (InVars content) = depth (row content)
frame_depth (InChoose branches) = branches_depth (branch_row branches)
frame_depth (InWhen test content) = depth (row content)
frame_depth (InOtherwise content) = depth (row content)
frame_depth (InTry halves) = halves_depth halves
frame_depth (InAttempt content) = depth (row content)
frame_depth (InExcept content) = depth (row content)

-- how deep a child is
abbrev child_depth : Child → ℕ
child_depth (AnElement e) = element_depth e
child_depth (ABranch branch) = depth branch.content
child_depth (AnAttempt content) = depth content
child_depth (AnExcept content) = depth content

abbrev depth_in : Option Child → ℕ
depth_in None = 0
depth_in (Some child) = child_depth child

abbrev frame_depth_in : Option Frame → ℕ
frame_depth_in None = 0
frame_depth_in (Some frame) = frame_depth frame

row-push : (es : List Element) (e : Element) → depth (row (es ++ e ∷ [])) ≡ max (depth (row es)) (element_depth e)
row-push [] e = omega arith
row-push (x ∷ es) e = let behind = row-push es e in omega arith

branch-depth : (test : Option Test) (content : Elements) (rest : Branches) → branches_depth (branch_before test content rest) ≡ max (depth content) (branches_depth rest)
branch-depth None content rest = refl
branch-depth (Some test) content rest = refl

branch_row-push : (bs : List Branch) (b : Branch) → branches_depth (branch_row (bs ++ b ∷ [])) ≡ max (branches_depth (branch_row bs)) (depth b.content)
branch_row-push [] b = let alone = branch-depth b.test b.content NoBranch in omega arith
branch_row-push (x ∷ bs) b =
    let longer = branch-depth x.test x.content (branch_row (bs ++ b ∷ [])) in
    let before = branch-depth x.test x.content (branch_row bs) in
    let behind = branch_row-push bs b in
    omega arith

with_attempt-depth : (content : Elements) (halves : Halves) → halves_depth (with_attempt content halves) ≤ max (halves_depth halves) (depth content)
with_attempt-depth content Neither = omega arith
with_attempt-depth content (AttemptAlone attempt) = omega arith
with_attempt-depth content (ExceptAlone except) = omega arith
with_attempt-depth content (Both attempt except swapped) = omega arith

with_except-depth : (content : Elements) (halves : Halves) → halves_depth (with_except content halves) ≤ max (halves_depth halves) (depth content)
with_except-depth content Neither = omega arith
with_except-depth content (AttemptAlone attempt) = omega arith
with_except-depth content (ExceptAlone except) = omega arith
with_except-depth content (Both attempt except swapped) = omega arith

with_element-depth : (e : Element) (frame : Frame) → frame_depth (with_element e frame) ≤ max (frame_depth frame) (element_depth e)
with_element-depth e (InInclude include) = omega arith
with_element-depth e InComment = omega arith
with_element-depth e (InInline name content) = let longer = row-push content e in omega arith
with_element-depth e (InVars content) = let longer = row-push content e in omega arith
with_element-depth e (InChoose branches) = omega arith
with_element-depth e (InWhen test content) = let longer = row-push content e in omega arith
with_element-depth e (InOtherwise content) = let longer = row-push content e in omega arith
with_element-depth e (InTry halves) = omega arith
with_element-depth e (InAttempt content) = let longer = row-push content e in omega arith
with_element-depth e (InExcept content) = let longer = row-push content e in omega arith

with_branch-depth : (branch : Branch) (frame : Frame) → frame_depth (with_branch branch frame) ≤ max (frame_depth frame) (depth branch.content)
with_branch-depth branch (InInclude include) = omega arith
with_branch-depth branch InComment = omega arith
with_branch-depth branch (InInline name content) = omega arith
with_branch-depth branch (InVars content) = omega arith
with_branch-depth branch (InChoose branches) = let longer = branch_row-push branches branch in omega arith
with_branch-depth branch (InWhen test content) = omega arith
with_branch-depth branch (InOtherwise content) = omega arith
with_branch-depth branch (InTry halves) = omega arith
with_branch-depth branch (InAttempt content) = omega arith
with_branch-depth branch (InExcept content) = omega arith

with_half-depth : (more : Halves → Halves) (n : ℕ) (frame : Frame) → ((halves : Halves) → halves_depth (more halves) ≤ max (halves_depth halves) n) → frame_depth (with_half more frame) ≤ max (frame_depth frame) n
with_half-depth more n (InInclude include) most = omega arith
with_half-depth more n InComment most = omega arith
with_half-depth more n (InInline name content) most = omega arith
with_half-depth more n (InVars content) most = omega arith
with_half-depth more n (InChoose branches) most = omega arith
with_half-depth more n (InWhen test content) most = omega arith
with_half-depth more n (InOtherwise content) most = omega arith
with_half-depth more n (InTry halves) most = most halves
with_half-depth more n (InAttempt content) most = omega arith
with_half-depth more n (InExcept content) most = omega arith

grown-depth : (child : Child) (frame : Frame) → frame_depth (grown child frame) ≤ max (frame_depth frame) (child_depth child)
grown-depth (AnElement e) frame = with_element-depth e frame
grown-depth (ABranch branch) frame = with_branch-depth branch frame
grown-depth (AnAttempt content) frame = with_half-depth (with_attempt content) (depth content) frame (with_attempt-depth content)
grown-depth (AnExcept content) frame = with_half-depth (with_except content) (depth content) frame (with_except-depth content)

grown_page-depth : (child : Child) (content : List Element) → depth (row (grown_page child content)) ≤ max (depth (row content)) (child_depth child)
grown_page-depth (AnElement e) content = let longer = row-push content e in omega arith
grown_page-depth (ABranch branch) content = omega arith
grown_page-depth (AnAttempt attempt) content = omega arith
grown_page-depth (AnExcept except) content = omega arith

try-depth : (halves : Halves) (child : Child) → child_of (InTry halves) ≡ Some child → child_depth child ≤ halves_depth halves + 1
unfolding child_of
try-depth Neither child e = absurd (cc)
try-depth (AttemptAlone attempt) child e = absurd (cc)
try-depth (ExceptAlone except) child e = absurd (cc)
try-depth (Both attempt except swapped) child e = let same = ap depth_in e in omega arith

-- what an element gives at its end is deeper by one at most
child_of-depth : (frame : Frame) (child : Child) → child_of frame ≡ Some child → child_depth child ≤ frame_depth frame + 1
unfolding child_of
child_of-depth (InInclude include) child e = let same = ap depth_in e in omega arith
child_of-depth InComment child e = let same = ap depth_in e in omega arith
child_of-depth (InInline name content) child e = let same = ap depth_in e in omega arith
child_of-depth (InVars content) child e = let same = ap depth_in e in omega arith
child_of-depth (InChoose branches) child e =
    let same = ap child_depth (cond_some (list_any is_when branches) (AnElement (tree.Choose (branch_row branches))) child e).1 in
    omega arith
child_of-depth (InWhen test content) child e = let same = ap depth_in e in omega arith
child_of-depth (InOtherwise content) child e = let same = ap depth_in e in omega arith
child_of-depth (InTry halves) child e = try-depth halves child e
child_of-depth (InAttempt content) child e = let same = ap depth_in e in omega arith
child_of-depth (InExcept content) child e = let same = ap depth_in e in omega arith

-- nothing has been read in an element that has just been opened
opened_by-depth : (name : ElementName) (attributes : List Attribute) (frame : Frame) → opened_by name attributes ≡ Some frame → frame_depth frame ≡ 0
unfolding opened_by
opened_by-depth element.Include attributes frame e =
    option_and_then_some (λ (include : Include). Some (InInclude include)) (include_of attributes) frame e (λ include first rest. sym (ap frame_depth_in rest))
opened_by-depth element.Inline attributes frame e =
    option_and_then_some (λ (name : List ℕ). Some (InInline name [])) (inline_name attributes) frame e (λ name first rest. sym (ap frame_depth_in rest))
opened_by-depth element.Choose attributes frame e = sym (ap frame_depth_in e)
opened_by-depth element.When attributes frame e =
    option_and_then_some (λ (test : Test). Some (InWhen test [])) (when_test attributes) frame e (λ test first rest. sym (ap frame_depth_in rest))
opened_by-depth element.Otherwise attributes frame e = sym (ap frame_depth_in e)
opened_by-depth element.Try attributes frame e = sym (ap frame_depth_in e)
opened_by-depth element.Attempt attributes frame e = sym (ap frame_depth_in e)
opened_by-depth element.Except attributes frame e = sym (ap frame_depth_in e)
opened_by-depth element.Comment attributes frame e = sym (ap frame_depth_in e)
opened_by-depth element.Remove attributes frame e = absurd (cc)
opened_by-depth element.Vars attributes frame e = sym (ap frame_depth_in e)

-- each open element has room for what has been read inside, and for one more
abbrev Fit : List Frame → Type 0
Fit [] = Unit {0}
Fit (frame ∷ outer) = (frame_depth frame + length outer ≤ OPEN_LIMIT) × (length outer < OPEN_LIMIT) × Fit outer

record Fits (state : State) : Type 0 where
  frames : Fit state.frames
  page : depth (row state.content) ≤ OPEN_LIMIT + 1

few : (frames : List Frame) → Fit frames → length frames ≤ OPEN_LIMIT
few [] fit = omega arith
few (frame ∷ outer) fit = let less = fit.1 in omega arith

carried : (state next : State) → Some state ≡ Some next → Fits state → Fits next
carried state next e fits =
    let P : State → Type 0 = λ s. Fits s in
    let same : state ≡ next = ap (λ o. unwrap_or o next) e in
    subst P same fits

put-fits : (child : Child) (frames : List Frame) (content : List Element) → Fit frames → depth (row content) ≤ OPEN_LIMIT + 1 → child_depth child + length frames ≤ OPEN_LIMIT + 1 → Fits (put_in child frames content)
put-fits child [] content fit page room = record { frames = tt; page = let most = grown_page-depth child content in omega arith }
put-fits child (frame ∷ outer) content fit page room =
    let most = grown-depth child frame in
    let held = fit.0 in
    record { frames = (omega arith, fit.1, fit.2); page = page }

chosen : {A : Type 0} (b : Bool) (o : Option A) (x : A) → cond b o None ≡ Some x → (b ≡ true) × (o ≡ Some x)
chosen true o x e = (refl, e)
chosen false o x e = absurd (cc)

left-fits : (name : ElementName) (frames : List Frame) (content : List Element) (next : State) → left_in name frames content ≡ Some next → Fit frames → depth (row content) ≤ OPEN_LIMIT + 1 → Fits next
left-fits name [] content next e fit page = absurd (cc)
left-fits name (frame ∷ outer) content next e fit page =
    let outside : State = record { frames = outer; content = content } in
    let ends = (chosen (is_same name (name_of frame)) (child_of frame >>= λ child. Some (put child outside)) next e).1 in
    option_and_then_some (λ (child : Child). Some (put child outside)) (child_of frame) next ends (λ child first rest.
    let most = child_of-depth frame child first in
    let held = fit.0 in
    carried (put child outside) next rest (put-fits child outer content fit.2 page (omega arith)))

text_element-depth : (vars : Bool) (bytes : List ℕ) → element_depth (text_element vars bytes) ≡ 1
text_element-depth false bytes = refl
text_element-depth true bytes = refl

either-fits : (run white : Bool) (grown_state state next : State) → cond run (Some grown_state) (cond white (Some state) None) ≡ Some next → Fits grown_state → Fits state → Fits next
either-fits true white grown_state state next e more fits = carried grown_state next e more
either-fits false true grown_state state next e more fits = carried state next e fits
either-fits false false grown_state state next e more fits = absurd (cc)

text-fits : (bytes : List ℕ) (state next : State) → after_text bytes state ≡ Some next → Fits state → Fits next
unfolding after_text
text-fits bytes state next e fits =
    let child : Child = AnElement (text_element (in_vars state.frames) bytes) in
    let one = text_element-depth (in_vars state.frames) bytes in
    let room = few state.frames fits.frames in
    either-fits (is_run state.frames) (is_white bytes) (put child state) state next e (put-fits child state.frames state.content fits.frames fits.page (omega arith)) fits

remove-fits : (state next : State) → after_remove state ≡ Some next → Fits state → Fits next
unfolding after_remove
remove-fits state next e fits =
    let room = few state.frames fits.frames in
    let is = (cond_some (is_run state.frames) (put (AnElement tree.Nothing) state) next e).1 in
    carried (put (AnElement tree.Nothing) state) next (ap Some is) (put-fits (AnElement tree.Nothing) state.frames state.content fits.frames fits.page (omega arith))

entered-fits : (name : ElementName) (attributes : List Attribute) (state within : State) → entered name attributes state ≡ Some within → length state.frames < OPEN_LIMIT → Fits state → Fits within
unfolding entered
entered-fits name attributes state within e less fits =
    let stands = (chosen (may_stand name state.frames) (opened_by name attributes >>= λ frame. Some (inside frame state)) within e).1 in
    option_and_then_some (λ (frame : Frame). Some (inside frame state)) (opened_by name attributes) within stands (λ frame first rest.
    let none = opened_by-depth name attributes frame first in
    let more : Fits (inside frame state) = record { frames = (omega arith, less, fits.frames); page = fits.page } in
    carried (inside frame state) within rest more)

closed-fits : (closed : Bool) (name : ElementName) (within next : State) → cond closed (left name within) (Some within) ≡ Some next → Fits within → Fits next
unfolding left
closed-fits true name within next e fits = left-fits name within.frames within.content next e fits.frames fits.page
closed-fits false name within next e fits = carried within next e fits

tag-fits : (tag : Tag) (state next : State) → after_tag tag state ≡ Some next → Fits state → Fits next
unfolding after_tag
tag-fits tag state next e fits =
    let opens = chosen (ltb (length state.frames) OPEN_LIMIT) (entered tag.name tag.attributes state >>= λ within. cond tag.closed (left tag.name within) (Some within)) next e in
    let less = ltb-true (length state.frames) OPEN_LIMIT opens.0 in
    option_and_then_some (λ within. cond tag.closed (left tag.name within) (Some within)) (entered tag.name tag.attributes state) next opens.1 (λ within first rest.
    closed-fits tag.closed tag.name within next rest (entered-fits tag.name tag.attributes state within first less fits))

close-fits : (name : ElementName) (state next : State) → left name state ≡ Some next → Fits state → Fits next
unfolding left
close-fits name state next e fits = left-fits name state.frames state.content next e fits.frames fits.page

after-fits : (item : Item) (state next : State) → after item state ≡ Some next → Fits state → Fits next
unfolding after
after-fits (Text bytes) state next e fits = text-fits bytes state next e fits
after-fits (Open tag) state next e fits = tag-fits tag state next e fits
after-fits (Close name) state next e fits = close-fits name state next e fits
after-fits Remove state next e fits = remove-fits state next e fits
after-fits Block state next e fits = carried state next e fits

abbrev depth_of : Result Elements ℕ → ℕ
depth_of (Ok read) = depth read
depth_of (Err at) = 0

ended-depth : (frames : List Frame) (content : List Element) (end : ℕ) (t : Elements) → ended frames content end ≡ Ok t → depth (row content) ≤ OPEN_LIMIT + 1 → depth t ≤ OPEN_LIMIT + 1
ended-depth [] content end t e page =
    let same = ap depth_of e in
    omega arith
ended-depth (frame ∷ outer) content end t e page = absurd (cc)

read-next : {P : Type 0} (others : State → Result Elements ℕ) (at : ℕ) (o : Option State) (t : Elements) → then_read others at o ≡ Ok t → ((next : State) → o ≡ Some next → others next ≡ Ok t → P) → P
read-next others at None t e k = absurd (cc)
read-next others at (Some next) t e k = k next refl e

read-depth : (text : List ℕ) (tokens : List Token) (state : State) (t : Elements) → read_from text tokens state ≡ Ok t → Fits state → depth t ≤ OPEN_LIMIT + 1
unfolding read_from
read-depth text [] state t e fits = ended-depth state.frames state.content (length text) t e fits.page
read-depth text (token ∷ tokens) state t e fits =
    read-next (λ next. read_from text tokens next) token.span.start (after (item_of text token) state) t e (λ next first rest.
    read-depth text tokens next t rest (after-fits (item_of text token) state next first fits))

-- the tree of a text's tokens is no deeper
pub depth_tokens : (text : List ℕ) (tokens : List Token) (t : Elements) → tree_of_tokens text tokens ≡ Ok t → depth t ≤ OPEN_LIMIT + 1
unfolding tree_of_tokens
depth_tokens text tokens t e = read-depth text tokens start t e (record { frames = tt; page = omega arith })

-- How deep what a template holds is: no element, branch or inline is deeper than the template.
use Rattle.std.proofs.Common.{◌≡◌, ℕ, zero, suc, ◌<◌, ◌≤◌, max, Bool, true, false, if◌then◌else◌, List, [], ◌∷◌, length, get_or, ap, arith, Option, Some, None}
use Rattle.std.specs.Option.{option_or}
use Rattle.edge_types.specs.declared.request.Request.{Request}
use Rattle.esi_expr.specs.Truth.{holds}
use Rattle.esi_tree.specs.declared.node.Node.{Node}
use Rattle.esi_tree.specs.Tree.{Element, Text, VarsText, Include, Choose, Try, Vars, Inline, Nothing, Elements, End, Then, Branches, NoBranch, When, Otherwise, element_depth, depth, branches_depth}
use Rattle.esi_tree.specs.Shown.{element_of, elements_of}
use Rattle.esi_meaning.specs.Inlines.{names, inline_in, inline_for, inline_in_branches}
use Rattle.esi_meaning.specs.Meaning.{chosen_content}

pub depth_at : (nodes : List Node) (i : ℕ) (x : Node) → i < length nodes → x ≡ get_or nodes i x → element_depth (element_of x) ≤ depth (elements_of nodes)
depth_at [] i x within is = absurd (omega arith)
depth_at (y ∷ nodes) zero x within is = let e = ap (λ (n : Node). element_depth (element_of n)) is in omega (arith, e)
depth_at (y ∷ nodes) (suc i) x within is = omega (arith, depth_at nodes i x (omega arith) is)

-- the branch that is taken
depth_cond : (b : Bool) (xs ys : Elements) (n : ℕ) → depth ys ≤ n → depth (if b then xs else ys) ≤ max (depth xs) n
depth_cond true xs ys n h = omega arith
depth_cond false xs ys n h = omega arith

depth_chosen : (r : Request) (otherwise : Elements) (bs : Branches) → depth (chosen_content r otherwise bs) ≤ max (branches_depth bs) (depth otherwise)
depth_chosen r otherwise NoBranch = omega arith
depth_chosen r otherwise (When test content rest) =
    omega (arith, depth_cond (holds r test) content (chosen_content r otherwise rest) (max (branches_depth rest) (depth otherwise)) (depth_chosen r otherwise rest))
depth_chosen r otherwise (Otherwise content rest) = omega (arith, depth_chosen r content rest)

pub depth_chosen_content : (r : Request) (bs : Branches) → depth (chosen_content r End bs) ≤ branches_depth bs
depth_chosen_content r bs = omega (arith, depth_chosen r End bs)

-- an inline
depth_or : (a b : Option Elements) (c : Elements) (m n : ℕ) → ((d : Elements) → a ≡ Some d → depth d ≤ m) → ((d : Elements) → b ≡ Some d → depth d ≤ n) → option_or a b ≡ Some c → depth c ≤ max m n
depth_or None b c m n ha hb e = omega (arith, hb c e)
depth_or (Some x) b c m n ha hb e = omega (arith, ha c e)

depth_if : (b : Bool) (x c : Elements) (other : Option Elements) (n : ℕ) → depth x ≤ n → ((d : Elements) → other ≡ Some d → depth d ≤ n) → (if b then Some x else other) ≡ Some c → depth c ≤ n
depth_if true x c other n hx ho e = let same : x ≡ c = cc in rw (← same) hx
depth_if false x c other n hx ho e = ho c e

none_is : (c : Elements) (n : ℕ) → None ≡ Some c → depth c ≤ n
none_is c n e = absurd (cc)

mutual
  depth_inline_in : (u w : List ℕ) (e : Element) (c : Elements) → inline_in u w e ≡ Some c → depth c ≤ element_depth e
  depth_inline_in u w (Text text) c h = none_is c _ h
  depth_inline_in u w (VarsText parts) c h = none_is c _ h
  depth_inline_in u w (Include include) c h = none_is c _ h
  depth_inline_in u w (Choose branches) c h = omega (arith, depth_inline_in_branches u w branches c h)
  depth_inline_in u w (Try attempt except false) c h =
      omega (arith, depth_or (inline_for u w attempt) (inline_for u w except) c (depth attempt) (depth except) (depth_inline_for u w attempt) (depth_inline_for u w except) h)
  depth_inline_in u w (Try attempt except true) c h =
      omega (arith, depth_or (inline_for u w except) (inline_for u w attempt) c (depth except) (depth attempt) (depth_inline_for u w except) (depth_inline_for u w attempt) h)
  depth_inline_in u w (Vars content) c h = omega (arith, depth_inline_for u w content c h)
  depth_inline_in u w (Inline name content) c h =
      omega (arith, depth_if (names u w name) content c (inline_for u w content) (depth content) (omega arith) (depth_inline_for u w content) h)
  depth_inline_in u w Nothing c h = none_is c _ h

  pub depth_inline_for : (u w : List ℕ) (es : Elements) (c : Elements) → inline_for u w es ≡ Some c → depth c ≤ depth es
  depth_inline_for u w End c h = none_is c _ h
  depth_inline_for u w (Then first rest) c h =
      depth_or (inline_in u w first) (inline_for u w rest) c (element_depth first) (depth rest) (depth_inline_in u w first) (depth_inline_for u w rest) h

  depth_inline_in_branches : (u w : List ℕ) (bs : Branches) (c : Elements) → inline_in_branches u w bs ≡ Some c → depth c ≤ branches_depth bs
  depth_inline_in_branches u w NoBranch c h = none_is c _ h
  depth_inline_in_branches u w (When test content rest) c h =
      depth_or (inline_for u w content) (inline_in_branches u w rest) c (depth content) (branches_depth rest) (depth_inline_for u w content) (depth_inline_in_branches u w rest) h
  depth_inline_in_branches u w (Otherwise content rest) c h =
      depth_or (inline_for u w content) (inline_in_branches u w rest) c (depth content) (branches_depth rest) (depth_inline_for u w content) (depth_inline_in_branches u w rest) h

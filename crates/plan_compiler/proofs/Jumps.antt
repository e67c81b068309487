-- No step of a tree jumps past the end of its plan.
use Rattle.std.proofs.Common.{◌≡◌, ℕ, zero, suc, ◌+◌, ◌≤◌, Bool, true, false, List, [], ◌∷◌, ◌++◌, length, slice_get, Option, Some, None, refl, ap, arith, length-append}
use Rattle.esi_vars.specs.declared.part.Part.{Part}
use Rattle.esi_tree.specs.declared.include.OnError.{OnError}
use Rattle.esi_tree.specs.declared.include.OnError.TheVariants.{Fails, Continues}
use Rattle.esi_tree.specs.declared.include.Include.{Include}
use Rattle.esi_tree.specs.Tree as tree
use Rattle.esi_tree.specs.Tree.{Element, Elements, Branches}
use Rattle.plan_compiler.specs.Plan.{Step, Test, Jump, Try, EndTry, Leg}
use Rattle.plan_compiler.specs.Code.{else_code, last_code, alternate_code, code_in, code_of, chosen_code}
use Rattle.plan_compiler.specs.Laws.{skip_of, JumpsStay}

-- so many steps stand behind these, and none jumps further
abbrev Bounded : ℕ → List Step → Type 0
Bounded n [] = Unit {0}
Bounded n (s ∷ ss) = (skip_of s ≤ length ss + n) × Bounded n ss

more : (m n : ℕ) (c : List Step) → m ≤ n → Bounded m c → Bounded n c
more m n [] le b = tt
more m n (s ∷ c) le b = (omega (arith, le, b.0), more m n c le b.1)

both : (c d : List Step) → Bounded (length d) c → Bounded zero d → Bounded zero (c ++ d)
both [] d b e = e
both (s ∷ c) d b e = (omega (arith, b.0, length-append c d), both c d b.1 e)

-- pieces one after another
in_turn : (c d : List Step) → Bounded zero c → Bounded zero d → Bounded zero (c ++ d)
in_turn c d b e = both c d (more zero (length d) c (omega arith) b) e

-- two pieces, each behind a step that jumps over the next piece at most
jumps : (x y : Step) (c d : List Step) → skip_of x ≡ length c + 1 → skip_of y ≡ length d → Bounded zero c → Bounded zero d → Bounded zero (x ∷ c ++ y ∷ d)
jumps x y c d over behind b e = (omega (arith, over, length-append c (y ∷ d)), in_turn c (y ∷ d) b (omega (arith, behind), e))

else_bounded : (c d : List Step) → Bounded zero c → Bounded zero d → Bounded zero (else_code c d)
else_bounded c d b e = jumps (Try (length c + 1)) (EndTry (length d)) c d refl refl b e

last_bounded : (source : List Part) (asked : OnError) → Bounded zero (last_code source asked)
last_bounded source Fails = (omega arith, tt)
last_bounded source Continues = else_bounded (Leg source ∷ []) [] (omega arith, tt) tt

alternate_bounded : (include : Include) (alt : Option (List Part)) → Bounded zero (alternate_code include alt)
alternate_bounded include None = last_bounded include.src include.on_error
alternate_bounded include (Some alt) = else_bounded (Leg include.src ∷ []) (last_code alt include.on_error) (omega arith, tt) (last_bounded alt include.on_error)

mutual
  bounded_in : (e : Element) → Bounded zero (code_in e)
  bounded_in (tree.Text text) = (omega arith, tt)
  bounded_in (tree.VarsText parts) = (omega arith, tt)
  bounded_in (tree.Include include) = alternate_bounded include include.alt
  bounded_in (tree.Choose branches) = bounded_among [] tt branches
  bounded_in (tree.Try attempt except swapped) = else_bounded (code_of attempt) (code_of except) (bounded_of attempt) (bounded_of except)
  bounded_in (tree.Vars content) = bounded_of content
  bounded_in (tree.Inline name content) = bounded_of content
  bounded_in tree.Nothing = tt

  bounded_of : (t : Elements) → Bounded zero (code_of t)
  bounded_of tree.End = tt
  bounded_of (tree.Then first rest) = in_turn (code_in first) (code_of rest) (bounded_in first) (bounded_of rest)

  bounded_among : (otherwise : List Step) → Bounded zero otherwise → (branches : Branches) → Bounded zero (chosen_code otherwise branches)
  bounded_among otherwise b tree.NoBranch = b
  bounded_among otherwise b (tree.When test content rest) =
      jumps (Test test (length (code_of content) + 1)) (Jump (length (chosen_code otherwise rest))) (code_of content) (chosen_code otherwise rest) refl refl (bounded_of content) (bounded_among otherwise b rest)
  bounded_among otherwise b (tree.Otherwise content rest) = bounded_among (code_of content) (bounded_of content) rest

at_place : (c : List Step) → Bounded zero c → (i : ℕ) (s : Step) → slice_get c i ≡ Some s → i + 1 + skip_of s ≤ length c
at_place [] b i s e = absurd (cc)
at_place (x ∷ c) b zero s e =
    let same : x ≡ s = cc in
    omega (arith, b.0, ap skip_of same)
at_place (x ∷ c) b (suc i) s e = omega (arith, at_place c b.1 i s e)

pub jumps_stay : JumpsStay
jumps_stay t i s e = at_place (code_of t) (bounded_of t) i s e

-- What a choose comes to, where the code knows its branch, and a leg, where the code knows its URL.
use Rattle.std.proofs.Common.{◌≡◌, ℕ, zero, suc, ◌-◌, ◌<◌, Bool, true, false, if◌then◌else◌, nat_le, List, [], length, Some, None, arith, refl, sym}
use Rattle.edge_types.specs.declared.request.Request.{Request}
use Rattle.edge_types.specs.Answered.{Answered}
use Rattle.edge_types.specs.Asked.{resolve}
use Rattle.edge_types.proofs.LongTexts.{long_text}
use Rattle.esi_vars.specs.declared.part.Part.{Part}
use Rattle.esi_vars.specs.Values.{substituted, within}
use Rattle.esi_expr.specs.Truth.{holds}
use Rattle.esi_tree.specs.Tree.{Elements, End, Branches, NoBranch, When, Otherwise}
use Rattle.esi_meaning.specs.Meaning.{elements_run, chosen_run, chosen_content, resolved_run, leg_run}
use Rattle.esi_meaning.specs.Run.{Run, gives}

content_if : (r : Request) (leg : List Part → Run) (b : Bool) (x y : Elements) (rest : Run) → elements_run r leg y ≡ rest
    → elements_run r leg (if b then x else y) ≡ (if b then elements_run r leg x else rest)
content_if r leg true x y rest e = refl
content_if r leg false x y rest e = e

-- a choose is the content that it stands for
chosen_run-content : (r : Request) (leg : List Part → Run) (otherwise : Elements) (bs : Branches)
    → elements_run r leg (chosen_content r otherwise bs) ≡ chosen_run r leg (elements_run r leg otherwise) bs
chosen_run-content r leg otherwise NoBranch = refl
chosen_run-content r leg otherwise (When test content rest) =
    content_if r leg (holds r test) content (chosen_content r otherwise rest) (chosen_run r leg (elements_run r leg otherwise) rest) (chosen_run-content r leg otherwise rest)
chosen_run-content r leg otherwise (Otherwise content rest) = chosen_run-content r leg content rest

pub chosen_run_content : (r : Request) (leg : List Part → Run) (bs : Branches) → elements_run r leg (chosen_content r End bs) ≡ chosen_run r leg (gives (Some [])) bs
chosen_run_content r leg bs = chosen_run-content r leg End bs

pub leg_above : (r : Request) (T : List Answered) (n : ℕ) (u : List ℕ) (t : Elements) (s : List Part) → 0 < n
    → leg_run r T n u t s ≡ resolved_run r (leg_run r T (n - 1)) T (suc (n - 1)) u t (resolve u (substituted r s))
leg_above r T zero u t s above = absurd (omega arith)
leg_above r T (suc n) u t s above = let e : suc n - 1 ≡ n = omega arith in rw e refl

-- a text that is given up for its length stands for no URL
pub resolved_none : (u text : List ℕ) → None ≡ within 8192 text → None ≡ resolve u text
resolved_none u text none = by_length (nat_le (length text) 8192) refl none
  where
    by_length : (b : Bool) → nat_le (length text) 8192 ≡ b → None ≡ (if b then Some text else None) → None ≡ resolve u text
    by_length true fits none = absurd (cc)
    by_length false long none = sym (long_text u text long)

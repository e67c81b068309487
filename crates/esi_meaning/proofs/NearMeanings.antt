-- Two tables that reply alike to the first legs of a page give it nearly the same run.
use Rattle.std.proofs.Common.{ℕ, zero, suc, Bool, true, false, if◌then◌else◌, List, Option, Some, None, Result, Ok, Err}
use Rattle.edge_types.specs.declared.request.Request.{Request}
use Rattle.edge_types.specs.declared.answer.Reply.{Reply}
use Rattle.edge_types.specs.Answered.{Answered, processed_as_fragment, body_of}
use Rattle.edge_types.specs.Asked.{resolve}
use Rattle.edge_types.specs.Table.{reply_of}
use Rattle.esi_vars.specs.declared.part.Part.{Part}
use Rattle.esi_vars.specs.Values.{substituted}
use Rattle.esi_expr.specs.Truth.{holds}
use Rattle.esi_tree.specs.Reading.{tree_of}
use Rattle.esi_tree.specs.Tree.{Element, Text, VarsText, Include, Choose, Try, Vars, Inline, Nothing, Elements, End, Then, Branches, NoBranch, When, Otherwise}
use Rattle.esi_meaning.specs.Inlines.{inline_for}
use Rattle.esi_meaning.specs.Meaning.{alt_run, element_run, elements_run, chosen_run, template_run, reply_run, named_run, resolved_run, leg_run, page_run}
use Rattle.esi_meaning.specs.Run.{Asks, AsksNobody, Run}
use Rattle.esi_meaning.proofs.NearRuns.{Near, near_refl, near-in_turn, near-or_else, near-tries}

near-alt : {S T : List Answered} (f g : List Part → Run) → ((s : List Part) → Near S T (f s) (g s)) → (alt : Option (List Part)) → Near S T (alt_run f alt) (alt_run g alt)
near-alt f g n None = near_refl
near-alt f g n (Some s) = n s

near_if : {S T : List Answered} (t : Bool) {a b c d : Run} → Near S T a b → Near S T c d → Near S T (if t then a else c) (if t then b else d)
near_if true m n = m
near_if false m n = n

mutual
  near-element : {S T : List Answered} (r : Request) (f g : List Part → Run) → ((s : List Part) → Near S T (f s) (g s)) → (e : Element) → Near S T (element_run r f e) (element_run r g e)
  near-element r f g n (Text text) = near_refl
  near-element r f g n (VarsText parts) = near_refl
  near-element r f g n (Include include) = near-or_else (n include.src) (near-or_else (near-alt f g n include.alt) near_refl)
  near-element r f g n (Choose branches) = near-chosen r f g n _ _ near_refl branches
  near-element r f g n (Try attempt except swapped) = near-or_else (near-elements r f g n attempt) (near-elements r f g n except)
  near-element r f g n (Vars content) = near-elements r f g n content
  near-element r f g n (Inline name content) = near-elements r f g n content
  near-element r f g n Nothing = near_refl

  pub near-elements : {S T : List Answered} (r : Request) (f g : List Part → Run) → ((s : List Part) → Near S T (f s) (g s)) → (es : Elements) → Near S T (elements_run r f es) (elements_run r g es)
  near-elements r f g n End = near_refl
  near-elements r f g n (Then first rest) = near-in_turn (near-element r f g n first) (near-elements r f g n rest)

  near-chosen : {S T : List Answered} (r : Request) (f g : List Part → Run) → ((s : List Part) → Near S T (f s) (g s)) → (a b : Run) → Near S T a b → (bs : Branches) → Near S T (chosen_run r f a bs) (chosen_run r g b bs)
  near-chosen r f g n a b o NoBranch = o
  near-chosen r f g n a b o (When test content rest) = near_if (holds r test) (near-elements r f g n content) (near-chosen r f g n a b o rest)
  near-chosen r f g n a b o (Otherwise content rest) = near-chosen r f g n _ _ (near-elements r f g n content) rest

-- what stands below a level: legs of any template
module _ {S T : List Answered} (r : Request) (f g : List ℕ → Elements → List Part → Run) (n : (u : List ℕ) (t : Elements) (s : List Part) → Near S T (f u t s) (g u t s)) where
  near-template : (w : List ℕ) (read : Result Elements ℕ) → Near S T (template_run r f w read) (template_run r g w read)
  near-template w (Ok t) = near-elements r (f w t) (g w t) (n w t) t
  near-template w (Err place) = near_refl

  near-reply : (w : List ℕ) (reply : Reply) → Near S T (reply_run r f w reply) (reply_run r g w reply)
  near-reply w reply = near_if (processed_as_fragment reply) (near-template w (tree_of (body_of reply))) near_refl

  near-named : (m : ℕ) (u : List ℕ) (t : Elements) (w : List ℕ) (inline : Option Elements) → Near S T (named_run r f S m u t w inline) (named_run r g T m u t w inline)
  near-named m u t w (Some content) = near-tries AsksNobody (λ _. near-elements r (f u t) (g u t) (n u t) content)
  near-named m u t w None = near-tries (Asks m w) (λ same. rw (← same) (near-reply w (reply_of S w)))

  near-resolved : (m : ℕ) (u : List ℕ) (t : Elements) (w : Option (List ℕ)) → Near S T (resolved_run r f S m u t w) (resolved_run r g T m u t w)
  near-resolved m u t None = near_refl
  near-resolved m u t (Some w) = near-named m u t w (inline_for u w t)

pub near-leg : (S T : List Answered) (r : Request) (n : ℕ) (u : List ℕ) (t : Elements) (s : List Part) → Near S T (leg_run r S n u t s) (leg_run r T n u t s)
near-leg S T r zero u t s = near_refl
near-leg S T r (suc n) u t s = near-resolved r (leg_run r S n) (leg_run r T n) (near-leg S T r n) (suc n) u t (resolve u (substituted r s))

pub near-page : (S T : List Answered) (r : Request) (n : ℕ) (u : List ℕ) (t : Elements) → Near S T (page_run r S n u t) (page_run r T n u t)
near-page S T r n u t = near-elements r (leg_run r S n u t) (leg_run r T n u t) (near-leg S T r n u t) t

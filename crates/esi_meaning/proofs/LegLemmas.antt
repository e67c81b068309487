-- What holds of the legs of each source of elements holds of the elements' legs; and the levels of legs.
use Rattle.std.proofs.Common.{ℕ, zero, suc, ◌≤◌, Bool, true, false, List, [], ◌∷◌, ◌++◌, take, Option, Some, None, Result, Ok, Err, if◌then◌else◌, refl, arith}
use Rattle.std.specs.List.{AllByRecursion, Contains}
use Rattle.std.proofs.lemmas.List.Elements.{Contains-append_left, Contains-append_right}
use Rattle.edge_types.specs.declared.request.Request.{Request}
use Rattle.edge_types.specs.declared.answer.Reply.{Reply}
use Rattle.edge_types.specs.Answered.{Answered, processed, processed_as_fragment, body_of}
use Rattle.edge_types.specs.Asked.{resolve}
use Rattle.edge_types.specs.Table.{reply_of}
use Rattle.esi_vars.specs.declared.part.Part.{Part}
use Rattle.esi_vars.specs.Values.{substituted}
use Rattle.esi_expr.specs.Truth.{holds}
use Rattle.esi_tree.specs.declared.include.OnError.{OnError}
use Rattle.esi_tree.specs.declared.include.OnError.TheVariants.{Fails, Continues}
use Rattle.esi_tree.specs.Reading.{tree_of}
use Rattle.esi_tree.specs.Tree.{Element, Text, VarsText, Include, Choose, Try, Vars, Inline, Nothing, Elements, End, Then, Branches, NoBranch, When, Otherwise}
use Rattle.esi_meaning.specs.Ahead.{alt_sources, sources_in, sources, sources_among}
use Rattle.esi_meaning.specs.Inlines.{inline_for}
use Rattle.esi_meaning.specs.Meaning.{alt_run, on_error, alternative_run, element_run, elements_run, chosen_run, template_run, unprocessed_run, reply_run, named_run, resolved_run, leg_run, most_legs, tree_legs, reply_legs, page_legs}
use Rattle.esi_meaning.specs.Run.{Leg, Asks, AsksNobody, Run, gives, followed, in_turn, behind, or_else, instead}

-- what holds of each leg of a run
abbrev pub OfLegs : (Leg → Type 0) → Run → Type 0
OfLegs P run = AllByRecursion P run.legs

all_append : {X : Type 0} (P : X → Type 0) (xs ys : List X) → AllByRecursion P xs → AllByRecursion P ys → AllByRecursion P (xs ++ ys)
all_append P [] ys a b = b
all_append P (x ∷ xs) ys a b = (a.0, all_append P xs ys a.1 b)

of_followed : (P : Leg → Type 0) (a : Run) (next : Option (List ℕ) → Run) → OfLegs P a → ((o : Option (List ℕ)) → OfLegs P (next o)) → OfLegs P (followed a next)
of_followed P a next here later = all_append P a.legs (next a.text).legs here (later a.text)

of_behind : (P : Leg → Type 0) (b : Run) → OfLegs P b → (o : Option (List ℕ)) → OfLegs P (behind b o)
of_behind P b h None = tt
of_behind P b h (Some front) = h

of_instead : (P : Leg → Type 0) (b : Run) → OfLegs P b → (o : Option (List ℕ)) → OfLegs P (instead b o)
of_instead P b h None = h
of_instead P b h (Some text) = tt

of_in_turn : (P : Leg → Type 0) (a b : Run) → OfLegs P a → OfLegs P b → OfLegs P (in_turn a b)
of_in_turn P a b ha hb = of_followed P a (behind b) ha (of_behind P b hb)

of_or_else : (P : Leg → Type 0) (a b : Run) → OfLegs P a → OfLegs P b → OfLegs P (or_else a b)
of_or_else P a b ha hb = of_followed P a (instead b) ha (of_instead P b hb)

of_on_error : (P : Leg → Type 0) (asked : OnError) → OfLegs P (on_error asked)
of_on_error P Continues = tt
of_on_error P Fails = tt

of_if : (P : Leg → Type 0) (test : Bool) (a b : Run) → OfLegs P a → OfLegs P b → OfLegs P (if test then a else b)
of_if P true a b ha hb = ha
of_if P false a b ha hb = hb

-- what holds of the legs of each source holds of the elements' legs
module _ (r : Request) (P : Leg → Type 0) (leg : List Part → Run) where
  -- of each of these sources
  abbrev pub OfSources : List (List Part) → Type 0
  OfSources texts = (s : List Part) → Contains texts s → OfLegs P (leg s)

  front_of : (xs ys : List (List Part)) → OfSources (xs ++ ys) → OfSources xs
  front_of xs ys h s c = h s (Contains-append_left xs ys s c)

  back_of : (xs ys : List (List Part)) → OfSources (xs ++ ys) → OfSources ys
  back_of xs ys h s c = h s (Contains-append_right xs ys s c)

  of_alt : (o : Option (List Part)) → OfSources (alt_sources o) → OfLegs P (alt_run leg o)
  of_alt None h = tt
  of_alt (Some alt) h = h alt (0, omega arith, refl)

  mutual
    of_element : (e : Element) → OfSources (sources_in e) → OfLegs P (element_run r leg e)
    of_element (Text text) h = tt
    of_element (VarsText parts) h = tt
    of_element (Include include) h =
        of_or_else P (leg include.src) (alternative_run leg include) (h include.src (0, omega arith, refl))
        (of_or_else P (alt_run leg include.alt) (on_error include.on_error) (of_alt include.alt (back_of (include.src ∷ []) (alt_sources include.alt) h)) (of_on_error P include.on_error))
    of_element (Choose branches) h = of_chosen (gives (Some [])) branches tt h
    of_element (Try attempt except swapped) h =
        of_or_else P (elements_run r leg attempt) (elements_run r leg except) (of_elements attempt (front_of (sources attempt) (sources except) h))
        (of_elements except (back_of (sources attempt) (sources except) h))
    of_element (Vars content) h = of_elements content h
    of_element (Inline name content) h = of_elements content h
    of_element Nothing h = tt

    pub of_elements : (es : Elements) → OfSources (sources es) → OfLegs P (elements_run r leg es)
    of_elements End h = tt
    of_elements (Then first rest) h =
        of_in_turn P (element_run r leg first) (elements_run r leg rest) (of_element first (front_of (sources_in first) (sources rest) h))
        (of_elements rest (back_of (sources_in first) (sources rest) h))

    of_chosen : (otherwise : Run) (bs : Branches) → OfLegs P otherwise → OfSources (sources_among bs) → OfLegs P (chosen_run r leg otherwise bs)
    of_chosen otherwise NoBranch o h = o
    of_chosen otherwise (When test content rest) o h =
        of_if P (holds r test) (elements_run r leg content) (chosen_run r leg otherwise rest) (of_elements content (front_of (sources content) (sources_among rest) h))
        (of_chosen otherwise rest o (back_of (sources content) (sources_among rest) h))
    of_chosen otherwise (Otherwise content rest) o h =
        of_chosen (elements_run r leg content) rest (of_elements content (front_of (sources content) (sources_among rest) h)) (back_of (sources content) (sources_among rest) h)

-- what holds of a list holds of its front
pub all_take : {X : Type 0} (P : X → Type 0) (m : ℕ) (xs : List X) → AllByRecursion P xs → AllByRecursion P (take m xs)
all_take P zero xs all = tt
all_take P (suc m) [] all = tt
all_take P (suc m) (x ∷ xs) all = (all.0, all_take P m xs all.1)

pub all_mapped : {X : Type 0} (P Q : X → Type 0) → ((x : X) → P x → Q x) → (xs : List X) → AllByRecursion P xs → AllByRecursion Q xs
all_mapped P Q f [] all = tt
all_mapped P Q f (x ∷ xs) all = (f x all.0, all_mapped P Q f xs all.1)

-- a leg that asks a URL does so at a level from 1 to n
abbrev pub IsAtLevel : ℕ → Leg → Type 0
IsAtLevel n (Asks level w) = (1 ≤ level) × (level ≤ n)
IsAtLevel n AsksNobody = Unit {0}

one_more : (n : ℕ) (leg : Leg) → IsAtLevel n leg → IsAtLevel (suc n) leg
one_more n (Asks level w) h = (h.0, omega (arith, h.1))
one_more n AsksNobody h = tt

module _ (r : Request) (T : List Answered) where
  -- the legs of each source are at levels up to n
  abbrev Levelled : ℕ → (List ℕ → Elements → List Part → Run) → Type 0
  Levelled n below = (u : List ℕ) (t : Elements) (s : List Part) → OfLegs (IsAtLevel n) (below u t s)

  module _ (n : ℕ) (below : List ℕ → Elements → List Part → Run) (h : Levelled n below) where
    level_elements : (u : List ℕ) (t es : Elements) → OfLegs (IsAtLevel n) (elements_run r (below u t) es)
    level_elements u t es = of_elements r (IsAtLevel n) (below u t) es (λ s c. h u t s)

    level_template : (w : List ℕ) (read : Result Elements ℕ) → OfLegs (IsAtLevel n) (template_run r below w read)
    level_template w (Ok t) = level_elements w t t
    level_template w (Err place) = tt

    level_reply : (w : List ℕ) (reply : Reply) → OfLegs (IsAtLevel n) (reply_run r below w reply)
    level_reply w reply = of_if (IsAtLevel n) (processed_as_fragment reply) (template_run r below w (tree_of (body_of reply))) (unprocessed_run reply) (level_template w (tree_of (body_of reply))) tt

    above : (run : Run) → OfLegs (IsAtLevel n) run → OfLegs (IsAtLevel (suc n)) run
    above run all = all_mapped (IsAtLevel n) (IsAtLevel (suc n)) (one_more n) run.legs all

    level_named : (u : List ℕ) (t : Elements) (w : List ℕ) (inline : Option Elements) → OfLegs (IsAtLevel (suc n)) (named_run r below T (suc n) u t w inline)
    level_named u t w (Some content) = (tt, above (elements_run r (below u t) content) (level_elements u t content))
    level_named u t w None = ((omega arith, omega arith), above (reply_run r below w (reply_of T w)) (level_reply w (reply_of T w)))

    level_resolved : (u : List ℕ) (t : Elements) (o : Option (List ℕ)) → OfLegs (IsAtLevel (suc n)) (resolved_run r below T (suc n) u t o)
    level_resolved u t None = (tt, tt)
    level_resolved u t (Some w) = level_named u t w (inline_for u w t)

  level_leg : (n : ℕ) → Levelled n (leg_run r T n)
  level_leg zero u t s = (tt, tt)
  level_leg (suc n) u t s = level_resolved n (leg_run r T n) (level_leg n) u t (resolve u (substituted r s))

  module _ (L : ℕ) (u : List ℕ) where
    level_tree : (read : Result Elements ℕ) → AllByRecursion (IsAtLevel L) (tree_legs r T L u read)
    level_tree (Ok t) = level_elements L (leg_run r T L) (level_leg L) u t t
    level_tree (Err place) = tt

    level_if : (b : Bool) (read : Result Elements ℕ) → AllByRecursion (IsAtLevel L) (if b then tree_legs r T L u read else [])
    level_if true read = level_tree read
    level_if false read = tt

    pub level_page : AllByRecursion (IsAtLevel L) (page_legs r T L u)
    level_page =
        let reply : Reply = reply_of T u in
        all_take (IsAtLevel L) most_legs (reply_legs r T L u reply) (level_if (processed reply) (tree_of (body_of reply)))

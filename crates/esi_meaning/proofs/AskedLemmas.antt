-- Each URL asked for a page is its own, or one that a source stands for in the template of an answer, and that no
-- inline of this template names.
use Rattle.std.proofs.Common.{◌≡◌, ◌⊎◌, ℕ, zero, suc, Bool, true, false, List, [], ◌∷◌, ◌++◌, take, Option, Some, None, Result, Ok, Err, if◌then◌else◌, cond, refl, sym, ◌∙◌, ap, subst, inl, inr, arith}
use Rattle.std.specs.List.{AllByRecursion, Contains, Any, find}
use Rattle.std.specs.Option.{option_or}
use Rattle.std.proofs.lemmas.Slice.Eq.{bytes_eq-Decides}
use Rattle.std.proofs.lemmas.List.Elements.{Contains-append_left, Contains-append_right}
use Rattle.edge_types.specs.declared.request.Request.{Request}
use Rattle.edge_types.specs.Answered.{Answered, processed, processed_as_fragment, body_of}
use Rattle.edge_types.specs.Asked.{resolve}
use Rattle.edge_types.specs.Table.{is_of, answer_of, reply_in, reply_of}
use Rattle.edge_types.proofs.AnswerLemmas.{processed_as_page}
use Rattle.esi_vars.specs.declared.part.Part.{Part}
use Rattle.esi_vars.specs.Values.{substituted}
use Rattle.esi_tree.specs.Reading.{tree_of}
use Rattle.esi_tree.specs.Tree.{Element, Text, VarsText, Include, Choose, Try, Vars, Inline, Nothing, Elements, End, Then, Branches, NoBranch, When, Otherwise}
use Rattle.esi_meaning.specs.Ahead.{sources_in, sources, sources_among, HasSource, AsksFor}
use Rattle.esi_meaning.specs.Inlines.{names, inline_in, inline_for, inline_in_branches}
use Rattle.esi_meaning.specs.Laws.{AskedHasSource}
use Rattle.esi_meaning.specs.Meaning.{template_run, unprocessed_run, named_run, resolved_run, leg_run, urls, most_legs, tree_legs, reply_legs, asked}
use Rattle.esi_meaning.specs.Run.{Leg, Asks, AsksNobody, Run}
use Rattle.esi_meaning.proofs.LegLemmas.{OfLegs, of_elements}

-- what holds of the URL of a leg, where it has one
abbrev OfLeg : (List ℕ → Type 0) → Leg → Type 0
OfLeg P (Asks n w) = P w
OfLeg P AsksNobody = Unit {0}

-- what holds of the legs holds of their URLs
of_urls : (P : List ℕ → Type 0) (m : ℕ) (legs : List Leg) → AllByRecursion (OfLeg P) legs → AllByRecursion P (urls (take m legs))
of_urls P zero legs all = tt
of_urls P (suc m) [] all = tt
of_urls P (suc m) (AsksNobody ∷ legs) all = of_urls P m legs all.1
of_urls P (suc m) (Asks n w ∷ legs) all = (all.0, of_urls P m legs all.1)

-- the sources of an inline are its template's
abbrev Within : List (List Part) → List (List Part) → Type 0
Within xs ys = (s : List Part) → Contains xs s → Contains ys s

within_or : (a b : Option Elements) (c : Elements) (xs ys : List (List Part)) → ((d : Elements) → a ≡ Some d → Within (sources d) xs) → ((d : Elements) → b ≡ Some d → Within (sources d) ys)
    → option_or a b ≡ Some c → Within (sources c) (xs ++ ys)
within_or None b c xs ys ha hb e s h = Contains-append_right xs ys s (hb c e s h)
within_or (Some x) b c xs ys ha hb e s h = Contains-append_left xs ys s (ha c e s h)

within_swapped : (a b : Option Elements) (c : Elements) (xs ys : List (List Part)) → ((d : Elements) → a ≡ Some d → Within (sources d) xs) → ((d : Elements) → b ≡ Some d → Within (sources d) ys)
    → option_or b a ≡ Some c → Within (sources c) (xs ++ ys)
within_swapped a None c xs ys ha hb e s h = Contains-append_left xs ys s (ha c e s h)
within_swapped a (Some y) c xs ys ha hb e s h = Contains-append_right xs ys s (hb c e s h)

within_if : (b : Bool) (content c : Elements) (inner : Option Elements) → ((d : Elements) → inner ≡ Some d → Within (sources d) (sources content))
    → (if b then Some content else inner) ≡ Some c → Within (sources c) (sources content)
within_if true content c inner h e s k = let same : content ≡ c = cc in subst (λ (d : Elements). Contains (sources d) s) (sym same) k
within_if false content c inner h e s k = h c e s k

within_none : (c : Elements) (xs : List (List Part)) → None ≡ Some c → Within (sources c) xs
within_none c xs e s h = absurd (cc)

mutual
  within_element : (u w : List ℕ) (e : Element) (c : Elements) → inline_in u w e ≡ Some c → Within (sources c) (sources_in e)
  within_element u w (Text text) c h = within_none c [] h
  within_element u w (VarsText parts) c h = within_none c [] h
  within_element u w (Include include) c h = within_none c (sources_in (Include include)) h
  within_element u w (Choose branches) c h = within_branches u w branches c h
  within_element u w (Try attempt except false) c h =
      within_or (inline_for u w attempt) (inline_for u w except) c (sources attempt) (sources except) (within_elements u w attempt) (within_elements u w except) h
  within_element u w (Try attempt except true) c h =
      within_swapped (inline_for u w attempt) (inline_for u w except) c (sources attempt) (sources except) (within_elements u w attempt) (within_elements u w except) h
  within_element u w (Vars content) c h = within_elements u w content c h
  within_element u w (Inline name content) c h = within_if (names u w name) content c (inline_for u w content) (within_elements u w content) h
  within_element u w Nothing c h = within_none c [] h

  within_elements : (u w : List ℕ) (es : Elements) (c : Elements) → inline_for u w es ≡ Some c → Within (sources c) (sources es)
  within_elements u w End c h = within_none c [] h
  within_elements u w (Then first rest) c h =
      within_or (inline_in u w first) (inline_for u w rest) c (sources_in first) (sources rest) (within_element u w first) (within_elements u w rest) h

  within_branches : (u w : List ℕ) (bs : Branches) (c : Elements) → inline_in_branches u w bs ≡ Some c → Within (sources c) (sources_among bs)
  within_branches u w NoBranch c h = within_none c [] h
  within_branches u w (When test content rest) c h =
      within_or (inline_for u w content) (inline_in_branches u w rest) c (sources content) (sources_among rest) (within_elements u w content) (within_branches u w rest) h
  within_branches u w (Otherwise content rest) c h =
      within_or (inline_for u w content) (inline_in_branches u w rest) c (sources content) (sources_among rest) (within_elements u w content) (within_branches u w rest) h

-- the table has a processed answer of this URL, whose body is this template
record Stands (T : List Answered) (v : List ℕ) (t : Elements) : Type 0 where
  is_processed : processed (reply_of T v) ≡ true
  is_tree : tree_of (body_of (reply_of T v)) ≡ Ok t

-- such a template names the URL, in a source and in no inline
record Named (r : Request) (T : List Answered) (w : List ℕ) : Type 0 where
  v : List ℕ
  t : Elements
  stands : Stands T v t
  is : HasSource r v t w
  unnamed : inline_for v w t ≡ None

-- an answer that is found is one of the table's, of this URL
record Found (T : List Answered) (v : List ℕ) (answer : Answered) : Type 0 where
  stands : Contains T answer
  url : answer.url ≡ v

found_later : (x : Answered) (T : List Answered) (v : List ℕ) (answer : Answered) → Found T v answer → Found (x ∷ T) v answer
found_later x T v answer f = record { stands = Contains-append_right (x ∷ []) T answer f.stands; url = f.url }

found_step : (x : Answered) (T : List Answered) (v : List ℕ) (answer : Answered) → (find (is_of v) T ≡ Some answer → Found T v answer) → (b : Bool) → is_of v x ≡ b
    → cond b (Some x) (find (is_of v) T) ≡ Some answer → Found (x ∷ T) v answer
found_step x T v answer later true is e =
    let same : x ≡ answer = cc in
    record { stands = (0, omega arith, same); url = ap (λ (a : Answered). a.url) (sym same) ∙ (bytes_eq-Decides x.url v).0 is }
found_step x T v answer later false is e = found_later x T v answer (later e)

found_in : (T : List Answered) (v : List ℕ) (answer : Answered) → find (is_of v) T ≡ Some answer → Found T v answer
found_in [] v answer e = absurd (cc)
found_in (x ∷ T) v answer e = found_step x T v answer (found_in T v answer) (is_of v x) refl e

pub any_contained : {X : Type 0} (P : X → Type 0) (xs : List X) (x : X) → Contains xs x → P x → Any P xs
any_contained P xs x c p = (c.0, x, c.1, c.2, p)

module _ (r : Request) (T : List Answered) where
  -- the legs of a source one level down are named
  abbrev Below : (List ℕ → Elements → List Part → Run) → Type 0
  Below below = (u : List ℕ) (t : Elements) (s : List Part) → Stands T u t → Contains (sources t) s → OfLegs (OfLeg (Named r T)) (below u t s)

  named_template : (below : List ℕ → Elements → List Part → Run) → Below below → (w : List ℕ) → processed (reply_of T w) ≡ true → (read : Result Elements ℕ)
      → tree_of (body_of (reply_of T w)) ≡ read → OfLegs (OfLeg (Named r T)) (template_run r below w read)
  named_template below h w p (Ok t) e = of_elements r (OfLeg (Named r T)) (below w t) t (λ s c. h w t s (record { is_processed = p; is_tree = e }) c)
  named_template below h w p (Err place) e = tt

  named_reply : (below : List ℕ → Elements → List Part → Run) → Below below → (w : List ℕ) → (b : Bool) → processed_as_fragment (reply_of T w) ≡ b
      → OfLegs (OfLeg (Named r T)) (if b then template_run r below w (tree_of (body_of (reply_of T w))) else unprocessed_run (reply_of T w))
  named_reply below h w true p = named_template below h w (processed_as_page (reply_of T w) p) (tree_of (body_of (reply_of T w))) refl
  named_reply below h w false p = tt

  named_inline : (below : List ℕ → Elements → List Part → Run) → Below below → (n : ℕ) (u : List ℕ) (t : Elements) (w : List ℕ) → Stands T u t → HasSource r u t w
      → (inline : Option Elements) → inline_for u w t ≡ inline → OfLegs (OfLeg (Named r T)) (named_run r below T n u t w inline)
  named_inline below h n u t w stands is None e = (record { v = u; t = t; stands = stands; is = is; unnamed = e }, named_reply below h w (processed_as_fragment (reply_of T w)) refl)
  named_inline below h n u t w stands is (Some content) e =
      (tt, of_elements r (OfLeg (Named r T)) (below u t) content (λ s c. h u t s stands (within_elements u w t content e s c)))

  named_resolved : (below : List ℕ → Elements → List Part → Run) → Below below → (n : ℕ) (u : List ℕ) (t : Elements) (s : List Part) → Stands T u t → Contains (sources t) s
      → (o : Option (List ℕ)) → resolve u (substituted r s) ≡ o → OfLegs (OfLeg (Named r T)) (resolved_run r below T n u t o)
  named_resolved below h n u t s stands c None e = (tt, tt)
  named_resolved below h n u t s stands c (Some w) e =
      let is : HasSource r u t w = record { source = s; stands = c; is_url = e } in
      named_inline below h n u t w stands is (inline_for u w t) refl

  named_leg : (n : ℕ) → Below (leg_run r T n)
  named_leg zero u t s stands c = (tt, tt)
  named_leg (suc n) u t s stands c = named_resolved (leg_run r T n) (named_leg n) (suc n) u t s stands c (resolve u (substituted r s)) refl

  module _ (L : ℕ) (u : List ℕ) where
    named_tree : processed (reply_of T u) ≡ true → (read : Result Elements ℕ) → tree_of (body_of (reply_of T u)) ≡ read → AllByRecursion (OfLeg (Named r T)) (tree_legs r T L u read)
    named_tree p (Ok t) e = of_elements r (OfLeg (Named r T)) (leg_run r T L u t) t (λ s c. named_leg L u t s (record { is_processed = p; is_tree = e }) c)
    named_tree p (Err place) e = tt

    named_page : (b : Bool) → processed (reply_of T u) ≡ b → AllByRecursion (OfLeg (Named r T)) (if b then tree_legs r T L u (tree_of (body_of (reply_of T u))) else [])
    named_page true p = named_tree p (tree_of (body_of (reply_of T u))) refl
    named_page false p = tt

  -- the answer whose template asks for a URL
  answer_asks : (w v : List ℕ) (t : Elements) (named : HasSource r v t w) (none : inline_for v w t ≡ None) (found : Option Answered) → answer_of T v ≡ found
      → processed (reply_in found) ≡ true → tree_of (body_of (reply_in found)) ≡ Ok t → Any (AsksFor r w) T
  answer_asks w v t named none None is p e = absurd (cc)
  answer_asks w v t named none (Some answer) is p e =
      let here = found_in T v answer is in
      let moved : HasSource r answer.url t w = subst (λ (x : List ℕ). HasSource r x t w) (sym here.url) named in
      let unnamed : inline_for answer.url w t ≡ None = subst (λ (x : List ℕ). inline_for x w t ≡ None) (sym here.url) none in
      any_contained (AsksFor r w) T answer here.stands
      (record { leads = record { t = t; is_processed = p; is_tree = e; has_source = moved }; unnamed = unnamed })

  asks : (w : List ℕ) → Named r T w → Any (AsksFor r w) T
  asks w n = answer_asks w n.v n.t n.is n.unnamed (answer_of T n.v) refl n.stands.is_processed n.stands.is_tree

of_contained : {X : Type 0} (P : X → Type 0) (xs : List X) (x : X) → AllByRecursion P xs → Contains xs x → P x
of_contained P [] x all c = absurd (omega (arith, c.1))
of_contained P (y ∷ ys) x all (zero, h, e) = subst P e all.0
of_contained P (y ∷ ys) x all (suc k, h, e) = of_contained P ys x all.1 (k, omega (arith, h), e)

head_or_later : {X : Type 0} (y : X) (ys : List X) (x : X) → Contains (y ∷ ys) x → (x ≡ y) ⊎ Contains ys x
head_or_later y ys x (zero, h, e) = inl (sym e)
head_or_later y ys x (suc k, h, e) = inr (k, omega (arith, h), e)

pub asked_has_source : AskedHasSource
unfolding asked
asked_has_source r T L u w c =
    let legs : List Leg = reply_legs r T L u (reply_of T u) in
    let all = of_urls (Named r T) most_legs legs (named_page r T L u (processed (reply_of T u)) refl) in
    elim (head_or_later u (urls (take most_legs legs)) w c) [
      | inl own ↦ inl own
      | inr later ↦ inr (asks r T w (of_contained (Named r T) (urls (take most_legs legs)) w all later))
    ]

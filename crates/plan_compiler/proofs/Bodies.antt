-- The places of a tree's inlines are those of their steps.
use Rattle.std.proofs.Common.{◌≡◌, ℕ, ◌+◌, ◌-◌, Bool, true, false, if◌then◌else◌, List, [], ◌∷◌, ◌++◌, length, map, take, drop, refl, sym, ap, ◌∙◌, arith, append_assoc, length-append}
use Rattle.std.proofs.lemmas.List.{append-nil, map-append, drop_at, take_at}
use Rattle.esi_tree.specs.Tree as tree
use Rattle.esi_tree.specs.Tree.{Element, Elements, Branches}
use Rattle.esi_meaning.specs.Inlines.{NamedBody, inlines_in, inlines, inlines_among}
use Rattle.plan_compiler.specs.declared.inline.Inline.{Inline}
use Rattle.plan_compiler.specs.declared.later_inlines.Place.{Place}
use Rattle.plan_compiler.specs.Plan.{Step, Test, Jump, Try, EndTry}
use Rattle.plan_compiler.specs.Code.{code_in, code_of, chosen_code}
use Rattle.plan_compiler.specs.Bodies.{Body, body_in, body_of, has_otherwise, IsSingleIn, IsSingle, AreSingle, inline_at, place_before, places_in, places_of, places_among, entries}

abbrev body : List ℕ → List Step → Body
body name steps = record { name = name; steps = steps }

-- the body of a place among these steps
abbrev at_place : List Step → Place → Body
at_place s p = body_in s (inline_at (length s) p)

-- steps that stand between others
cut : (pre c later : List Step)
    → take (length (pre ++ (c ++ later)) - length later - (length (pre ++ (c ++ later)) - length (c ++ later))) (drop (length (pre ++ (c ++ later)) - length (c ++ later)) (pre ++ (c ++ later))) ≡ c
cut pre c later =
    let all = length-append pre (c ++ later) in
    let some = length-append c later in
    let front : length pre ≡ length (pre ++ (c ++ later)) - length (c ++ later) = omega (arith, all) in
    let long : length c ≡ length (pre ++ (c ++ later)) - length later - (length (pre ++ (c ++ later)) - length (c ++ later)) = omega (arith, all, some) in
    ap (take (length (pre ++ (c ++ later)) - length later - (length (pre ++ (c ++ later)) - length (c ++ later)))) (drop_at pre (c ++ later) (length (pre ++ (c ++ later)) - length (c ++ later)) front)
    ∙ take_at c later (length (pre ++ (c ++ later)) - length later - (length (pre ++ (c ++ later)) - length (c ++ later))) long

module _ (s : List Step) where
  abbrev Stand : List Place → List NamedBody → Type 0
  Stand ps bs = map (at_place s) ps ≡ map body_of bs

  stand_both : (ps qs : List Place) (bs cs : List NamedBody) → Stand ps bs → Stand qs cs → Stand (ps ++ qs) (bs ++ cs)
  stand_both ps qs bs cs h k =
      map-append (at_place s) ps qs ∙ ap (λ (l : List Body). l ++ map (at_place s) qs) h ∙ ap (λ (l : List Body). map body_of bs ++ l) k ∙ sym (map-append body_of bs cs)

  stand_inline : (name : List ℕ) (content : Elements) (pre later : List Step) → s ≡ pre ++ (code_of content ++ later)
      → at_place s (place_before name (code_of content) later) ≡ body name (code_of content)
  stand_inline name content pre later e =
      ap (λ (l : List Step). at_place l (place_before name (code_of content) later)) e ∙ ap (λ (l : List Step). body name l) (cut pre (code_of content) later)

  -- the otherwise stands behind all the `when`s
  whens_front : List Step → Branches → List Step
  whens_front otherwise tree.NoBranch = []
  whens_front otherwise (tree.When test content rest) =
      Test test (length (code_of content) + 1) ∷ (code_of content ++ Jump (length (chosen_code otherwise rest)) ∷ whens_front otherwise rest)
  whens_front otherwise (tree.Otherwise content rest) = []

  otherwise_last : (otherwise : List Step) (bs : Branches) → has_otherwise bs ≡ false → chosen_code otherwise bs ≡ whens_front otherwise bs ++ otherwise
  unfolding whens_front
  otherwise_last otherwise tree.NoBranch h = refl
  otherwise_last otherwise (tree.When test content rest) h =
      ap (λ (l : List Step). Test test (length (code_of content) + 1) ∷ (code_of content ++ Jump (length (chosen_code otherwise rest)) ∷ l)) (otherwise_last otherwise rest h)
      ∙ ap (λ (l : List Step). Test test (length (code_of content) + 1) ∷ l) (sym (append_assoc (code_of content) (Jump (length (chosen_code otherwise rest)) ∷ whens_front otherwise rest) otherwise))
  otherwise_last otherwise (tree.Otherwise content rest) h = absurd (cc)

  chosen_if : (b : Bool) (ps : List Place) → b ≡ false → (if b then [] else ps) ≡ ps
  chosen_if true ps h = absurd (cc)
  chosen_if false ps h = refl

  mutual
    stand_in : (e : Element) (pre later : List Step) → IsSingleIn e → s ≡ pre ++ (code_in e ++ later) → Stand (places_in e later) (inlines_in e)
    stand_in (tree.Text text) pre later h e = refl
    stand_in (tree.VarsText parts) pre later h e = refl
    stand_in (tree.Include include) pre later h e = refl
    stand_in (tree.Choose branches) pre later h e = stand_among branches [] pre later h e
    stand_in (tree.Try attempt except false) pre later h e =
        let a = code_of attempt in let x = code_of except in let t = Try (length a + 1) in let n = EndTry (length x) in
        let first : s ≡ (pre ++ t ∷ []) ++ (a ++ (n ∷ x ++ later)) = e ∙ simp append_assoc in
        let second : s ≡ (pre ++ t ∷ (a ++ n ∷ [])) ++ (x ++ later) = e ∙ simp append_assoc in
        stand_both _ _ _ _ (stand_of attempt (pre ++ t ∷ []) (n ∷ x ++ later) h.0 first) (stand_of except (pre ++ t ∷ (a ++ n ∷ [])) later h.1 second)
    stand_in (tree.Try attempt except true) pre later h e =
        let a = code_of attempt in let x = code_of except in let t = Try (length a + 1) in let n = EndTry (length x) in
        let first : s ≡ (pre ++ t ∷ []) ++ (a ++ (n ∷ x ++ later)) = e ∙ simp append_assoc in
        let second : s ≡ (pre ++ t ∷ (a ++ n ∷ [])) ++ (x ++ later) = e ∙ simp append_assoc in
        stand_both _ _ _ _ (stand_of except (pre ++ t ∷ (a ++ n ∷ [])) later h.1 second) (stand_of attempt (pre ++ t ∷ []) (n ∷ x ++ later) h.0 first)
    stand_in (tree.Vars content) pre later h e = stand_of content pre later h e
    stand_in (tree.Inline name content) pre later h e =
        let head = stand_inline name content pre later e in
        let rest = stand_of content pre later h e in
        ap (λ (b : Body). b ∷ map (at_place s) (places_of content later)) head ∙ ap (λ (l : List Body). body name (code_of content) ∷ l) rest
    stand_in tree.Nothing pre later h e = refl

    stand_of : (es : Elements) (pre later : List Step) → IsSingle es → s ≡ pre ++ (code_of es ++ later) → Stand (places_of es later) (inlines es)
    stand_of tree.End pre later h e = refl
    stand_of (tree.Then first rest) pre later h e =
        let front : s ≡ pre ++ (code_in first ++ (code_of rest ++ later)) = e ∙ simp append_assoc in
        let back : s ≡ (pre ++ code_in first) ++ (code_of rest ++ later) = e ∙ simp append_assoc in
        stand_both _ _ _ _ (stand_in first pre (code_of rest ++ later) h.0 front) (stand_of rest (pre ++ code_in first) later h.1 back)

    stand_among : (bs : Branches) (otherwise pre later : List Step) → AreSingle bs → s ≡ pre ++ (chosen_code otherwise bs ++ later) → Stand (places_among bs otherwise later) (inlines_among bs)
    stand_among tree.NoBranch otherwise pre later h e = refl
    stand_among (tree.When test content rest) otherwise pre later h e =
        let c = code_of content in let d = chosen_code otherwise rest in let t = Test test (length c + 1) in let j = Jump (length d) in
        let first : s ≡ (pre ++ t ∷ []) ++ (c ++ (j ∷ d ++ later)) = e ∙ simp append_assoc in
        let second : s ≡ (pre ++ t ∷ (c ++ j ∷ [])) ++ (d ++ later) = e ∙ simp append_assoc in
        stand_both _ _ _ _ (stand_of content (pre ++ t ∷ []) (j ∷ d ++ later) h.0 first) (stand_among rest otherwise (pre ++ t ∷ (c ++ j ∷ [])) later h.1 second)
    stand_among (tree.Otherwise content rest) otherwise pre later h e =
        let c = code_of content in
        let last : s ≡ pre ++ ((whens_front c rest ++ c) ++ later) = e ∙ ap (λ (l : List Step). pre ++ (l ++ later)) (otherwise_last c rest h.0) in
        let first : s ≡ (pre ++ whens_front c rest) ++ (c ++ later) = last ∙ simp append_assoc in
        stand_both _ _ _ _
        (ap (map (at_place s)) (chosen_if (has_otherwise rest) (places_of content later) h.0) ∙ stand_of content (pre ++ whens_front c rest) later h.1 first)
        (stand_among rest (code_of content) pre later h.2 e)

-- the entries of the steps of a tree are the bodies of its inlines
pub bodies_stand : (t : Elements) → IsSingle t → map (body_in (code_of t)) (map (inline_at (length (code_of t))) (places_of t [])) ≡ map body_of (inlines t)
bodies_stand t h =
    both (places_of t []) ∙ stand_of (code_of t) t [] [] h (sym (append-nil (code_of t)))
  where
    both : (ps : List Place) → map (body_in (code_of t)) (map (inline_at (length (code_of t))) ps) ≡ map (at_place (code_of t)) ps
    both [] = refl
    both (p ∷ ps) = ap (λ (l : List Body). at_place (code_of t) p ∷ l) (both ps)

-- the entries that the compiler has made
pub entries_made : (t u : Elements) (later start : List Step) (made : List Inline) (places first : List Place) (total : ℕ)
    → u ≡ t → start ≡ [] → first ≡ [] → later ≡ code_of u ++ start → places ≡ places_of u start ++ first → total ≡ length later → made ≡ map (inline_at total) places → made ≡ entries t
unfolding entries
entries_made t u later start made places first total same s f l p n e =
    let l2 : later ≡ code_of t = l ∙ ap (λ (x : Elements). code_of x ++ start) same ∙ ap (λ (x : List Step). code_of t ++ x) s ∙ append-nil (code_of t) in
    let p2 : places ≡ places_of t [] =
    p ∙ ap (λ (x : Elements). places_of x start ++ first) same ∙ ap (λ (x : List Step). places_of t x ++ first) s ∙ ap (λ (x : List Place). places_of t [] ++ x) f ∙ append-nil (places_of t []) in
    let n2 : total ≡ length (code_of t) = n ∙ ap length l2 in
    e ∙ ap (λ (m : ℕ). map (inline_at m) places) n2 ∙ ap (map (inline_at (length (code_of t)))) p2

-- the same of what the compiler has made
pub entries_stand : (t u : Elements) (steps later start : List Step) (entries : List Inline) (places first : List Place) (total : ℕ)
    → u ≡ t → start ≡ [] → first ≡ [] → later ≡ code_of u ++ start → places ≡ places_of u start ++ first → total ≡ length later → steps ≡ later
    → entries ≡ map (inline_at total) places → IsSingle t → map (body_in steps) entries ≡ map body_of (inlines t)
entries_stand t u steps later start entries places first total same s f l p n a e h =
    let l2 : later ≡ code_of t = l ∙ ap (λ (x : Elements). code_of x ++ start) same ∙ ap (λ (x : List Step). code_of t ++ x) s ∙ append-nil (code_of t) in
    let p2 : places ≡ places_of t [] =
    p ∙ ap (λ (x : Elements). places_of x start ++ first) same ∙ ap (λ (x : List Step). places_of t x ++ first) s ∙ ap (λ (x : List Place). places_of t [] ++ x) f ∙ append-nil (places_of t []) in
    let n2 : total ≡ length (code_of t) = n ∙ ap length l2 in
    ap (λ (x : List Step). map (body_in x) entries) (a ∙ l2)
    ∙ ap (map (body_in (code_of t))) (e ∙ ap (λ (m : ℕ). map (inline_at m) places) n2 ∙ ap (map (inline_at (length (code_of t)))) p2)
    ∙ bodies_stand t h

-- the steps that the compiler has made
pub steps_made : (t u : Elements) (steps later start : List Step) → u ≡ t → start ≡ [] → later ≡ code_of u ++ start → steps ≡ later → steps ≡ code_of t
steps_made t u steps later start same s l a =
    a ∙ l ∙ ap (λ (x : Elements). code_of x ++ start) same ∙ ap (λ (x : List Step). code_of t ++ x) s ∙ append-nil (code_of t)

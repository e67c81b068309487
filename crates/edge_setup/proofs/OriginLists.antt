-- Origins that words name, one more at a time.
use Rattle.std.proofs.Common.{◌≡◌, ◌<◌, ◌+◌, ◌||◌, ℕ, zero, suc, Bool, true, false, bytes_eq, List, [], ◌∷◌, ◌++◌, map, take, get_or, length, Some, None, Bor, inl, inr, refl, subst, ap, sym, ◌∙◌, arith}
use Rattle.std.specs.List.{list_any}
use Rattle.std.proofs.lemmas.Bool.{or_from, or_parts}
use Rattle.std.proofs.Math.Bool.{or-false, or-true}
use Rattle.std.proofs.lemmas.List.{get_or-map, length-map, map_more, map_push, take-map}
use Rattle.std.proofs.lemmas.List.Folds.{list_any-append}
use Rattle.clap.proofs.WalkLemmas.{list_any-map}
use Rattle.clap.specs.Words.{Text}
use Rattle.edge_setup.specs.declared.setup.Origin.{Origin}
use Rattle.edge_setup.specs.declared.origin.OriginFault.{OriginFault}
use Rattle.edge_setup.specs.declared.origin.OriginFault.TheVariants as fault
use Rattle.edge_setup.specs.declared.origin.Place.{Place}
use Rattle.edge_setup.specs.OriginWord.{authority_fault, is_authority, IsFaultOf, IsPlace}
use Rattle.edge_types.specs.Halves.{around}
use Rattle.std.specs.Str.{byte}
use Rattle.edge_setup.specs.Words.{AreOrigins, IsOriginFault, NamesOrigin, SayNoOrigins, authorities, stands_twice}
use Rattle.edge_setup.specs.Origins.{has}

-- what words say
abbrev texts : List (Bor Text) → List Text
texts words = map (λ w. w.now) words

-- ---- one word more

origins_more : (words : List Text) (origins : List Origin) (word : Text) (origin : Origin) → AreOrigins words origins → NamesOrigin word origin.authority.items origin.place
    → AreOrigins (words ++ word ∷ []) (origins ++ origin ∷ [])
origins_more [] [] word origin are named = (named, tt)
origins_more [] (o ∷ os) word origin are named = absurd are
origins_more (w ∷ ws) [] word origin are named = absurd are
origins_more (w ∷ ws) (o ∷ os) word origin are named = (are.0, origins_more ws os word origin are.1 named)

-- one word more, and the origin that it is
pub origins_next : (words : List (Bor Text)) (i : ℕ) (d : Bor Text) (origins : List Origin) (origin : Origin) → i < length words → AreOrigins (texts (take i words)) origins
    → NamesOrigin (get_or words i d).now origin.authority.items origin.place → AreOrigins (texts (take (i + 1) words)) (origins ++ origin ∷ [])
origins_next words i d origins origin within are named =
    subst (λ (ws : List Text). AreOrigins ws (origins ++ origin ∷ [])) (sym (map_more (λ (w : Bor Text). w.now) words i d within))
    (origins_more (texts (take i words)) origins (get_or words i d).now origin are named)

-- ---- authorities that stand twice

or_middle : (a b c d : Bool) → ((a || b) || (c || d)) ≡ ((a || c) || (b || d))
or_middle true b c d = refl
or_middle false true true d = refl
or_middle false true false d = refl
or_middle false false c d = refl

-- a text more stands twice where it stands already
twice_more : (ts : List Text) (t : Text) → stands_twice (ts ++ t ∷ []) ≡ (stands_twice ts || list_any (λ u. bytes_eq u t) ts)
twice_more [] t = refl
twice_more (u ∷ us) t =
    let found : list_any (bytes_eq u) (us ++ t ∷ []) ≡ (list_any (bytes_eq u) us || bytes_eq u t) = list_any-append (bytes_eq u) us (t ∷ []) ∙ ap (λ (b : Bool). list_any (bytes_eq u) us || b) (or-false (bytes_eq u t)) in
    rw (found, twice_more us t) (or_middle (list_any (bytes_eq u) us) (bytes_eq u t) (stands_twice us) (list_any (λ v. bytes_eq v t) us))

-- the same of origins, and an origin more
twice_next : (origins : List Origin) (origin : Origin) → stands_twice (authorities (origins ++ origin ∷ [])) ≡ (stands_twice (authorities origins) || has origin.authority.items origins)
twice_next origins origin =
    let authority = origin.authority.items in
    let longer = map_push (λ (o : Origin). o.authority.items) origins origin in
    rw (longer, twice_more (authorities origins) authority) (ap (λ (b : Bool). stands_twice (authorities origins) || b) (sym (list_any-map (λ (u : Text). bytes_eq u authority) (λ (o : Origin). o.authority.items) origins)))

-- where none stood twice, and a new one is added, none does
pub once_next : (origins : List Origin) (origin : Origin) → stands_twice (authorities origins) ≡ false → has origin.authority.items origins ≡ false → stands_twice (authorities (origins ++ origin ∷ [])) ≡ false
once_next origins origin once new = twice_next origins origin ∙ or_from (stands_twice (authorities origins)) (has origin.authority.items origins) once new

-- ---- words that say no origins

-- what stands before the first `=` is one text, and so is what stands after it
same_half : (h k : Text × Text) → Some h ≡ Some k → h.0 ≡ k.0
same_half h k same = let is : h ≡ k = cc in ap (λ (halves : Text × Text). halves.0) is

last_half : (h k : Text × Text) → Some h ≡ Some k → h.1 ≡ k.1
last_half h k same = let is : h ≡ k = cc in ap (λ (halves : Text × Text). halves.1) is

-- a word with a fault names no origin
no_origin_by : (word : Text) (f : OriginFault) → IsFaultOf word f → (authority : Text) (place : Place) → NamesOrigin word authority place → ⊥
no_origin_by word f (inl form) authority place names =
    let none : around (byte "=") word ≡ None = form.1 in
    let cut : around (byte "=") word ≡ Some (authority, names.last) = names.cut in
    absurd (cc)
no_origin_by word f (inr (inl bad)) authority place names =
    bad.1.3 place (subst (λ (t : Text). IsPlace t place) (last_half (authority, names.last) (bad.1.0, bad.1.1) (sym names.cut ∙ bad.1.2)) names.named)
no_origin_by word f (inr (inr bad)) authority place names =
    let same : authority ≡ bad.0 = same_half (authority, names.last) (bad.0, bad.1) (sym names.cut ∙ bad.2) in
    let is : is_authority bad.0 ≡ true = subst (λ (a : Text). is_authority a ≡ true) same names.written in
    let none : authority_fault bad.0 ≡ None = rw is refl in
    let some : authority_fault bad.0 ≡ Some f = bad.3 in
    absurd (cc)

no_origin_there : (words : List (Bor Text)) (i : ℕ) (d : Bor Text) (f : OriginFault) (origins : List Origin) → i < length words → IsFaultOf (get_or words i d).now f → AreOrigins (texts words) origins → ⊥
no_origin_there [] i d f origins within none are = let past : i < 0 = within in absurd (omega arith)
no_origin_there (w ∷ ws) i d f [] within none are = absurd are
no_origin_there (w ∷ ws) zero d f (o ∷ os) within none are = no_origin_by w.now f none o.authority.items o.place are.0
no_origin_there (w ∷ ws) (suc i) d f (o ∷ os) within none are = no_origin_there ws i d f os (omega arith) none are.1

-- one of the words is no origin
pub none_named : (words : List (Bor Text)) (i : ℕ) (d : Bor Text) (f : OriginFault) → i < length words → IsFaultOf (get_or words i d).now f → SayNoOrigins (Some (texts words)) × IsOriginFault (Some (texts words)) f
none_named words i d f within bad =
    let at : get_or (texts words) i [] ≡ (get_or words i d).now = get_or-map (λ (w : Bor Text). w.now) words i d [] within in
    let there : i < length (texts words) = rw (length-map words (λ (w : Bor Text). w.now)) within in
    (λ origins said. no_origin_there words i d f origins within bad said.0, inr (i, there, subst (λ (word : Text). IsFaultOf word f) (sym at) bad))

same_authority : (word a b : Text) (s t : Place) → NamesOrigin word a s → NamesOrigin word b t → a ≡ b
same_authority word a b s t x y = same_half (a, x.last) (b, y.last) (sym x.cut ∙ y.cut)

-- words are the same authorities, however they are read
same_authorities : (words : List Text) (xs ys : List Origin) → AreOrigins words xs → AreOrigins words ys → authorities xs ≡ authorities ys
same_authorities [] [] [] are also = refl
same_authorities [] [] (y ∷ ys) are also = absurd also
same_authorities [] (x ∷ xs) ys are also = absurd are
same_authorities (w ∷ ws) [] ys are also = absurd are
same_authorities (w ∷ ws) (x ∷ xs) [] are also = absurd also
same_authorities (w ∷ ws) (x ∷ xs) (y ∷ ys) are also =
    rw (same_authority w x.authority.items y.authority.items x.place y.place are.0 also.0, same_authorities ws xs ys are.1 also.1) refl

-- the first words are the first origins
are_taken : (n : ℕ) (words : List Text) (origins : List Origin) → AreOrigins words origins → AreOrigins (take n words) (take n origins)
are_taken zero words origins are = tt
are_taken (suc n) [] [] are = tt
are_taken (suc n) [] (o ∷ os) are = absurd are
are_taken (suc n) (w ∷ ws) [] are = absurd are
are_taken (suc n) (w ∷ ws) (o ∷ os) are = (are.0, are_taken n ws os are.1)

any_taken : (p : Text → Bool) (n : ℕ) (ts : List Text) → list_any p ts ≡ false → list_any p (take n ts) ≡ false
any_taken p zero ts none = refl
any_taken p (suc n) [] none = refl
any_taken p (suc n) (t ∷ ts) none = let parts = or_parts (p t) (list_any p ts) none in or_from (p t) (list_any p (take n ts)) parts.0 (any_taken p n ts parts.1)

once_taken : (n : ℕ) (ts : List Text) → stands_twice ts ≡ false → stands_twice (take n ts) ≡ false
once_taken zero ts once = refl
once_taken (suc n) [] once = refl
once_taken (suc n) (t ∷ ts) once =
    let parts = or_parts (list_any (bytes_eq t) ts) (stands_twice ts) once in
    or_from (list_any (bytes_eq t) (take n ts)) (stands_twice (take n ts)) (any_taken (bytes_eq t) n ts parts.0) (once_taken n ts parts.1)

-- of the first words none has an authority of the ones before it
new_there : (words : List Text) (n : ℕ) (all origins : List Origin) (origin : Origin) → AreOrigins words all → stands_twice (authorities all) ≡ false → AreOrigins (take n words) (origins ++ origin ∷ [])
    → has origin.authority.items origins ≡ false
new_there words n all origins origin are once first =
    let same = same_authorities (take n words) (take n all) (origins ++ origin ∷ []) (are_taken n words all are) first in
    let taken = take-map (λ (o : Origin). o.authority.items) n all in
    let fresh : stands_twice (authorities (origins ++ origin ∷ [])) ≡ false = rw (← same, ← taken) (once_taken n (authorities all) once) in
    (or_parts (stands_twice (authorities origins)) (has origin.authority.items origins) (sym (twice_next origins origin) ∙ fresh)).1

-- where one of the words has an authority of the ones before it, they say none
not_twice : (words : List (Bor Text)) (i : ℕ) (d : Bor Text) (origins : List Origin) (origin : Origin) → i < length words → AreOrigins (texts (take i words)) origins
    → NamesOrigin (get_or words i d).now origin.authority.items origin.place → has origin.authority.items origins ≡ true → SayNoOrigins (Some (texts words))
not_twice words i d origins origin within are named stands all said =
    let first = origins_next words i d origins origin within are named in
    let taken = take-map (λ (w : Bor Text). w.now) (i + 1) words in
    let new = new_there (texts words) (i + 1) all origins origin said.0 said.1 (subst (λ (ws : List Text). AreOrigins ws (origins ++ origin ∷ [])) (sym taken) first) in
    let no : true ≡ false = sym stands ∙ new in
    absurd (cc)

-- one of the words has an authority of the ones before it
pub twice_named : (words : List (Bor Text)) (i : ℕ) (d : Bor Text) (origins : List Origin) (origin : Origin) → i < length words → AreOrigins (texts (take i words)) origins
    → NamesOrigin (get_or words i d).now origin.authority.items origin.place → has origin.authority.items origins ≡ true → SayNoOrigins (Some (texts words)) × IsOriginFault (Some (texts words)) fault.Twice
twice_named words i d origins origin within are named stands =
    let more = origins_next words i d origins origin within are named in
    let taken = take-map (λ (w : Bor Text). w.now) (i + 1) words in
    let first = subst (λ (ws : List Text). AreOrigins ws (origins ++ origin ∷ [])) (sym taken) more in
    let twice : stands_twice (authorities (origins ++ origin ∷ [])) ≡ true = twice_next origins origin ∙ rw stands (or-true (stands_twice (authorities origins))) in
    (not_twice words i d origins origin within are named stands, inl (refl, (i + 1, origins ++ origin ∷ [], first, twice)))

-- How a legal log grows: by the URL that a page waits for, and by those that are fetched ahead.
use Rattle.std.proofs.Common.{◌≡◌, ◌⊎◌, ◌≢◌, ℕ, zero, suc, ◌<◌, Bool, true, false, cond, List, [], ◌∷◌, ◌++◌, length, get_or, find, Some, None, Result, Ok, Err, refl, sym, ap, subst, inl, inr, arith, if◌then◌else◌}
use Rattle.std.specs.List.{Contains, Any}
use Rattle.std.proofs.lemmas.List.{length-append}
use Rattle.std.proofs.lemmas.List.Quantifiers.{all_pairs_push}
use Rattle.std.proofs.lemmas.Slice.Eq.{bytes_eq-Decides}
use Rattle.edge_types.specs.declared.request.Request.{Request}
use Rattle.edge_types.specs.Answered.{Answered, processed, body_of}
use Rattle.edge_types.specs.Table.{is_of, answer_of}
use Rattle.esi_tree.specs.Reading.{tree_of}
use Rattle.esi_tree.specs.Tree.{Elements}
use Rattle.esi_meaning.specs.Ahead.{ahead_of_tree, ahead_of, AsksFor, IsLegal, LeadsTo, MayFollow}
use Rattle.esi_meaning.specs.Laws.{LegalGrows, WaitedForFollows, AheadFollows}
use Rattle.esi_meaning.proofs.AskedLemmas.{any_contained, asked_has_source}
use Rattle.esi_meaning.proofs.LawLemmas.{ahead_has_source}
use Rattle.esi_meaning.proofs.StateLaws.{waits_for_asked}
use Rattle.esi_meaning.proofs.StateLemmas.{agrees_itself}

-- where a URL isn't logged, each answer is of another
other_step : (x : Answered) (log : List Answered) (w : List ℕ) → (find (is_of w) log ≡ None → (k : ℕ) (d : Answered) → k < length log → (get_or log k d).url ≢ w)
    → (b : Bool) → is_of w x ≡ b → cond b (Some x) (find (is_of w) log) ≡ None → (k : ℕ) (d : Answered) → k < length (x ∷ log) → (get_or (x ∷ log) k d).url ≢ w
other_step x log w later true is e k d within = absurd (cc)
other_step x log w later false is e zero d within =
    λ same. let found : is_of w x ≡ true = (bytes_eq-Decides x.url w).1 same in absurd (cc)
other_step x log w later false is e (suc k) d within = later e k d (omega arith)

others : (log : List Answered) (w : List ℕ) → answer_of log w ≡ None → (k : ℕ) (d : Answered) → k < length log → (get_or log k d).url ≢ w
others [] w e k d within = absurd (omega arith)
others (x ∷ log) w e k d within = other_step x log w (others log w) (is_of w x) refl e k d within

-- an element of a list with one more is the one more, or was there
record Split (log front : List Answered) (answer : Answered) : Type 0 where
  more : List Answered
  was : log ≡ front ++ answer ∷ more

split_cons : (x : Answered) (log front : List Answered) (next answer : Answered) → ((front ≡ log) × (answer ≡ next)) ⊎ Split log front answer
    → ((x ∷ front ≡ x ∷ log) × (answer ≡ next)) ⊎ Split (x ∷ log) (x ∷ front) answer
split_cons x log front next answer (inl last) = inl (ap (λ (rest : List Answered). x ∷ rest) last.0, last.1)
split_cons x log front next answer (inr was) = inr (record { more = was.more; was = ap (λ (rest : List Answered). x ∷ rest) was.was })

split : (log : List Answered) (next : Answered) (front : List Answered) (answer : Answered) (back : List Answered) → log ++ next ∷ [] ≡ front ++ answer ∷ back
    → ((front ≡ log) × (answer ≡ next)) ⊎ Split log front answer
split [] next [] answer back e = let same : answer ≡ next = cc in inl (refl, same)
split [] next (y ∷ front) answer back e = absurd (omega (arith, ap length e, length-append front (answer ∷ back)))
split (x ∷ log) next [] answer back e = let same : x ≡ answer = cc in inr (record { more = log; was = ap (λ (a : Answered). a ∷ log) same })
split (x ∷ log) next (y ∷ front) answer back e =
    let same : x ≡ y = cc in
    let rest : log ++ next ∷ [] ≡ front ++ answer ∷ back = cc in
    subst (λ (a : Answered). ((a ∷ front ≡ x ∷ log) × (answer ≡ next)) ⊎ Split (x ∷ log) (a ∷ front) answer) same
    (split_cons x log front next answer (split log next front answer back rest))

follows : (r : Request) (u : List ℕ) (log : List Answered) (next : Answered) → IsLegal r u log → MayFollow r u log next.url → (front : List Answered) (answer : Answered)
    → ((front ≡ log) × (answer ≡ next)) ⊎ Split log front answer → MayFollow r u front answer.url
follows r u log next legal may front answer (inl last) =
    let here = subst (λ (x : Answered). MayFollow r u log x.url) (sym last.1) may in
    subst (λ (xs : List Answered). MayFollow r u xs answer.url) (sym last.0) here
follows r u log next legal may front answer (inr was) = legal.each front answer was.more was.was

pub legal_grows : LegalGrows
legal_grows r u log next legal may none = record {
  once = all_pairs_push (λ (earlier later : Answered). earlier.url ≢ later.url) log next legal.once (others log next.url none);
  each = λ front answer back e. follows r u log next legal may front answer (split log next front answer back e);
}

leads_first : (r : Request) (w : List ℕ) (xs : List Answered) → Any (AsksFor r w) xs → Any (LeadsTo r w) xs
leads_first r w xs (k, x, within, is, asks) = any_contained (LeadsTo r w) xs x (k, within, is) asks.leads

-- the page's own URL is the first that is logged
own_is_logged : (r : Request) (u : List ℕ) (first : Answered) (log : List Answered) → IsLegal r u (first ∷ log) → answer_of (first ∷ log) u ≡ Some first
own_is_logged r u first log legal =
    let own : first.url ≡ u = legal.each [] first log refl in
    let is : is_of u first ≡ true = (bytes_eq-Decides first.url u).1 own in
    rw is refl

waited_step : (r : Request) (u w : List ℕ) (log : List Answered) → IsLegal r u log → answer_of log w ≡ None → (w ≡ u) ⊎ Any (AsksFor r w) log → MayFollow r u log w
waited_step r u w [] legal none (inl own) = own
waited_step r u w [] legal none (inr (k, x, within, is, asks)) = absurd (omega arith)
waited_step r u w (first ∷ log) legal none (inl own) =
    let logged = own_is_logged r u first log legal in
    let missing : answer_of (first ∷ log) u ≡ None = subst (λ (v : List ℕ). answer_of (first ∷ log) v ≡ None) own none in
    absurd (cc)
waited_step r u w (first ∷ log) legal none (inr asks) = leads_first r w (first ∷ log) asks

pub waited_for_follows : WaitedForFollows
waited_for_follows r log L u w legal e =
    let is = waits_for_asked r log log L u w legal.once (agrees_itself log legal.once) e in
    waited_step r u w log legal is.1 (asked_has_source r log L u w is.0)

ahead_step : (r : Request) (u w : List ℕ) (log : List Answered) (answer : Answered) → Contains log answer → LeadsTo r w answer → MayFollow r u log w
ahead_step r u w [] answer c leads = absurd (omega (arith, c.1))
ahead_step r u w (first ∷ log) answer c leads = any_contained (LeadsTo r w) (first ∷ log) answer c leads

module _ (r : Request) (w : List ℕ) (answer : Answered) where
  leads_tree : processed answer.reply ≡ true → (read : Result Elements ℕ) → tree_of (body_of answer.reply) ≡ read → Contains (ahead_of_tree r answer.url read) w → LeadsTo r w answer
  leads_tree is (Ok t) tree c = record { t = t; is_processed = is; is_tree = tree; has_source = (ahead_has_source r answer.url t w c).0 }
  leads_tree is (Err place) tree c = absurd (omega (arith, c.1))

  leads_if : (b : Bool) → processed answer.reply ≡ b → Contains (if b then ahead_of_tree r answer.url (tree_of (body_of answer.reply)) else []) w → LeadsTo r w answer
  leads_if true is c = leads_tree is (tree_of (body_of answer.reply)) refl c
  leads_if false is c = absurd (omega (arith, c.1))

pub ahead_follows : AheadFollows
unfolding ahead_of
ahead_follows r u log answer w stands c = ahead_step r u w log answer stands (leads_if r w answer (processed answer.reply) refl c)

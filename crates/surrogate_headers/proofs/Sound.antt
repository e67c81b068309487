-- What is read as a directive is spelled as one.
use Rattle.std.proofs.Common.{◌≡◌, ◌⊎◌, inl, inr, ℕ, ◌<◌, Bool, true, false, not, cond, eqb, ltb, ◌&&◌, ◌||◌, List, [], ◌∷◌, ◌++◌, length, take, drop, Option, Some, None, refl, sym, ap, subst, ◌∙◌, append_assoc, arith}
use Rattle.std.specs.Prelude.{codes, option_map}
use Rattle.std.specs.List.{list_all, position_or_len}
use Rattle.std.specs.Char.{is_ascii_digit}
use Rattle.std.specs.Str.{str_eq_ignore_ascii_case}
use Rattle.std.proofs.lemmas.Bool.{and_parts, and_from, ltb-true, eqb-true, eqb-false}
use Rattle.std.proofs.lemmas.Option.{cond_some, some_pair_parts}
use Rattle.std.proofs.lemmas.List.{length-take, take-append-drop}
use Rattle.std.proofs.lemmas.List.Sums.{prefix_len-le-length}
use Rattle.surrogate_headers.specs.declared.parameter.Age.{Age}
use Rattle.surrogate_headers.specs.declared.directive.Name.{Name}
use Rattle.surrogate_headers.specs.declared.directive.Name.TheVariants as name
use Rattle.surrogate_headers.specs.declared.directive.Asks.{Asks}
use Rattle.surrogate_headers.specs.declared.directive.Asks.TheVariants.{NoStore, MaxAge, Content}
use Rattle.edge_types.specs.Token.{is_token}
use Rattle.edge_types.specs.Blanks.{is_blank, skip_blanks}
use Rattle.edge_types.specs.Halves.{around}
use Rattle.surrogate_headers.specs.Parameter.{ends_value, bare_value, value_after_equals, value_at, seconds_of, age, age_around, age_of, names_esi}
use Rattle.surrogate_headers.specs.Directive.{Target, Every, Device, Directive, ends_name, name_of, asked_by, token_behind, target_of, directive_of}
use Rattle.surrogate_headers.specs.Spelling.{EachPasses, IsNamed, SpellsValue, SpellsSeconds, SpellsPlainAge, SpellsExtendedAge, SpellsAge, SpellsParameter, SpellsAsks, SpellsTarget, Spells}
use Rattle.surrogate_headers.proofs.RunLemmas.{bound, guarded, run_passes, around-sound}

seconds_of-sound : (digits : List ℕ) (n : ℕ) → seconds_of digits ≡ Some n → SpellsSeconds digits n
unfolding seconds_of
seconds_of-sound digits n e =
    let both = cond_some (ltb 0 (length digits) && list_all is_ascii_digit digits) _ n e in
    let tests = and_parts (ltb 0 (length digits)) (list_all is_ascii_digit digits) both.0 in
    record { some = ltb-true 0 (length digits) tests.0; each_digit = tests.1; value = sym both.1 }

plain_age : (value : List ℕ) (o : Option ℕ) (a : Age) → seconds_of value ≡ o → option_map (λ n. age n 0) o ≡ Some a → SpellsPlainAge value a
plain_age value None a is e = absurd (cc)
plain_age value (Some n) a is e =
    let same : age n 0 ≡ a = cc in
    subst (SpellsPlainAge value) same (record { seconds = seconds_of-sound value n is; none = refl })

age_of-sound : (value : List ℕ) (a : Age) → age_of value ≡ Some a → SpellsAge value a
unfolding age_of
age_of-sound value a e = by_halves (around 43 value) refl e
  where
    by_halves : (o : Option (List ℕ × List ℕ)) → around 43 value ≡ o → age_around value o ≡ Some a → SpellsAge value a
    by_halves None is h = inl (plain_age value (seconds_of value) a refl h)
    by_halves (Some (x, y)) is h =
        let (m, of_m, h1) = bound (seconds_of x) _ a h in
        let (n, of_n, h2) = bound (seconds_of y) _ a h1 in
        let same : age m n ≡ a = cc in
        let round = around-sound 43 value x y is in
        inr (subst (SpellsExtendedAge value) same (record { front = x; back = y; joined = round.joined; seconds = seconds_of-sound x m of_m; extension = seconds_of-sound y n of_n }))

-- a value and what follows it, which a text is
pub record ReadsValue (text value rest : List ℕ) : Type 0 where
  pub spelling : List ℕ
  pub joined : text ≡ spelling ++ rest
  pub spelled : SpellsValue spelling value

bare-sound : (text value rest : List ℕ) → bare_value text ≡ Some (value, rest) → ReadsValue text value rest
unfolding bare_value
bare-sound text value rest e = by_count (eqb (position_or_len ends_value text) 0) refl e
  where
    by_count : (t : Bool) → eqb (position_or_len ends_value text) 0 ≡ t → ◌≡◌ {A = Option (List ℕ × List ℕ)} (cond t None (Some (take (position_or_len ends_value text) text, drop (position_or_len ends_value text) text))) (Some (value, rest)) → ReadsValue text value rest
    by_count true at h = absurd (cc)
    by_count false at h =
        let both = some_pair_parts _ value _ rest h in
        let k = position_or_len ends_value text in
        let more : 0 < length (take k text) = omega (arith, length-take k text, prefix_len-le-length (λ b. not (ends_value b)) text, eqb-false k 0 at) in
        rw (← both.0, ← both.1) (record {
          spelling = take k text;
          joined = sym (take-append-drop k text);
          spelled = inr (record { spelled = refl; some = more; no_end = run_passes ends_value text });
        })

quoted-sound : (text value rest : List ℕ) → around 34 text ≡ Some (value, rest) → ReadsValue (34 ∷ text) value rest
quoted-sound text value rest e =
    let round = around-sound 34 text value rest e in
    record {
      spelling = 34 ∷ (value ++ 34 ∷ []);
      joined = ap (λ (xs : List ℕ). 34 ∷ xs) (round.joined ∙ sym (append_assoc value (34 ∷ []) rest));
      spelled = inl (record { spelled = refl; no_quote = round.none });
    }

value-sound : (text value rest : List ℕ) → value_after_equals text ≡ Some (value, rest) → ReadsValue text value rest
value-sound [] value rest e = absurd (cc)
value-sound (b ∷ bs) value rest e = by_first (eqb b 34) refl e
  where
    by_first : (t : Bool) → eqb b 34 ≡ t → cond t (around 34 bs) (bare_value (b ∷ bs)) ≡ Some (value, rest) → ReadsValue (b ∷ bs) value rest
    by_first true at h = rw (eqb-true b 34 at) (quoted-sound bs value rest h)
    by_first false at h = bare-sound (b ∷ bs) value rest h

value_at-sound : (text value rest : List ℕ) → value_at text ≡ Some (value, rest) → (after : List ℕ) × (text ≡ 61 ∷ after) × ReadsValue after value rest
unfolding value_at
value_at-sound [] value rest e = absurd (cc)
value_at-sound (b ∷ bs) value rest e =
    let both = guarded (eqb b 61) (value_after_equals bs) (value, rest) e in
    (bs, ap (λ (x : ℕ). x ∷ bs) (eqb-true b 61 both.0), value-sound bs value rest both.1)

-- the blanks at the front
pub record SkipsBlanks (text rest : List ℕ) : Type 0 where
  pub blanks : List ℕ
  pub joined : text ≡ blanks ++ rest
  pub each : EachPasses is_blank blanks

skip_if : (b : ℕ) (bs rest : List ℕ) (t : Bool) → is_blank b ≡ t → SkipsBlanks bs rest → SkipsBlanks (b ∷ bs) (cond t rest (b ∷ bs))
skip_if b bs rest true at s = record { blanks = b ∷ s.blanks; joined = ap (λ (xs : List ℕ). b ∷ xs) s.joined; each = and_from _ _ at s.each }
skip_if b bs rest false at s = record { blanks = []; joined = refl; each = refl }

skip-cut : (text : List ℕ) → SkipsBlanks text (skip_blanks text)
skip-cut [] = record { blanks = []; joined = refl; each = refl }
skip-cut (b ∷ bs) = skip_if b bs (skip_blanks bs) (is_blank b) refl (skip-cut bs)

token_behind-sound : (text : List ℕ) (t : Target) → token_behind text ≡ Some t → (rest : List ℕ) × (text ≡ 59 ∷ rest) × (is_token (skip_blanks rest) ≡ true) × (Device (skip_blanks rest) ≡ t)
token_behind-sound [] t e = absurd (cc)
token_behind-sound (b ∷ bs) t e =
    let semicolon = guarded (eqb b 59) (cond (is_token (skip_blanks bs)) (Some (Device (skip_blanks bs))) None) t e in
    let token = cond_some (is_token (skip_blanks bs)) (Device (skip_blanks bs)) t semicolon.1 in
    (bs, ap (λ (x : ℕ). x ∷ bs) (eqb-true b 59 semicolon.0), token.0, token.1)

target_of-sound : (text : List ℕ) (t : Target) → target_of text ≡ Some t → SpellsTarget text t
unfolding target_of
target_of-sound [] t e =
    let same : Every ≡ t = cc in subst (SpellsTarget []) same refl
target_of-sound (b ∷ bs) t e =
    let (rest, is, token, same) = token_behind-sound (skip_blanks (b ∷ bs)) t e in
    let before = skip-cut (b ∷ bs) in
    let after = skip-cut rest in
    let device : SpellsTarget (b ∷ bs) (Device (skip_blanks rest)) = record {
      before = before.blanks;
      after = after.blanks;
      joined = before.joined ∙ ap (λ (xs : List ℕ). before.blanks ++ xs) (is ∙ ap (λ (xs : List ℕ). 59 ∷ xs) after.joined);
      blank_before = before.each;
      blank_after = after.each;
      is_one = token;
    } in
    subst (SpellsTarget (b ∷ bs)) same device

-- the texts of each name
abbrev IsText : Name → List ℕ → Type 0
IsText name.NoStore text = IsNamed text (codes "no-store") ⊎ IsNamed text (codes "no-store-remote")
IsText name.MaxAge text = IsNamed text (codes "max-age")
IsText name.Content text = IsNamed text (codes "content")

name_of-sound : (text : List ℕ) (which : Name) → name_of text ≡ Some which → IsText which text
unfolding name_of
name_of-sound text which e = by_tests _ _ _ _ refl refl refl refl e
  where
    by_tests : (a b c d : Bool) → str_eq_ignore_ascii_case text (codes "no-store") ≡ a → str_eq_ignore_ascii_case text (codes "no-store-remote") ≡ b → str_eq_ignore_ascii_case text (codes "max-age") ≡ c → str_eq_ignore_ascii_case text (codes "content") ≡ d
        → cond (a || b) (Some name.NoStore) (cond c (Some name.MaxAge) (cond d (Some name.Content) None)) ≡ Some which → IsText which text
    by_tests true b c d p q r s h = let same : name.NoStore ≡ which = cc in subst (λ (w : Name). IsText w text) same (inl p)
    by_tests false true c d p q r s h = let same : name.NoStore ≡ which = cc in subst (λ (w : Name). IsText w text) same (inr q)
    by_tests false false true d p q r s h = let same : name.MaxAge ≡ which = cc in subst (λ (w : Name). IsText w text) same r
    by_tests false false false true p q r s h = let same : name.Content ≡ which = cc in subst (λ (w : Name). IsText w text) same s
    by_tests false false false false p q r s h = absurd (cc)

-- what is asked by a name, and what is left of the text
pub record ReadsAsks (part : List ℕ) (asks : Asks) (back : List ℕ) : Type 0 where
  pub front : List ℕ
  pub joined : part ≡ front ++ back
  pub asked : SpellsAsks front asks

moved : (part : List ℕ) (asks asks' : Asks) (back back' : List ℕ) → asks ≡ asks' → back ≡ back' → ReadsAsks part asks back → ReadsAsks part asks' back'
moved part asks asks' back back' p q r = rw (← p, ← q) r

parameter : (part front text written value back : List ℕ) → part ≡ front ++ text → IsNamed front written → (after : List ℕ) × (text ≡ 61 ∷ after) × ReadsValue after value back
    → (whole : List ℕ) × (part ≡ whole ++ back) × SpellsParameter whole written value
parameter part front text written value back is named (after, starts, read) =
    (front ++ 61 ∷ read.spelling, is ∙ ap (λ (xs : List ℕ). front ++ xs) (starts ∙ ap (λ (xs : List ℕ). 61 ∷ xs) read.joined) ∙ sym (append_assoc front (61 ∷ read.spelling) back), record { front = front; back = read.spelling; joined = refl; named = named; spelled = read.spelled })

asked_by-sound : (part front text : List ℕ) (which : Name) (asks : Asks) (back : List ℕ) → part ≡ front ++ text → IsText which front → asked_by which text ≡ Some (asks, back) → ReadsAsks part asks back
unfolding asked_by
asked_by-sound part front text name.NoStore asks back is named e =
    let both = some_pair_parts NoStore asks text back e in
    moved part NoStore asks text back both.0 both.1 (record { front = front; joined = is; asked = named })
asked_by-sound part front text name.MaxAge asks back is named e =
    let (v, of_v, h) = bound (value_at text) _ (asks, back) e in
    let (a, of_a, h2) = bound (age_of v.0) _ (asks, back) h in
    let both = some_pair_parts (MaxAge a) asks v.1 back h2 in
    let (whole, joined, spelled) = parameter part front text (codes "max-age") v.0 v.1 is named (value_at-sound text v.0 v.1 of_v) in
    moved part (MaxAge a) asks v.1 back both.0 both.1 (record { front = whole; joined = joined; asked = (v.0, spelled, age_of-sound v.0 a of_a) })
asked_by-sound part front text name.Content asks back is named e =
    let (v, of_v, h) = bound (value_at text) _ (asks, back) e in
    let both = some_pair_parts (Content (names_esi v.0)) asks v.1 back h in
    let (whole, joined, spelled) = parameter part front text (codes "content") v.0 v.1 is named (value_at-sound text v.0 v.1 of_v) in
    moved part (Content (names_esi v.0)) asks v.1 back both.0 both.1 (record { front = whole; joined = joined; asked = (v.0, spelled, refl) })

pub sound : (part : List ℕ) (d : Directive) → directive_of part ≡ Some d → Spells part d
unfolding directive_of
sound part d e =
    let n = position_or_len ends_name part in
    let (which, of_name, h1) = bound (name_of (take n part)) _ d e in
    let (asked, of_asks, h2) = bound (asked_by which (drop n part)) _ d h1 in
    let (target, of_target, h3) = bound (target_of asked.1) _ d h2 in
    let same : record { asks = asked.0; target = target } ≡ d = cc in
    let read = asked_by-sound part (take n part) (drop n part) which asked.0 asked.1 (sym (take-append-drop n part)) (name_of-sound (take n part) which of_name) of_asks in
    subst (Spells part) same (record { front = read.front; back = asked.1; joined = read.joined; asks = read.asked; target = target_of-sound asked.1 target of_target })

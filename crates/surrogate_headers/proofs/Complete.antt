-- What is spelled as a directive is read as one.
use Rattle.std.proofs.Common.{◌≡◌, inl, inr, ℕ, ◌<◌, Bool, true, false, not, cond, eqb, ltb, ◌&&◌, ◌||◌, List, [], ◌∷◌, ◌++◌, map, length, Option, Some, None, refl, sym, ap, ◌∙◌, append_assoc, arith}
use Rattle.std.specs.Prelude.{codes, bytes_eq, option_map}
use Rattle.std.specs.List.{list_all, position_or_len}
use Rattle.std.specs.Char.{is_ascii_digit, to_ascii_lowercase}
use Rattle.std.proofs.lemmas.Bool.{and_parts, and_from, lt-ltb, cond-true, cond-false, eqb-true, ne_eqb, or_cases, or_parts, not-true, both_ways}
use Rattle.std.proofs.lemmas.Bool.Decides.{nat_tests}
use Rattle.std.proofs.lemmas.List.Folds.{list_all-map}
use Rattle.std.proofs.lemmas.Slice.Eq.{bytes_eq-Decides}
use Rattle.std.proofs.Math.Seq.{take-append_seam, drop-append_seam}
use Rattle.surrogate_headers.specs.declared.parameter.Age.{Age}
use Rattle.surrogate_headers.specs.declared.directive.Name.{Name}
use Rattle.surrogate_headers.specs.declared.directive.Name.TheVariants as name
use Rattle.surrogate_headers.specs.declared.directive.Asks.{Asks}
use Rattle.surrogate_headers.specs.declared.directive.Asks.TheVariants.{NoStore, MaxAge, Content}
use Rattle.edge_types.specs.Token.{is_token_byte, is_token}
use Rattle.edge_types.specs.Blanks.{is_blank, skip_blanks}
use Rattle.edge_types.specs.WhiteSpace.{is_ws}
use Rattle.edge_types.specs.Halves.{around}
use Rattle.surrogate_headers.specs.Parameter.{ends_value, bare_value, value_after_equals, value_at, seconds_of, age, age_around, age_of, names_esi}
use Rattle.surrogate_headers.specs.Directive.{Target, Every, Device, Directive, ends_name, name_of, asked_by, token_behind, target_of, directive_of}
use Rattle.surrogate_headers.specs.Spelling.{EachPasses, NonePasses, IsNamed, SpellsValue, SpellsSeconds, SpellsAge, SpellsParameter, SpellsAsks, SpellsTarget, Spells}
use Rattle.surrogate_headers.proofs.RunLemmas.{run_stops, stops_at, around-spelled, around-none}
use Rattle.edge_types.proofs.TrimLemmas.{skip_run}

seconds_of-spelled : (digits : List ℕ) (n : ℕ) → SpellsSeconds digits n → seconds_of digits ≡ Some n
unfolding seconds_of
seconds_of-spelled digits n s =
    cond-true _ _ _ (and_from _ _ (lt-ltb 0 (length digits) s.some) s.each_digit) ∙ ap Some (sym s.value)

digit_no_plus : (b : ℕ) → is_ascii_digit b ≡ true → not (eqb b 43) ≡ true
digit_no_plus b e = grind (arith, nat_tests)

no_plus : (digits : List ℕ) → EachPasses is_ascii_digit digits → NonePasses (λ b. eqb b 43) digits
no_plus [] each = refl
no_plus (b ∷ bs) each =
    let here = and_parts (is_ascii_digit b) (list_all is_ascii_digit bs) each in
    and_from _ _ (digit_no_plus b here.0) (no_plus bs here.1)

age_of-spelled : (value : List ℕ) (a : Age) → SpellsAge value a → age_of value ≡ Some a
unfolding age_of
age_of-spelled value a (inl s) =
    let none = around-none 43 value (no_plus value s.seconds.each_digit) in
    let extension : 0 ≡ a.extension = sym s.none in
    ap (age_around value) none ∙ ap (option_map (λ n. age n 0)) (seconds_of-spelled value a.seconds s.seconds) ∙ (λ i. Some (age a.seconds (extension i)))
age_of-spelled value a (inr s) =
    let halves : around 43 value ≡ Some (s.front, s.back) = ap (around 43) s.joined ∙ around-spelled 43 s.front s.back (no_plus s.front s.seconds.each_digit) in
    ap (age_around value) halves ∙ rw (seconds_of-spelled s.front a.seconds s.seconds, seconds_of-spelled s.back a.extension s.extension) refl

-- a blank and a `;` end a value and a name
blank_ends_value : (b : ℕ) → is_blank b ≡ true → ends_value b ≡ true
unfolding ends_value
blank_ends_value b e = elim (or_cases (eqb b 32) (eqb b 9) e) [
  | inl space ↦ rw (eqb-true b 32 space) refl
  | inr tab ↦ rw (eqb-true b 9 tab) refl
]

blank_ends_name : (b : ℕ) → is_blank b ≡ true → ends_name b ≡ true
unfolding ends_name
blank_ends_name b e = ap (λ t. t || (eqb b 61 || eqb b 59)) e

semicolon_ends_value : ends_value 59 ≡ true
unfolding ends_value
semicolon_ends_value = refl

semicolon_ends_name : ends_name 59 ≡ true
unfolding ends_name
semicolon_ends_name = refl

equals_ends_name : ends_name 61 ≡ true
unfolding ends_name
equals_ends_name = refl

-- what a target's spelling begins with
target_stops : (p : ℕ → Bool) (back : List ℕ) (t : Target) → p 59 ≡ true → ((b : ℕ) → is_blank b ≡ true → p b ≡ true) → SpellsTarget back t → position_or_len p back ≡ 0
target_stops p back Every semicolon blank is = rw is refl
target_stops p back (Device token) semicolon blank s = by_front s.before s.blank_before s.joined
  where
    by_front : (before : List ℕ) → EachPasses is_blank before → back ≡ before ++ 59 ∷ (s.after ++ token) → position_or_len p back ≡ 0
    by_front [] each is = rw is (stops_at p 59 (s.after ++ token) semicolon)
    by_front (b ∷ bs) each is = rw is (stops_at p b (bs ++ 59 ∷ (s.after ++ token)) (blank b (and_parts _ _ each).0))

bare_value-spelled : (value rest : List ℕ) → 0 < length value → NonePasses ends_value value → position_or_len ends_value rest ≡ 0 → bare_value (value ++ rest) ≡ Some (value, rest)
unfolding bare_value
bare_value-spelled value rest some none stop =
    let at : position_or_len ends_value (value ++ rest) ≡ length value = run_stops ends_value value rest none stop in
    let more : eqb (length value) 0 ≡ false = ne_eqb (length value) 0 (λ e. omega arith) in
    rw (at, more, take-append_seam value rest, drop-append_seam value rest) refl

quote_ends_value : (b : ℕ) → not (ends_value b) ≡ true → eqb b 34 ≡ false
unfolding ends_value
quote_ends_value b e = (or_parts (eqb b 59) (eqb b 34) (or_parts (eqb b 44) (eqb b 59 || eqb b 34) (or_parts (is_ws b) (eqb b 44 || (eqb b 59 || eqb b 34)) (not-true (ends_value b) e)).1).1).1

value-spelled : (spelling value rest : List ℕ) → SpellsValue spelling value → position_or_len ends_value rest ≡ 0 → value_after_equals (spelling ++ rest) ≡ Some (value, rest)
value-spelled spelling value rest (inl s) stop =
    let regrouped : spelling ++ rest ≡ 34 ∷ (value ++ 34 ∷ rest) = ap (λ (xs : List ℕ). xs ++ rest) s.spelled ∙ ap (λ (xs : List ℕ). 34 ∷ xs) (append_assoc value (34 ∷ []) rest) in
    ap value_after_equals regrouped ∙ around-spelled 34 value rest s.no_quote
value-spelled spelling value rest (inr s) stop = ap (λ (xs : List ℕ). value_after_equals (xs ++ rest)) s.spelled ∙ by_first value s.some s.no_end
  where
    by_first : (value : List ℕ) → 0 < length value → NonePasses ends_value value → value_after_equals (value ++ rest) ≡ Some (value, rest)
    by_first [] some none = absurd (omega arith)
    by_first (b ∷ bs) some none =
        cond-false (eqb b 34) _ _ (quote_ends_value b (and_parts _ _ none).0) ∙ bare_value-spelled (b ∷ bs) rest some none stop

-- a byte ends a name as its small letter does
ends_name-small : (b : ℕ) → ends_name (to_ascii_lowercase b) ≡ ends_name b
unfolding ends_name
ends_name-small b = grind (arith, nat_tests)

-- a text that is one of the names has no byte that ends a name
name_whole : (text name : List ℕ) → NonePasses ends_name (map to_ascii_lowercase name) → IsNamed text name → NonePasses ends_name text
name_whole text name none is =
    let same : map to_ascii_lowercase text ≡ map to_ascii_lowercase name = (bytes_eq-Decides _ _).0 is in
    let small : list_all (λ b. not (ends_name b)) (map to_ascii_lowercase text) ≡ list_all (λ b. not (ends_name (to_ascii_lowercase b))) text = list_all-map (λ b. not (ends_name b)) to_ascii_lowercase text in
    let each : list_all (λ b. not (ends_name (to_ascii_lowercase b))) text ≡ list_all (λ b. not (ends_name b)) text = by_byte text in
    sym each ∙ sym small ∙ ap (list_all (λ b. not (ends_name b))) same ∙ none
  where
    by_byte : (bs : List ℕ) → list_all (λ b. not (ends_name (to_ascii_lowercase b))) bs ≡ list_all (λ b. not (ends_name b)) bs
    by_byte [] = refl
    by_byte (b ∷ bs) = λ i. not (ends_name-small b i) && by_byte bs i

-- the name that a text in small letters is
abbrev name_of_small : List ℕ → Option Name
name_of_small small =
    cond (bytes_eq small (codes "no-store") || bytes_eq small (codes "no-store-remote")) (Some name.NoStore)
    (cond (bytes_eq small (codes "max-age")) (Some name.MaxAge) (cond (bytes_eq small (codes "content")) (Some name.Content) None))

name_of-small : (text name : List ℕ) → IsNamed text name → name_of text ≡ name_of_small (map to_ascii_lowercase name)
unfolding name_of
name_of-small text name is = ap name_of_small ((bytes_eq-Decides (map to_ascii_lowercase text) (map to_ascii_lowercase name)).0 is)

-- a token begins with no blank
no_blank : (b : ℕ) → is_token_byte b ≡ true → is_blank b ≡ false
unfolding is_token_byte
no_blank b e = by_test (is_blank b) refl
  where
    by_test : (t : Bool) → is_blank b ≡ t → t ≡ false
    by_test false h = refl
    by_test true h = elim (or_cases (eqb b 32) (eqb b 9) h) [
      | inl space ↦ absurd (both_ways (is_token_byte b) (rw (eqb-true b 32 space) refl) e)
      | inr tab ↦ absurd (both_ways (is_token_byte b) (rw (eqb-true b 9 tab) refl) e)
    ]

skip_none : (token : List ℕ) → is_token token ≡ true → skip_blanks token ≡ token
unfolding is_token
skip_none [] is = refl
skip_none (b ∷ bs) is =
    let each = (and_parts (ltb 0 (length (b ∷ bs))) (list_all is_token_byte (b ∷ bs)) is).1 in
    cond-false (is_blank b) (skip_blanks bs) (b ∷ bs) (no_blank b (and_parts (is_token_byte b) (list_all is_token_byte bs) each).0)

token_behind-spelled : (after token : List ℕ) → EachPasses is_blank after → is_token token ≡ true → token_behind (59 ∷ (after ++ token)) ≡ Some (Device token)
token_behind-spelled after token each is =
    let skipped : skip_blanks (after ++ token) ≡ token = skip_run after token each ∙ skip_none token is in
    ap (λ (t : List ℕ). cond (is_token t) (Some (Device t)) None) skipped ∙ cond-true (is_token token) (Some (Device token)) None is

-- a target is looked for behind the blanks
target_some : (back : List ℕ) (x : ℕ) (xs : List ℕ) → back ≡ x ∷ xs → target_of back ≡ token_behind (skip_blanks back)
unfolding target_of
target_some back x xs is = rw is refl

target_of-spelled : (back : List ℕ) (t : Target) → SpellsTarget back t → target_of back ≡ Some t
unfolding target_of
target_of-spelled back Every is = rw is refl
target_of-spelled back (Device token) s =
    let behind = s.after ++ token in
    by_front s.before s.joined ∙ ap (λ (xs : List ℕ). token_behind (skip_blanks xs)) s.joined
    ∙ ap token_behind (skip_run s.before (59 ∷ behind) s.blank_before) ∙ token_behind-spelled s.after token s.blank_after s.is_one
  where
    by_front : (before : List ℕ) → back ≡ before ++ 59 ∷ (s.after ++ token) → target_of back ≡ token_behind (skip_blanks back)
    by_front [] is = target_some back 59 (s.after ++ token) is
    by_front (b ∷ bs) is = target_some back b (bs ++ 59 ∷ (s.after ++ token)) is

-- a directive is read once its name, what it asks and its target are
from_parts : (name_text rest back : List ℕ) (which : Name) (asks : Asks) (target : Target) → NonePasses ends_name name_text → position_or_len ends_name rest ≡ 0 → name_of name_text ≡ Some which
    → asked_by which rest ≡ Some (asks, back) → target_of back ≡ Some target → directive_of (name_text ++ rest) ≡ Some (record { asks = asks; target = target })
unfolding directive_of
from_parts name_text rest back which asks target none stop named asked aimed =
    let at : position_or_len ends_name (name_text ++ rest) ≡ length name_text = run_stops ends_name name_text rest none stop in
    rw (at, take-append_seam name_text rest, drop-append_seam name_text rest, named, asked, aimed) refl

asked_max_age : (spelling value back : List ℕ) (a : Age) → SpellsValue spelling value → SpellsAge value a → position_or_len ends_value back ≡ 0 → asked_by name.MaxAge (61 ∷ (spelling ++ back)) ≡ Some (MaxAge a, back)
unfolding asked_by value_at
asked_max_age spelling value back a spelled of_age stop = rw (value-spelled spelling value back spelled stop, age_of-spelled value a of_age) refl

asked_content : (spelling value back : List ℕ) → SpellsValue spelling value → position_or_len ends_value back ≡ 0 → asked_by name.Content (61 ∷ (spelling ++ back)) ≡ Some (Content (names_esi value), back)
unfolding asked_by value_at
asked_content spelling value back spelled stop = rw (value-spelled spelling value back spelled stop) refl

asked_no_store : (back : List ℕ) → asked_by name.NoStore back ≡ Some (NoStore, back)
unfolding asked_by
asked_no_store back = refl

-- no name has a byte that ends a name
names_whole : (NonePasses ends_name (codes "no-store")) × (NonePasses ends_name (codes "no-store-remote")) × (NonePasses ends_name (codes "max-age")) × (NonePasses ends_name (codes "content"))
unfolding ends_name
names_whole = (refl, refl, refl, refl)

named_parameter : (part text back name value : List ℕ) (s : SpellsParameter text name value) → part ≡ text ++ back → part ≡ s.front ++ 61 ∷ (s.back ++ back)
named_parameter part text back name value s is =
    is ∙ ap (λ (xs : List ℕ). xs ++ back) s.joined ∙ append_assoc s.front (61 ∷ s.back) back

spelled_no_store : (part text back : List ℕ) (target : Target) (written : List ℕ) → NonePasses ends_name (map to_ascii_lowercase written) → name_of_small (map to_ascii_lowercase written) ≡ Some name.NoStore
    → part ≡ text ++ back → IsNamed text written → SpellsTarget back target → directive_of part ≡ Some (record { asks = NoStore; target = target })
spelled_no_store part text back target written none which is named aimed =
    ap directive_of is ∙ from_parts text back back name.NoStore NoStore target (name_whole text written none named) (target_stops ends_name back target semicolon_ends_name blank_ends_name aimed)
    (name_of-small text written named ∙ which) (asked_no_store back) (target_of-spelled back target aimed)

spelled_asks : (part text back : List ℕ) (asks : Asks) (target : Target) → part ≡ text ++ back → SpellsAsks text asks → SpellsTarget back target → directive_of part ≡ Some (record { asks = asks; target = target })
spelled_asks part text back NoStore target is (inl named) aimed = spelled_no_store part text back target (codes "no-store") names_whole.0 refl is named aimed
spelled_asks part text back NoStore target is (inr named) aimed = spelled_no_store part text back target (codes "no-store-remote") names_whole.1 refl is named aimed
spelled_asks part text back (MaxAge a) target is (value, s, of_age) aimed =
    let stop = target_stops ends_value back target semicolon_ends_value blank_ends_value aimed in
    ap directive_of (named_parameter part text back (codes "max-age") value s is)
    ∙ from_parts s.front (61 ∷ (s.back ++ back)) back name.MaxAge (MaxAge a) target (name_whole s.front (codes "max-age") names_whole.2 s.named) (stops_at ends_name 61 (s.back ++ back) equals_ends_name)
    (name_of-small s.front (codes "max-age") s.named) (asked_max_age s.back value back a s.spelled of_age stop) (target_of-spelled back target aimed)
spelled_asks part text back (Content esi) target is (value, s, words) aimed =
    let stop = target_stops ends_value back target semicolon_ends_value blank_ends_value aimed in
    ap directive_of (named_parameter part text back (codes "content") value s is)
    ∙ from_parts s.front (61 ∷ (s.back ++ back)) back name.Content (Content esi) target (name_whole s.front (codes "content") names_whole.3 s.named) (stops_at ends_name 61 (s.back ++ back) equals_ends_name)
    (name_of-small s.front (codes "content") s.named) (asked_content s.back value back s.spelled stop ∙ ap (λ (t : Bool). Some (Content t, back)) (sym words)) (target_of-spelled back target aimed)

pub complete : (part : List ℕ) (d : Directive) → Spells part d → directive_of part ≡ Some d
complete part d s = spelled_asks part s.front s.back d.asks d.target s.joined s.asks s.target

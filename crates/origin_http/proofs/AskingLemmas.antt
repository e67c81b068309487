-- Lines that are added one after another.
use Rattle.std.proofs.Common.{◌≡◌, ℕ, List, [], ◌∷◌, ◌++◌, map, Result, Ok, Err, IfOk, refl, sym, ap, subst, ◌∙◌}
use Rattle.std.proofs.lemmas.List.Sums.{fold-append}
use Rattle.http.specs.declared.error.Error.{Error}
use Rattle.http.specs.declared.request.Parts.{Parts}
use Rattle.http.specs.Request.{IsHeadFor}
use Rattle.http.specs.Steps.{StepsTo, AppendsField}
use Rattle.http_uri.specs.declared.uri.Uri.{Uri}
use Rattle.http_header.specs.FieldValue.{FieldValue, plain_value}
use Rattle.http_header.specs.HeaderMap.{Entries, append, append_all}
use Rattle.origin_http.specs.Asking.{Line, line, with_lines, Adds, HasLines}

all_both : (m : Entries FieldValue) (xs ys : List Line) → append_all (append_all m xs) ys ≡ append_all m (xs ++ ys)
all_both m xs ys = sym (fold-append (λ (n : Entries FieldValue) (item : Line). append n item.0 item.1) m xs ys)

-- nothing is added
pub adds_none : (a : Result Parts Error) → Adds [] a a
adds_none (Ok head) = refl
adds_none (Err e) = tt

pub adds_both : (xs ys : List Line) (a b c : Result Parts Error) → Adds xs a b → Adds ys b c → Adds (xs ++ ys) a c
adds_both xs ys a b (Err e) first then = tt
adds_both xs ys a (Err e) (Ok after) first then = absurd then
adds_both xs ys (Err e) (Ok mid) (Ok after) first then = absurd first
adds_both xs ys (Ok before) (Ok mid) (Ok after) first then =
    then ∙ ap (with_lines ys) first ∙ ap (λ (fields : Entries FieldValue). record before { headers = fields }) (all_both before.headers xs ys)

-- a request that has just begun
pub begun : (name : List ℕ) (IsUri : Uri → Type 0) (a : Result Parts Error) → IfOk a (IsHeadFor name IsUri) → HasLines [] a
begun name IsUri (Ok head) is = is.headers
begun name IsUri (Err e) is = tt

-- a step of the builder that appends this line
pub adds_line : (a b : Result Parts Error) (name value : List ℕ) (IsName : List ℕ → Type 0) (IsValue : FieldValue → Type 0)
    → StepsTo a b (λ old new. AppendsField old.headers new.headers IsName IsValue) → StepsTo a b (λ old new. new ≡ record old { headers = new.headers })
    → ((x : List ℕ) → IsName x → x ≡ name) → ((x : FieldValue) → IsValue x → x ≡ plain_value value) → Adds (line name value ∷ []) a b
adds_line a (Err e) name value IsName IsValue field other named valued = tt
adds_line (Err e) (Ok after) name value IsName IsValue field other named valued = absurd field
adds_line (Ok before) (Ok after) name value IsName IsValue field other named valued =
    other ∙ ap (λ (fields : Entries FieldValue). record before { headers = fields })
    (field.after ∙ (λ i. append before.headers (named field.name field.is_name i) (valued field.value field.is_value i)))

-- a request that has these lines, and further ones behind them
pub built_both : (xs ys : List Line) (a b : Result Parts Error) → HasLines xs a → Adds ys a b → HasLines (xs ++ ys) b
built_both xs ys a (Err e) built more = tt
built_both xs ys (Err e) (Ok after) built more = absurd more
built_both xs ys (Ok before) (Ok after) built more =
    ap (λ (head : Parts). head.headers) more ∙ ap (λ (fields : Entries FieldValue). append_all fields ys) built ∙ all_both [] xs ys

-- the same, once it is whole
pub built_whole : {X E : Type 0} (head_in : X → Parts) (xs : List Line) (a : Result Parts Error) (made : Result X E) → HasLines xs a → IfOk made (λ whole. a ≡ Ok (head_in whole))
    → IfOk made (λ whole. (head_in whole).headers ≡ append_all [] xs)
built_whole head_in xs a (Err e) built is = tt
built_whole head_in xs a (Ok whole) built is = subst (HasLines xs) is built

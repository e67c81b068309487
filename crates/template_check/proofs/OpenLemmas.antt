-- Which elements are open, backwards and forwards.
use Rattle.std.proofs.Common.{◌≡◌, ℕ, zero, suc, ◌+◌, ◌-◌, Bool, true, false, List, [], ◌∷◌, length, Option, refl, sym, ◌∙◌, ap, arith, add-one}
use Rattle.std.specs.List.{slice_get}
use Rattle.esi_scanner.specs.declared.token.Kind.{Kind}
use Rattle.esi_scanner.specs.declared.token.Kind.TheVariants as kinds
use Rattle.esi_scanner.specs.declared.token.Token.{Token}
use Rattle.template_check.specs.declared.elements.Opened.{Opened}
use Rattle.template_check.specs.OpenElements.{ended_before, then_innermost, innermost, then_count, open_count}
use Rattle.template_check.specs.Refusals.{outer_of, open_by, open_behind, first}

outer-get : (elements : List Opened) (n : ℕ) → slice_get (outer_of elements) n ≡ slice_get elements (n + 1)
outer-get [] n = refl
outer-get (opened ∷ outer) n = ap (slice_get (opened ∷ outer)) (sym (add-one n))

outer-length : (elements : List Opened) (n : ℕ) → length (outer_of elements) - n ≡ length elements - (n + 1)
outer-length [] n = omega arith
outer-length (opened ∷ outer) n = omega arith

-- one token more, seen from n elements within
get-by : (kind : Kind) (token : Token) (elements : List Opened) (others : ℕ → Option Opened) → token.kind ≡ kind → ((m : ℕ) → others m ≡ slice_get elements m) → (n : ℕ)
    → then_innermost others token (ended_before kind n) ≡ slice_get (open_by kind token.span.start elements) n
get-by kinds.Text token elements others is each n = each n
get-by (kinds.Open tag) token elements others is each n = by_closed tag.closed refl n
  where
    by_closed : (b : Bool) → tag.closed ≡ b → (n : ℕ) → then_innermost others token (ended_before (kinds.Open tag) n) ≡ slice_get (open_by (kinds.Open tag) token.span.start elements) n
    by_closed true closed n = rw closed (each n)
    by_closed false closed zero = rw (closed, is) refl
    by_closed false closed (suc n) = rw closed (each n)
get-by (kinds.Close name) token elements others is each n = each (n + 1) ∙ sym (outer-get elements n)
get-by kinds.Remove token elements others is each n = each n
get-by kinds.BlockStart token elements others is each n = each n
get-by kinds.BlockEnd token elements others is each n = each n

pub innermost-is : (before : List Token) (n : ℕ) → innermost n before ≡ slice_get (open_behind before) n
unfolding innermost open_behind
innermost-is [] n = refl
innermost-is (token ∷ before) n = get-by token.kind token (open_behind before) (λ m. innermost m before) refl (λ m. innermost-is before m) n

pub first-is : (elements : List Opened) → slice_get elements 0 ≡ first elements
first-is [] = refl
first-is (opened ∷ outer) = refl

count-by : (kind : Kind) (place : ℕ) (elements : List Opened) (others : ℕ → ℕ) → ((m : ℕ) → others m ≡ length elements - m) → (n : ℕ)
    → then_count others n (ended_before kind n) ≡ length (open_by kind place elements) - n
count-by kinds.Text place elements others each n = each n
count-by (kinds.Open tag) place elements others each n = by_closed tag.closed refl n
  where
    by_closed : (b : Bool) → tag.closed ≡ b → (n : ℕ) → then_count others n (ended_before (kinds.Open tag) n) ≡ length (open_by (kinds.Open tag) place elements) - n
    by_closed true closed n = rw closed (each n)
    by_closed false closed zero = let same = each 0 in rw closed (omega arith)
    by_closed false closed (suc n) = let same = each n in rw closed (omega arith)
count-by (kinds.Close name) place elements others each n = each (n + 1) ∙ sym (outer-length elements n)
count-by kinds.Remove place elements others each n = each n
count-by kinds.BlockStart place elements others each n = each n
count-by kinds.BlockEnd place elements others each n = each n

count-is : (before : List Token) (n : ℕ) → open_count n before ≡ length (open_behind before) - n
unfolding open_count open_behind
count-is [] n = omega arith
count-is (token ∷ before) n = count-by token.kind token.span.start (open_behind before) (λ m. open_count m before) (λ m. count-is before m) n

pub open_count-is : (before : List Token) → open_count 0 before ≡ length (open_behind before)
open_count-is before = let same = count-is before 0 in omega arith

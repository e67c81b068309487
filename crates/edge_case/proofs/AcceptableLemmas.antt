-- What the edge takes in, as a test and as a fact.
use Rattle.std.proofs.Common.{◌≡◌, ℕ, ◌<◌, ◌≤◌, List, [], length, refl, sym, ◌∙◌, ap, Option, Some, None, IfSome, arith, leb}
use Rattle.std.proofs.lemmas.Bool.{leb-true, le-leb, cond-true, cond-false, false_from_ne_true, false≢true}
use Rattle.std.proofs.lemmas.Bool.Decides.{Decides-and, Decides-like, Decides-by_and}
use Rattle.std.specs.Bool.{Decides}
use Rattle.std.specs.List.{All, list_all}
use Rattle.std.specs.Option.{IsSome}
use Rattle.std.specs.Prelude.{◌↔◌}
use Rattle.edge_types.specs.declared.answer.TheConstants.{MAX_BODY}
use Rattle.edge_types.specs.declared.head.TheConstants.{MIN_STATUS, MAX_STATUS, MAX_CONTENT_TYPE}
use Rattle.edge_types.specs.Answered.{Answered, IsAcceptable, got}
use Rattle.edge_types.specs.Head.{IsPrintable, head_of}
use Rattle.edge_types.specs.HeadFields.{AreHeadFields}
use Rattle.edge_types.specs.declared.control.Control.{Control}
use Rattle.surrogate_headers.specs.Control.{control_of}
use Rattle.edge_case.specs.Case.{device}
use Rattle.edge_case.specs.Reading.{is_printable, is_acceptable, got_from}

le-decides : (a b : ℕ) → Decides (leb a b) (a ≤ b)
le-decides a b = (leb-true a b, le-leb a b)

printable-decides : (b : ℕ) → Decides (is_printable b) (IsPrintable b)
printable-decides b = Decides-and (leb 32 b) (leb b 126) (le-decides 32 b) (le-decides b 126)

printables-decide : (text : List ℕ) → Decides (list_all is_printable text) (All IsPrintable text)
printables-decide text = Decides-by_and is_printable IsPrintable (list_all is_printable) printable-decides refl (λ x xs. refl) text

-- no further fields are always taken in
no_fields : AreHeadFields []
no_fields = record { valid = λ k d within. absurd (omega arith); short = omega arith }

pub acceptable-decides : (status : ℕ) (content_type body : List ℕ) → Decides (is_acceptable status content_type body) (IsAcceptable MAX_BODY (head_of status content_type) body)
unfolding is_acceptable
acceptable-decides status content_type body =
    Decides-like (is_acceptable status content_type body)
    (λ h. record {
      head = record { status_from = h.0; status_to = h.1.0; content_type = record { short = h.1.1.1.0; printable = h.1.1.1.1 }; fields = no_fields };
      body_length = h.1.1.0;
    })
    (λ h. (h.head.status_from, (h.head.status_to, (h.body_length, (h.head.content_type.short, h.head.content_type.printable)))))
    (Decides-and (leb MIN_STATUS status) _ (le-decides MIN_STATUS status)
    (Decides-and (leb status MAX_STATUS) _ (le-decides status MAX_STATUS)
    (Decides-and (leb (length body) MAX_BODY) _ (le-decides (length body) MAX_BODY)
    (Decides-and (leb (length content_type) MAX_CONTENT_TYPE) (list_all is_printable content_type) (le-decides (length content_type) MAX_CONTENT_TYPE)
    (printables-decide content_type)))))

-- what the edge doesn't take in gives nothing
refused : (status : ℕ) (content_type control body u : List ℕ) → (IsAcceptable MAX_BODY (head_of status content_type) body → ⊥) → got_from status content_type control body u ≡ None
unfolding got_from
refused status content_type control body u h =
    cond-false (is_acceptable status content_type body) _ None (false_from_ne_true _ (λ e. h ((acceptable-decides status content_type body).0 e)))

-- a status that is too large
pub got_from_none : (status : ℕ) (content_type control body u : List ℕ) → 599 < status → got_from status content_type control body u ≡ None
got_from_none status content_type control body u h = refused status content_type control body u (λ a. omega (arith, a.head.status_to))

-- what `Answer::got` gives
got_from_is : (result : Option Answered) (status : ℕ) (content_type control body u : List ℕ)
    → (IsSome result ↔ IsAcceptable MAX_BODY (head_of status content_type) body) → IfSome result (λ answer. answer ≡ got u (head_of status content_type) (control_of control device) body)
    → result ≡ got_from status content_type control body u
unfolding got_from
got_from_is None status content_type control body u when value = sym (refused status content_type control body u (λ a. false≢true (when.1 a)))
got_from_is (Some answer) status content_type control body u when value =
    ap Some value ∙ sym (cond-true (is_acceptable status content_type body) _ None ((acceptable-decides status content_type body).1 (when.0 refl)))

-- the same, of copies of the parts
pub got_from_copies : (result : Option Answered) (status : ℕ) (content_type control body u type_copy body_copy : List ℕ) (asks : Control)
    → type_copy ≡ content_type → body_copy ≡ body → asks ≡ control_of control device
    → (IsSome result ↔ IsAcceptable MAX_BODY (head_of status type_copy) body_copy) → IfSome result (λ answer. answer ≡ got u (head_of status type_copy) asks body_copy)
    → result ≡ got_from status content_type control body u
got_from_copies result status content_type control body u type_copy body_copy asks e f g when value =
    rw (← e, ← f) (got_from_is result status type_copy control body_copy u when (rw g at value))

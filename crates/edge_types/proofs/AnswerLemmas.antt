-- Where a template is processed as a page's body, and where as a fragment's.
use Rattle.std.proofs.Common.{◌≡◌, Bool, true, false, ◌&&◌, ◌||◌, refl}
use Rattle.edge_types.specs.declared.answer.Reply.{Reply}
use Rattle.edge_types.specs.declared.answer.Reply.TheVariants.{Failed, Got}
use Rattle.edge_types.specs.Head.{is_success}
use Rattle.edge_types.specs.Answered.{succeeded, processed, processed_as_fragment}

asked_of_all : (success esi errors : Bool) → (success && esi) ≡ true → (esi && (success || errors)) ≡ true
asked_of_all true true errors is = refl
asked_of_all true false errors is = is
asked_of_all false esi errors is = absurd (cc)

asked_of_few : (success esi errors : Bool) → (esi && (success || errors)) ≡ false → (success && esi) ≡ false
asked_of_few true true errors is = is
asked_of_few true false errors is = refl
asked_of_few false esi errors is = refl

asked_of_both : (success esi errors : Bool) → (esi && (success || errors)) ≡ true → success ≡ true → (success && esi) ≡ true
asked_of_both true true errors is true_is = refl
asked_of_both true false errors is true_is = is
asked_of_both false esi errors is true_is = absurd (cc)

-- what is processed as a fragment would be as a page
pub processed_as_page : (reply : Reply) → processed_as_fragment reply ≡ true → processed reply ≡ true
processed_as_page Failed is = absurd (cc)
processed_as_page (Got head control body) is = asked_of_all (is_success head.status) control.esi control.errors is

-- what isn't as a page isn't as a fragment
pub plain_as_fragment : (reply : Reply) → processed reply ≡ false → processed_as_fragment reply ≡ false
plain_as_fragment Failed is = refl
plain_as_fragment (Got head control body) is = asked_of_few (is_success head.status) control.esi control.errors is

-- a template that was fetched is processed as both
pub template_as_fragment : (reply : Reply) → processed reply ≡ true → succeeded reply ≡ true → processed_as_fragment reply ≡ true
template_as_fragment Failed is fetched = absurd (cc)
template_as_fragment (Got head control body) is fetched = asked_of_both (is_success head.status) control.esi control.errors is fetched

-- under an error nothing is processed as a fragment
pub failed_as_fragment : (reply : Reply) → succeeded reply ≡ false → processed_as_fragment reply ≡ false
failed_as_fragment Failed is = refl
failed_as_fragment (Got head control body) is = by_success (is_success head.status) is
  where
    by_success : (success : Bool) → success ≡ false → (success && control.esi) ≡ false
    by_success true e = absurd (cc)
    by_success false e = refl

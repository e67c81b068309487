-- One name after another is left out.
use Rattle.std.proofs.Common.{◌≡◌, ◌∙◌, ℕ, List, ap₂}
use Rattle.http_header.specs.FieldValue.{FieldValue}
use Rattle.http_header.specs.HeaderMap.{Entries, remove}
use Rattle.page_readers.proofs.privacy.leave_out_others.Goals as goal

pub returns : goal.returns
returns c =
    c.leave_out-3.ensures
    ∙ ap₂ (λ (fields : Entries FieldValue) (name : List ℕ). remove fields name)
    (c.leave_out-2.ensures ∙ ap₂ (λ (fields : Entries FieldValue) (name : List ℕ). remove fields name) c.leave_out.ensures c.from_static.ensures)
    c.from_static-2.ensures

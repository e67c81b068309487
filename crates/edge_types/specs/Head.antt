-- What the head of an answer says, and which heads the edge accepts.
use Rattle.std.specs.Prelude.{ℕ, ◌≤◌, Bool, ◌&&◌, nat_le, List, [], length, All}
use Rattle.edge_types.specs.HeadFields.{AreHeadFields}
use Rattle.edge_types.specs.declared.head.Head.{Head}

-- a head that says this status and this content type, and no more
abbrev pub head_of : ℕ → List ℕ → Head
head_of status content_type = record { status = status; content_type = content_type; fields = [] }

-- a printable ASCII character, or a space
abbrev pub IsPrintable : ℕ → Type 0
IsPrintable b = (32 ≤ b) × (b ≤ 126)

-- what an answer may have as its content type
pub record IsContentType (text : List ℕ) : Type 0 where
  pub short : length text ≤ 256
  pub printable : All IsPrintable text

-- which heads the edge accepts
pub record HeadLimits (head : Head) : Type 0 where
  pub status_from : 200 ≤ head.status
  pub status_to : head.status ≤ 599
  pub content_type : IsContentType head.content_type
  pub fields : AreHeadFields head.fields

-- a status of success: 200 to 299
abbrev pub is_success : ℕ → Bool
is_success status = nat_le 200 status && nat_le status 299

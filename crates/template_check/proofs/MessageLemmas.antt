-- Bytes that are shown as text.
use Rattle.std.proofs.Common.{◌≡◌, ℕ, Bool, true, false, List, [], refl, if◌then◌else◌}
use Rattle.std.specs.Str.{IsUtf8, is_utf8}
use Rattle.std.proofs.lemmas.Str.{IsUtf8-from_is_utf8, is_utf8-from_IsUtf8}
use Rattle.template_check.specs.Messages.{shown}

pub shown_text : (bytes : List ℕ) → IsUtf8 bytes → shown bytes ≡ bytes
shown_text bytes valid = rw (is_utf8-from_IsUtf8 bytes valid) refl

none-by : (bytes : List ℕ) (t : Bool) → is_utf8 bytes ≡ t → ¬ (IsUtf8 bytes) → shown bytes ≡ []
none-by bytes true is none = absurd (none (IsUtf8-from_is_utf8 bytes is))
none-by bytes false is none = rw is refl

pub shown_none : (bytes : List ℕ) → ¬ (IsUtf8 bytes) → shown bytes ≡ []
shown_none bytes none = none-by bytes (is_utf8 bytes) refl none

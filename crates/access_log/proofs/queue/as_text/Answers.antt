use Rattle.std.proofs.Common.{◌≡◌}
use Rattle.std.specs.Str.{IsUtf8, IsValidUpTo, valid_up_to}
use Rattle.access_log.proofs.LogText.{accepted, utf8}
use Rattle.access_log.proofs.queue.as_text.Goals as goal

pub unwrap-requires : goal.unwrap-requires
unwrap-requires c =
    let bytes = c.args.bytes.now in
    accepted (IsUtf8 bytes) (λ s. (s.now ≡ bytes) × IsUtf8 bytes) (λ e. IsValidUpTo bytes (valid_up_to e)) c.from_utf8.result (utf8 bytes c.requires) c.from_utf8.ensures.cases

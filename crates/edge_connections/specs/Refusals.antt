-- What the HTTP library refuses by itself.
use Rattle.std.specs.Prelude.{ℕ, Option, Some, None, Result, Ok, Err, if◌then◌else◌}
use Rattle.hyper.specs.Error.{kind_of, is_parse, is_parse_too_large}
use Rattle.hyper.specs.declared.error.Error.{Error}

-- by how a connection ended: 431 for a head that was too large (RFC 6585, section 5), 400 for what was none (RFC 9110, section 15.5.1)
abbrev pub status_of_refusal : {X : Type 0} → Result X Error → Option ℕ
status_of_refusal (Err error) = if is_parse_too_large (kind_of error) then Some 431 else (if is_parse (kind_of error) then Some 400 else None)
status_of_refusal (Ok it) = None

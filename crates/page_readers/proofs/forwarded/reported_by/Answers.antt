use Rattle.std.proofs.Common.{subst}
use Rattle.page_readers.specs.Forwarded.{IsAddressIn}
use Rattle.page_readers.proofs.forwarded.reported_by.Goals as goal

pub returns : goal.returns
returns c = (c.last_member.result.now, c.last_member.ensures, subst (λ text. IsAddressIn text c.address_in.result) c.trimmed.ensures c.address_in.ensures)

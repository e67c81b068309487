use Rattle.std.proofs.Common.{◌≡◌, ℕ, List, Option, Some, None, cond}
use Rattle.std.specs.List.{list_all, filter_map}
use Rattle.surrogate_headers.specs.Cut.{parts_left}
use Rattle.surrogate_headers.specs.CacheControl.{said, gives, agreed, seconds_under}
use Rattle.surrogate_headers.proofs.cache_control.seconds_under.Given as goal

-- the number that all give, with one that was given before, if there was one
abbrev pub agreed_with : Option ℕ → List (Option ℕ) → Option ℕ
agreed_with None others = agreed others
agreed_with (Some n) others = cond (list_all (gives n) others) (Some n) None

-- what was agreed on so far and the parts to come give what the whole value gives
abbrev pub invariant-loop-part : goal.invariant-loop-part
invariant-loop-part l = agreed_with l.agreed (filter_map (said l.name) (parts_left l.part-iterator)) ≡ seconds_under l.name l.value

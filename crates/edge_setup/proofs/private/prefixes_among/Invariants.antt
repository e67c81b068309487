-- The texts before this one are prefixes, and those are held.
use Rattle.std.proofs.Common.{◌≡◌, map, take, Some}
use Rattle.edge_setup.specs.Private.{prefixes_among}
use Rattle.edge_setup.proofs.private.prefixes_among.Given as goal

abbrev pub invariant-loop-text : goal.invariant-loop-text
invariant-loop-text l = prefixes_among (map (λ text. text.now) (take l.text-index l.texts)) ≡ Some l.prefixes.items

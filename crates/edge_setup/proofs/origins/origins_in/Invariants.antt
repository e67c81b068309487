use Rattle.std.proofs.Common.{◌≡◌, false, map, take}
use Rattle.edge_setup.specs.Words.{AreOrigins, authorities, stands_twice}
use Rattle.edge_setup.proofs.origins.origins_in.Given as goal

abbrev pub invariant-loop-word : goal.invariant-loop-word
invariant-loop-word l = AreOrigins (map (λ word. word.now) (take l.word-index l.words)) l.origins.items × (stands_twice (authorities l.origins.items) ≡ false)

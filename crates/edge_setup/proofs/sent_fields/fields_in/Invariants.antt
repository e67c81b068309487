-- The fields of the words before this one are held.
use Rattle.std.proofs.Common.{◌≡◌, map, take}
use Rattle.edge_setup.specs.SentFields.{field_in}
use Rattle.edge_setup.proofs.sent_fields.fields_in.Given as goal

abbrev pub invariant-loop-word : goal.invariant-loop-word
invariant-loop-word l = l.fields.items ≡ map field_in (map (λ word. word.now) (take l.word-index l.words))

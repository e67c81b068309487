use Rattle.std.proofs.Common.{◌≡◌, ◌+◌, ◌≤◌, drop}
use Rattle.template_check.specs.Positions.{behind_all}
use Rattle.template_check.proofs.position.Position.behind.Given as goal

abbrev pub invariant-loop-byte : goal.invariant-loop-byte
invariant-loop-byte l = record { line : l.position.line ≤ l.fn.self.line + l.byte-index; column : l.position.column ≤ l.fn.self.column + l.byte-index; so_far : behind_all (drop l.byte-index l.bytes) l.position ≡ behind_all l.bytes l.fn.self }

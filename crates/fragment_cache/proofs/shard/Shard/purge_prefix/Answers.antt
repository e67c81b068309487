use Rattle.std.proofs.Common.{◌≡◌, ◌≤◌, length, sym, ap, subst, arith}
use Rattle.fragment_cache.specs.Machine.{Shelf, State, begins}
use Rattle.fragment_cache.proofs.PurgeLemmas.{length-left}
use Rattle.fragment_cache.proofs.shard.Shard.purge_prefix.Goals as goal

pub overflow_sub-result : goal.overflow_sub-result
overflow_sub-result c =
    let fewer : length c.purge_prefix.new.self.entries ≤ length c.self.inside.entries.entries = subst (λ (s : Shelf). length s.entries ≤ length c.self.inside.entries.entries) (sym c.in_ok-purge_prefix.ensures.ok) (length-left (begins c.args.prefix.now) c.self.inside.entries.entries) in
    omega (arith, c.len.ensures, c.len-before.ensures)

pub returns-clause-count : goal.returns-clause-count
returns-clause-count c =
    let fewer : length c.purge_prefix.new.self.entries ≤ length c.self.inside.entries.entries = subst (λ (s : Shelf). length s.entries ≤ length c.self.inside.entries.entries) (sym c.in_ok-purge_prefix.ensures.ok) (length-left (begins c.args.prefix.now) c.self.inside.entries.entries) in
    let same : length c.self.inside.entries.entries ≡ length c.args.self.now.entries = ap (λ (s : State). length s.entries) c.self.view_is in
    omega (arith, c.len.ensures, c.len-before.ensures)

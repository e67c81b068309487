use Rattle.std.proofs.Common.{rules}
use Rattle.fragment_cache.specs.Machine.{Entry}
use Rattle.fragment_cache.proofs.EntryLemmas.{sound-put, shelf-put}
use Rattle.fragment_cache.proofs.entries.Entries.try_put.Goals as goal

pub invariant_of-self-2 : goal.invariant_of-self-2
invariant_of-self-2 c =
    let entry : Entry = record { answer = c.args.answer.now; expiry = c.args.expiry } in
    sound-put c.args.url.now c.self.inside.cache c.put.new.self c.self.invariant c.in_ok-share-2.field-0 entry (record { answer = c.in_ok-share.field-0; expiry = c.args.expiry }) (search rules) (search rules) c.in_ok-put.ensures.entries (search rules) c.check.ensures

pub returns-clause-ok : goal.returns-clause-ok
returns-clause-ok c =
    let entry : Entry = record { answer = c.args.answer.now; expiry = c.args.expiry } in
    shelf-put c.args.url.now c.self.inside.cache c.put.new.self c.self.invariant c.in_ok-share-2.field-0 entry (record { answer = c.in_ok-share.field-0; expiry = c.args.expiry }) (search rules) (search rules) c.in_ok-put.ensures.entries c.args.self.now c.self.view_is

use Rattle.std.proofs.Common.{refl, rules}
use Rattle.fragment_cache.specs.Machine.{Entry}
use Rattle.fragment_cache.proofs.EntryLemmas.{sound-put, shelf-put}
use Rattle.failed_answers.specs.Rest.{until}
use Rattle.failed_answers.proofs.entries.Entries.put.Goals as goal

pub invariant_of-self-2 : goal.invariant_of-self-2
invariant_of-self-2 c =
    let entry : Entry = until c.args.answer.now c.args.end in
    sound-put c.args.answer.now.url c.self.inside.cache c.put.new.self c.self.invariant c.in_ok-share-2.field-0 entry (until c.in_ok-share.field-0 c.args.end) (search rules) (search rules) c.in_ok-put.ensures.entries refl c.check.ensures

pub returns-clause-ok : goal.returns-clause-ok
returns-clause-ok c =
    let entry : Entry = until c.args.answer.now c.args.end in
    shelf-put c.args.answer.now.url c.self.inside.cache c.put.new.self c.self.invariant c.in_ok-share-2.field-0 entry (until c.in_ok-share.field-0 c.args.end) (search rules) (search rules) c.in_ok-put.ensures.entries c.args.self.now c.self.view_is

use Rattle.fetch_workers.proofs.assembler.assemble_gated.Goals as goal

pub returns : goal.returns
returns g c =
    let wanted = c.wanted-wanted.ensures in
    record { page = rw (wanted.url, wanted.request, wanted.levels, c.new-how.ensures.levels) at c.assemble_gated.ensures.page }

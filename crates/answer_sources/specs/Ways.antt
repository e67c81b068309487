-- By which way an answer came.
use Rattle.std.specs.Prelude.{ℕ, ◌+◌, ◌-◌, ◌^◌, min}
use Rattle.edge_types.specs.declared.answer.Reply.{Reply}
use Rattle.edge_types.specs.declared.answer.Reply.TheVariants.{Failed, Got}
use Rattle.answer_sources.specs.declared.given.Way.{Way}
use Rattle.answer_sources.specs.declared.given.Way.TheVariants as way
use Rattle.answer_sources.specs.declared.given.WayCounts.{WayCounts}

-- the way of a reply: one that fails didn't come
abbrev pub way_told : Reply → Way → Way
way_told Failed by = way.Failed
way_told (Got head control body) by = by

abbrev pub no_way : WayCounts
no_way = record { stored = 0; joined = 0; bridged = 0; fetched = 0; failed = 0 }

abbrev pub one_more : ℕ → ℕ
one_more count = min (count + 1) (2 ^ 64 - 1)

-- one answer more, which came by this way
abbrev pub counted : Way → WayCounts → WayCounts
counted way.Stored counts = record counts { stored = one_more counts.stored }
counted way.Joined counts = record counts { joined = one_more counts.joined }
counted way.Bridged counts = record counts { bridged = one_more counts.bridged }
counted way.Fetched counts = record counts { fetched = one_more counts.fetched }
counted way.Failed counts = record counts { failed = one_more counts.failed }

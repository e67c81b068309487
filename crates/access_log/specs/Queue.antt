-- The bytes of lines that wait until they are written.
use Rattle.std.specs.Prelude.{◌≡◌, ◌⊎◌, ◌&&◌, ◌||◌, ℕ, ◌+◌, ◌-◌, ◌^◌, ◌<◌, min, Bool, true, false, not, nat_eq, nat_le, List, [], ◌++◌, length, drop, if◌then◌else◌}
use Rattle.access_log.specs.Lines.{IsReportOf}
use Rattle.access_log.specs.Queued.{Queued}
use Rattle.access_log.specs.declared.format.LogFormat.{LogFormat}

abbrev pub empty : ℕ → Queued
empty most = record { waiting = []; most = most; lost = 0; lost_in_all = 0; is_written = false; begun_at = 0 }

-- there is room for these bytes
abbrev pub fits : List ℕ → Queued → Bool
fits text queue = nat_le (length queue.waiting + length text) queue.most

-- they wait, and with them it is told what was lost before
abbrev pub kept : List ℕ → Queued → Queued
kept text queue = record queue { waiting = queue.waiting ++ text; lost = 0 }

-- one more, up to the largest number of 64 bits
abbrev pub one_more : ℕ → ℕ
one_more count = min (count + 1) (2 ^ 64 - 1)

-- a line is lost
abbrev pub lost_one : Queued → Queued
lost_one queue = record queue { lost = one_more queue.lost; lost_in_all = one_more queue.lost_in_all }

-- the text is a line, and before it, where some were lost, the line that says how many
abbrev pub IsTold : LogFormat → ℕ → ℕ → List ℕ → List ℕ → Type 0
IsTold format second lost line text =
    ((lost ≡ 0) × (text ≡ line)) ⊎ ((0 < lost) × ((report : List ℕ) × IsReportOf format second lost report × (text ≡ report ++ line)))

-- the line waits if there is room for it and for what it tells
abbrev pub Tells : LogFormat → ℕ → List ℕ → Queued → Queued → Type 0
Tells format second line old new =
    (text : List ℕ) × IsTold format second old.lost line text × (new ≡ (if fits text old then kept text old else lost_one old))

-- the line that says what was lost, if something was, waits if there is room for it
abbrev pub TellsLost : LogFormat → ℕ → Queued → Queued → Type 0
TellsLost format second old new =
    ((old.lost ≡ 0) × (new ≡ old))
    ⊎ ((0 < old.lost) × ((report : List ℕ) × IsReportOf format second old.lost report × (new ≡ (if fits report old then kept report old else lost_one old))))

-- somebody writes
abbrev pub begun : Queued → Queued
begun queue = record queue { is_written = true }

-- somebody writes from this millisecond on
abbrev pub begun_at : ℕ → Queued → Queued
begun_at now queue = record queue { is_written = true; begun_at = now }

-- a write is due: so many bytes wait that it takes few calls for each line, or the last one began long enough ago
abbrev pub is_due : ℕ → Queued → Bool
is_due now queue = nat_le 4096 (length queue.waiting) || nat_le 10 (now - queue.begun_at)

-- nobody writes, and a write is due
abbrev pub may_begin : ℕ → Queued → Bool
may_begin now queue = not queue.is_written && is_due now queue

abbrev pub stopped : Queued → Queued
stopped queue = record queue { is_written = false }

-- so many of the first bytes are taken; whoever finds none writes no more
abbrev pub taken : ℕ → Queued → Queued
taken count queue = record queue { waiting = drop count queue.waiting; is_written = if nat_eq count 0 then false else queue.is_written }

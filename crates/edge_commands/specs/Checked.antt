-- What a check of files counts, and how it ends.
use Rattle.std.specs.Prelude.{ℕ, ◌+◌, ◌-◌, ◌^◌, min, Bool, ◌&&◌, ◌||◌, nat_lt, if◌then◌else◌}
use Rattle.template_check.specs.declared.reporting.Told.{Told}
use Rattle.edge_commands.specs.declared.checking.Sum.{Sum}
use Rattle.edge_commands.specs.declared.status.Status.{Status}
use Rattle.edge_commands.specs.declared.status.Status.TheVariants.{Checked, FaultFound, InputOutput}

-- by how many files couldn't be read, how many have a fault, and how many warnings were reported: a warning counts if
-- the check is strict
abbrev pub checked_as : Bool → ℕ → ℕ → ℕ → Status
checked_as is_strict unread errors warnings =
    if nat_lt 0 unread then InputOutput else (if nat_lt 0 errors || (is_strict && nat_lt 0 warnings) then FaultFound else Checked)

-- a total that is added to, as far as the machine can count
abbrev pub more : ℕ → ℕ → ℕ
more total count = min (total + count) (2 ^ 64 - 1)

-- the totals after one more text, of which this was reported
abbrev pub with_text : Told → Sum → Sum
with_text told sum = record sum { files = more sum.files 1; errors = more sum.errors told.errors; warnings = more sum.warnings told.warnings }

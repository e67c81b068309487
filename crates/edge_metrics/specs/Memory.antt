-- The memory of a process, as Linux tells it (proc(5), "/proc/pid/statm"): numbers of pages with spaces between them, of
-- which the second is that of the resident ones.
use Rattle.std.specs.Prelude.{ℕ, ◌*◌, ◌-◌, ◌^◌, List, Option, option_and_then, option_map}
use Rattle.std.specs.Str.{byte}
use Rattle.edge_types.specs.Decimal.{decimal_of}
use Rattle.edge_types.specs.Halves.{around}

-- the second of several fields, behind which a space stands
abbrev pub second_field : List ℕ → Option (List ℕ)
second_field text = option_and_then (λ halves. option_map (λ rest. rest.0) (around (byte " ") halves.1)) (around (byte " ") text)

-- the bytes of the resident pages, of 4,096 bytes each, if no more than 64 bits tell
abbrev pub resident_of : List ℕ → Option ℕ
resident_of text = option_map (λ pages. pages * 4096) (option_and_then (λ field. decimal_of field (2 ^ 52 - 1)) (second_field text))

-- What a server counts of the requests that it has answered.
use Rattle.std.specs.Prelude.{ℕ, ◌+◌, ◌-◌, ◌^◌, min, max, Bool, ◌&&◌, nat_le, nat_lt, if◌then◌else◌}
use Rattle.edge_metrics.specs.declared.counts.Counts.{Counts}
use Rattle.edge_metrics.specs.declared.durations.Durations.{Durations}
use Rattle.edge_metrics.specs.declared.statuses.Statuses.{Statuses}

-- a sum that no number of 64 bits exceeds
abbrev pub plus : ℕ → ℕ → ℕ
plus one other = min (one + other) (2 ^ 64 - 1)

abbrev pub one_more_if : Bool → ℕ → ℕ
one_more_if is_counted count = if is_counted then plus count 1 else count

-- ---- by the class of the status (RFC 9110, section 15)

abbrev pub no_statuses : Statuses
no_statuses = record { informational = 0; successful = 0; redirection = 0; client_error = 0; server_error = 0 }

abbrev pub counted_status : ℕ → Statuses → Statuses
counted_status status counts = record {
  informational = one_more_if (nat_lt status 200) counts.informational;
  successful = one_more_if (nat_le 200 status && nat_lt status 300) counts.successful;
  redirection = one_more_if (nat_le 300 status && nat_lt status 400) counts.redirection;
  client_error = one_more_if (nat_le 400 status && nat_lt status 500) counts.client_error;
  server_error = one_more_if (nat_le 500 status) counts.server_error;
}

abbrev pub sum_of_statuses : Statuses → Statuses → Statuses
sum_of_statuses one other = record {
  informational = plus one.informational other.informational;
  successful = plus one.successful other.successful;
  redirection = plus one.redirection other.redirection;
  client_error = plus one.client_error other.client_error;
  server_error = plus one.server_error other.server_error;
}

-- ---- by how long they took, in microseconds

abbrev pub no_durations : Durations
no_durations = record { millis_1 = 0; millis_5 = 0; millis_10 = 0; millis_50 = 0; millis_100 = 0; millis_500 = 0; millis_1000 = 0; millis_5000 = 0; millis_10000 = 0; all = 0; micros = 0 }

abbrev pub counted_duration : ℕ → Durations → Durations
counted_duration micros counts = record {
  millis_1 = one_more_if (nat_le micros 1_000) counts.millis_1;
  millis_5 = one_more_if (nat_le micros 5_000) counts.millis_5;
  millis_10 = one_more_if (nat_le micros 10_000) counts.millis_10;
  millis_50 = one_more_if (nat_le micros 50_000) counts.millis_50;
  millis_100 = one_more_if (nat_le micros 100_000) counts.millis_100;
  millis_500 = one_more_if (nat_le micros 500_000) counts.millis_500;
  millis_1000 = one_more_if (nat_le micros 1_000_000) counts.millis_1000;
  millis_5000 = one_more_if (nat_le micros 5_000_000) counts.millis_5000;
  millis_10000 = one_more_if (nat_le micros 10_000_000) counts.millis_10000;
  all = plus counts.all 1;
  micros = plus counts.micros micros;
}

abbrev pub sum_of_durations : Durations → Durations → Durations
sum_of_durations one other = record {
  millis_1 = plus one.millis_1 other.millis_1;
  millis_5 = plus one.millis_5 other.millis_5;
  millis_10 = plus one.millis_10 other.millis_10;
  millis_50 = plus one.millis_50 other.millis_50;
  millis_100 = plus one.millis_100 other.millis_100;
  millis_500 = plus one.millis_500 other.millis_500;
  millis_1000 = plus one.millis_1000 other.millis_1000;
  millis_5000 = plus one.millis_5000 other.millis_5000;
  millis_10000 = plus one.millis_10000 other.millis_10000;
  all = plus one.all other.all;
  micros = plus one.micros other.micros;
}

-- ---- all of it

abbrev pub nothing : Counts
nothing = record { statuses = no_statuses; bytes = 0; durations = no_durations; slowest = 0 }

-- a request with this status and a body of so many bytes, which took so many microseconds
abbrev pub counted : ℕ → ℕ → ℕ → Counts → Counts
counted status bytes micros counts = record {
  statuses = counted_status status counts.statuses;
  bytes = plus counts.bytes bytes;
  durations = counted_duration micros counts.durations;
  slowest = max counts.slowest micros;
}

-- where the slowest one is sought anew
abbrev pub anew : Counts → Counts
anew counts = record counts { slowest = 0 }

-- what two have counted together
abbrev pub sum : Counts → Counts → Counts
sum one other = record {
  statuses = sum_of_statuses one.statuses other.statuses;
  bytes = plus one.bytes other.bytes;
  durations = sum_of_durations one.durations other.durations;
  slowest = max one.slowest other.slowest;
}

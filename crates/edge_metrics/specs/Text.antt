-- The text in which a monitoring system reads what a server counts (Prometheus, "Exposition formats", "Text-based format",
-- version 0.0.4).
use Rattle.std.specs.Prelude.{ℕ, List, [], ◌++◌, codes, decimal, Option, Some, None}
use Rattle.std.specs.List.{flat_map}
use Rattle.edge_metrics.specs.declared.durations.Durations.{Durations}
use Rattle.edge_metrics.specs.declared.connection_counts.ConnectionCounts.{ConnectionCounts}
use Rattle.edge_metrics.specs.declared.measured.Measured.{Measured}
use Rattle.edge_metrics.specs.declared.statuses.Statuses.{Statuses}
use Rattle.edge_metrics.specs.Labels.{escaped}
use Rattle.fetch_outcomes.specs.declared.fetch_fault.FetchFault.{FetchFault}
use Rattle.fetch_outcomes.specs.declared.fetch_fault.FetchFault.TheVariants as fault
use Rattle.fetch_outcomes.specs.declared.fetch_tally.FetchTally.{FetchTally}
use Rattle.fetch_outcomes.specs.declared.origin_tally.OriginTally.{OriginTally}
use Rattle.fetch_outcomes.specs.Names.{name_of}
use Rattle.fragment_cache.specs.declared.tally.CacheTally.{CacheTally}

-- the line that says what a metric means, and the one that says of which kind it is
abbrev pub help_line : List ℕ → List ℕ → List ℕ
help_line name help = codes "# HELP " ++ name ++ codes " " ++ help ++ codes "\n"

abbrev pub type_line : List ℕ → List ℕ → List ℕ
type_line name kind = codes "# TYPE " ++ name ++ codes " " ++ kind ++ codes "\n"

abbrev pub head : List ℕ → List ℕ → List ℕ → List ℕ
head name help kind = help_line name help ++ type_line name kind

-- a line with a value: `name{label="value"} 3`
abbrev pub sample : List ℕ → ℕ → List ℕ
sample name number = name ++ codes " " ++ decimal number ++ codes "\n"

-- ---- requests

unfoldable pub requests_head : List ℕ
requests_head = head (codes "esi_edge_requests_total") (codes "Requests answered, by status.") (codes "counter")

unfoldable pub statuses : Statuses → List ℕ
statuses counts =
    sample (codes "esi_edge_requests_total{status=\"1xx\"}") counts.informational
    ++ sample (codes "esi_edge_requests_total{status=\"2xx\"}") counts.successful
    ++ sample (codes "esi_edge_requests_total{status=\"3xx\"}") counts.redirection
    ++ sample (codes "esi_edge_requests_total{status=\"4xx\"}") counts.client_error
    ++ sample (codes "esi_edge_requests_total{status=\"5xx\"}") counts.server_error

unfoldable pub requests : Statuses → List ℕ
requests counts = requests_head ++ statuses counts

unfoldable pub sent : ℕ → List ℕ
sent bytes =
    head (codes "esi_edge_sent_bytes_total") (codes "Bytes of the bodies of responses.") (codes "counter")
    ++ sample (codes "esi_edge_sent_bytes_total") bytes

-- requests that took no longer than so many seconds
unfoldable pub short : Durations → List ℕ
short counts =
    sample (codes "esi_edge_request_seconds_bucket{le=\"0.001\"}") counts.millis_1
    ++ sample (codes "esi_edge_request_seconds_bucket{le=\"0.005\"}") counts.millis_5
    ++ sample (codes "esi_edge_request_seconds_bucket{le=\"0.01\"}") counts.millis_10
    ++ sample (codes "esi_edge_request_seconds_bucket{le=\"0.05\"}") counts.millis_50
    ++ sample (codes "esi_edge_request_seconds_bucket{le=\"0.1\"}") counts.millis_100

unfoldable pub long : Durations → List ℕ
long counts =
    sample (codes "esi_edge_request_seconds_bucket{le=\"0.5\"}") counts.millis_500
    ++ sample (codes "esi_edge_request_seconds_bucket{le=\"1\"}") counts.millis_1000
    ++ sample (codes "esi_edge_request_seconds_bucket{le=\"5\"}") counts.millis_5000
    ++ sample (codes "esi_edge_request_seconds_bucket{le=\"10\"}") counts.millis_10000
    ++ sample (codes "esi_edge_request_seconds_bucket{le=\"+Inf\"}") counts.all

-- how long all of them took, in seconds, and how many there were
unfoldable pub totals : Durations → List ℕ
totals counts =
    codes "esi_edge_request_seconds_sum " ++ decimal counts.micros ++ codes "e-6\n"
    ++ sample (codes "esi_edge_request_seconds_count") counts.all

unfoldable pub durations_head : List ℕ
durations_head = head (codes "esi_edge_request_seconds") (codes "Seconds from request to response.") (codes "histogram")

unfoldable pub durations : Durations → List ℕ
durations counts = durations_head ++ short counts ++ long counts ++ totals counts

-- ---- connections

unfoldable pub open_connections : ℕ → List ℕ
open_connections count =
    head (codes "esi_edge_connections") (codes "Open connections.") (codes "gauge")
    ++ sample (codes "esi_edge_connections") count

unfoldable pub parked_head : List ℕ
parked_head = head (codes "esi_edge_connections_parked") (codes "Open connections that no thread holds.") (codes "gauge")

unfoldable pub parked_connections : ℕ → List ℕ
parked_connections count = parked_head ++ sample (codes "esi_edge_connections_parked") count

unfoldable pub serving_head : List ℕ
serving_head = head (codes "esi_edge_connections_serving") (codes "Open connections that a thread holds.") (codes "gauge")

unfoldable pub serving_connections : ℕ → List ℕ
serving_connections count = serving_head ++ sample (codes "esi_edge_connections_serving") count

unfoldable pub accepted_head : List ℕ
accepted_head = head (codes "esi_edge_connections_accepted_total") (codes "Accepted connections.") (codes "counter")

unfoldable pub accepted_connections : ℕ → List ℕ
accepted_connections count = accepted_head ++ sample (codes "esi_edge_connections_accepted_total") count

unfoldable pub failed_accepts : ℕ → List ℕ
failed_accepts count =
    head (codes "esi_edge_accepts_failed_total") (codes "Accepts that failed.") (codes "counter")
    ++ sample (codes "esi_edge_accepts_failed_total") count

unfoldable pub connections : ConnectionCounts → List ℕ
connections counts =
    open_connections counts.open ++ parked_connections counts.parked ++ serving_connections counts.serving
    ++ accepted_connections counts.accepted ++ failed_accepts counts.failed_accepts

-- ---- the cache

unfoldable pub kept_answers : ℕ → List ℕ
kept_answers count =
    head (codes "esi_edge_cache_answers") (codes "Answers that are kept.") (codes "gauge")
    ++ sample (codes "esi_edge_cache_answers") count

unfoldable pub kept_bytes_head : List ℕ
kept_bytes_head = head (codes "esi_edge_cache_bytes") (codes "Bytes of the bodies of kept answers.") (codes "gauge")

unfoldable pub kept_bytes : ℕ → List ℕ
kept_bytes bytes = kept_bytes_head ++ sample (codes "esi_edge_cache_bytes") bytes

unfoldable pub bridges_head : List ℕ
bridges_head = head (codes "esi_edge_cache_bridges_total") (codes "Answers in place of a failing fetch.") (codes "counter")

unfoldable pub bridges : ℕ → List ℕ
bridges count = bridges_head ++ sample (codes "esi_edge_cache_bridges_total") count

unfoldable pub lookups_head : List ℕ
lookups_head = head (codes "esi_edge_cache_lookups_total") (codes "Answers asked for, by how they came.") (codes "counter")

-- for which no fetch was made, and for which one was
unfoldable pub unfetched : CacheTally → List ℕ
unfetched counts =
    sample (codes "esi_edge_cache_lookups_total{by=\"hit\"}") counts.hits
    ++ sample (codes "esi_edge_cache_lookups_total{by=\"join\"}") counts.joins

unfoldable pub fetched : CacheTally → List ℕ
fetched counts =
    sample (codes "esi_edge_cache_lookups_total{by=\"lead\"}") counts.leads
    ++ sample (codes "esi_edge_cache_lookups_total{by=\"bypass\"}") counts.bypasses

unfoldable pub lookups : CacheTally → List ℕ
lookups counts = lookups_head ++ unfetched counts ++ fetched counts

unfoldable pub cache : CacheTally → List ℕ
cache counts = kept_answers counts.entries ++ kept_bytes counts.bytes ++ lookups counts ++ bridges counts.bridges

-- ---- fetches

unfoldable pub fetches_head : List ℕ
fetches_head = head (codes "esi_edge_fetches_total") (codes "Fetches from origins, by their end.") (codes "counter")

-- those from one origin that had this end
unfoldable pub ended : List ℕ → List ℕ → ℕ → List ℕ
ended authority outcome count =
    codes "esi_edge_fetches_total{origin=\"" ++ escaped authority ++ codes "\",outcome=\"" ++ outcome ++ sample (codes "\"}") count

abbrev pub failed : List ℕ → FetchFault → ℕ → List ℕ
failed authority why count = ended authority (name_of why) count

-- those that were answered or never made, those of which no whole response came, and those whose response is no answer
unfoldable pub unsent : List ℕ → FetchTally → List ℕ
unsent authority counts =
    ended authority (codes "answered") counts.answered
    ++ failed authority fault.TooMany counts.too_many
    ++ failed authority fault.AtRest counts.at_rest

unfoldable pub unfinished : List ℕ → FetchTally → List ℕ
unfinished authority counts =
    failed authority fault.Connect counts.connect
    ++ failed authority fault.Timeout counts.timeout
    ++ failed authority fault.Cut counts.cut

unfoldable pub refused : List ℕ → FetchTally → List ℕ
refused authority counts =
    failed authority fault.TooLong counts.too_long
    ++ failed authority fault.Coded counts.coded
    ++ failed authority fault.Status counts.status
    ++ failed authority fault.Fields counts.fields

unfoldable pub from_origin : OriginTally → List ℕ
from_origin origin =
    unsent origin.authority.items origin.fetches
    ++ unfinished origin.authority.items origin.fetches
    ++ refused origin.authority.items origin.fetches

unfoldable pub fetches_by_origin : List OriginTally → List ℕ
fetches_by_origin origins = fetches_head ++ flat_map from_origin origins

unfoldable pub without_origin_head : List ℕ
without_origin_head = head (codes "esi_edge_fetches_without_origin_total") (codes "Fetches for which there is no origin.") (codes "counter")

unfoldable pub without_origin : ℕ → List ℕ
without_origin count = without_origin_head ++ sample (codes "esi_edge_fetches_without_origin_total") count

-- how often an origin sent bytes that nobody had asked for
unfoldable pub strays_head : List ℕ
strays_head = head (codes "esi_edge_strays_total") (codes "Times that an origin sent bytes unasked.") (codes "counter")

-- a sample whose last label is its origin
unfoldable pub of_origin : List ℕ → List ℕ → ℕ → List ℕ
of_origin start authority count = start ++ escaped authority ++ sample (codes "\"}") count

abbrev pub strays_from : OriginTally → List ℕ
strays_from origin = of_origin (codes "esi_edge_strays_total{origin=\"") origin.authority.items origin.strays

unfoldable pub strays_by_origin : List OriginTally → List ℕ
strays_by_origin origins = strays_head ++ flat_map strays_from origins

-- ---- the process

unfoldable pub lost_lines : ℕ → List ℕ
lost_lines count =
    head (codes "esi_edge_log_lines_lost_total") (codes "Lines of the log that were lost.") (codes "counter")
    ++ sample (codes "esi_edge_log_lines_lost_total") count

unfoldable pub resident_bytes : ℕ → List ℕ
resident_bytes bytes =
    head (codes "process_resident_memory_bytes") (codes "Resident memory size in bytes.") (codes "gauge")
    ++ sample (codes "process_resident_memory_bytes") bytes

-- what isn't known isn't told
abbrev pub resident : Option ℕ → List ℕ
resident None = []
resident (Some bytes) = resident_bytes bytes

-- ---- all of it

abbrev pub text : Measured → List OriginTally → List ℕ
text measured origins =
    requests measured.requests.statuses ++ sent measured.requests.bytes ++ durations measured.requests.durations
    ++ connections measured.connections ++ cache measured.cache
    ++ fetches_by_origin origins ++ without_origin measured.without_origin ++ strays_by_origin origins
    ++ lost_lines measured.lost_lines ++ resident measured.resident

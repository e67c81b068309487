-- The lines of the log.
use Rattle.std.specs.Prelude.{◌≡◌, ℕ, List, [], ◌++◌, codes, decimal, length, ◌==◌, Option, Some, None, if◌then◌else◌}
use Rattle.std.specs.Net.Text.{ip_text}
use Rattle.std.specs.declared.net.ip_addr.IpAddr.{IpAddr}
use Rattle.access_log.specs.Clock.{IsDateOf, internet_time, log_time}
use Rattle.access_log.specs.Escapes.{json_escaped, log_escaped}
use Rattle.access_log.specs.Faults.{name_of}
use Rattle.access_log.specs.declared.format.LogFormat.{LogFormat}
use Rattle.access_log.specs.declared.format.LogFormat.TheVariants.{Line, Combined, Json}
use Rattle.access_log.specs.declared.record.Fault.{Fault}
use Rattle.access_log.specs.declared.record.RequestRecord.{RequestRecord}
use Rattle.access_log.specs.declared.record.Version.{Version}
use Rattle.access_log.specs.declared.record.Version.TheVariants.{Http10, Http11}
use Rattle.fetch_outcomes.specs.Names as fetch
use Rattle.fetch_outcomes.specs.declared.fetch_fault.FetchFault.{FetchFault}

-- ---- parts

abbrev pub field : List ℕ → List ℕ
field text = text ++ codes " "

abbrev pub or_dash : List ℕ → List ℕ
or_dash text = if length text == 0 then codes "-" else text

abbrev pub client_text : Option IpAddr → List ℕ
client_text (Some address) = ip_text address
client_text None = codes "-"

abbrev pub version_text : Version → List ℕ
version_text Http10 = codes "HTTP/1.0"
version_text Http11 = codes "HTTP/1.1"

-- ---- fields with spaces between them

-- when and what was asked, in the escapes of the Combined Log Format
abbrev pub asked_fields : ℕ → RequestRecord → List ℕ
asked_fields second request =
    field (decimal second) ++ field (log_escaped (or_dash request.method.items)) ++ field (log_escaped (or_dash request.url.items))

-- and how that was answered
abbrev pub answer_fields : RequestRecord → List ℕ
answer_fields request = field (decimal request.status) ++ field (decimal request.body) ++ field (decimal request.answers) ++ decimal request.micros

abbrev pub plain_line : ℕ → RequestRecord → List ℕ
plain_line second request = asked_fields second request ++ answer_fields request

-- ---- the Combined Log Format (Apache HTTP Server, "Log Files"; nginx, `log_format combined`)

abbrev pub quoted : List ℕ → List ℕ
quoted text = codes "\"" ++ log_escaped (or_dash text) ++ codes "\""

-- the request line, between quotes
abbrev pub request_line : RequestRecord → List ℕ
request_line request = codes "\"" ++ log_escaped (or_dash request.method.items) ++ codes " " ++ log_escaped (or_dash request.target.items) ++ codes " " ++ version_text request.version ++ codes "\" "

-- who asked, in the escapes like every text, and when
unfoldable pub log_head : List ℕ → Option IpAddr → List ℕ
log_head date client = log_escaped (client_text client) ++ codes " - - [" ++ log_time date ++ codes "] "

-- what was sent, and what the client says of itself
abbrev pub log_end : RequestRecord → List ℕ
log_end request = field (decimal request.status) ++ field (decimal request.body) ++ quoted request.referer.items ++ codes " " ++ quoted request.agent.items

abbrev pub combined_line : List ℕ → RequestRecord → List ℕ
combined_line date request = log_head date request.client ++ request_line request ++ log_end request

-- ---- JSON (RFC 8259)

abbrev pub member_name : List ℕ → List ℕ
member_name name = codes ",\"" ++ name ++ codes "\":"

unfoldable pub text_member : List ℕ → List ℕ → List ℕ
text_member name text = member_name name ++ codes "\"" ++ json_escaped text ++ codes "\""

abbrev pub number_member : List ℕ → ℕ → List ℕ
number_member name number = member_name name ++ decimal number

-- what a fault is about, and why that is no template: ` http://a.test/p`, ` 3:14: error: <esi:try> ..`; and why no answer
-- came: `: connect`
abbrev pub text_part : List ℕ → List ℕ
text_part text = if length text == 0 then [] else codes " " ++ json_escaped text

abbrev pub cause_part : Option FetchFault → List ℕ
cause_part None = []
cause_part (Some cause) = codes ": " ++ fetch.name_of cause

unfoldable pub fault_member : Option Fault → List ℕ
fault_member None = []
fault_member (Some fault) = codes ",\"fault\":\"" ++ name_of fault.reason ++ text_part fault.url.items ++ text_part fault.message.items ++ cause_part fault.cause ++ codes "\""

unfoldable pub time_member : List ℕ → List ℕ
time_member date = codes "{\"time\":\"" ++ internet_time date ++ codes "\""

-- who asked for what
unfoldable pub asked_members : RequestRecord → List ℕ
asked_members request =
    text_member (codes "client") (client_text request.client) ++ text_member (codes "method") request.method.items ++ text_member (codes "url") request.url.items

-- and how that was answered
unfoldable pub answer_members : RequestRecord → List ℕ
answer_members request =
    number_member (codes "status") request.status ++ number_member (codes "bytes") request.body ++ number_member (codes "microseconds") request.micros
    ++ number_member (codes "answers") request.answers

-- by which ways the page's answers came
unfoldable pub way_members : RequestRecord → List ℕ
way_members request =
    number_member (codes "hits") request.hits ++ number_member (codes "joined") request.joined ++ number_member (codes "bridged") request.bridged
    ++ number_member (codes "failed") request.failed

abbrev pub json_line : List ℕ → RequestRecord → List ℕ
json_line date request = time_member date ++ asked_members request ++ answer_members request ++ way_members request ++ fault_member request.fault ++ codes "}"

-- ---- the line of a request, and the one that says how many were lost

abbrev pub ended : List ℕ → List ℕ
ended line = line ++ codes "\n"

abbrev pub line : LogFormat → ℕ → List ℕ → RequestRecord → List ℕ
line Line second date request = plain_line second request
line Combined second date request = combined_line date request
line Json second date request = json_line date request

abbrev pub IsLineOf : LogFormat → ℕ → RequestRecord → List ℕ → Type 0
IsLineOf format second request text = (date : List ℕ) × IsDateOf second date × (text ≡ ended (line format second date request))

abbrev pub plain_report : ℕ → ℕ → List ℕ
plain_report second lost = field (decimal second) ++ codes "LOST " ++ decimal lost ++ codes " 0 0 0 0"

abbrev pub combined_report : List ℕ → ℕ → List ℕ
combined_report date lost = log_head date None ++ codes "\"-\" 0 0 \"-\" \"" ++ decimal lost ++ codes " lines lost\""

abbrev pub json_report : List ℕ → ℕ → List ℕ
json_report date lost = time_member date ++ number_member (codes "lost") lost ++ codes "}"

abbrev pub report : LogFormat → ℕ → List ℕ → ℕ → List ℕ
report Line second date lost = plain_report second lost
report Combined second date lost = combined_report date lost
report Json second date lost = json_report date lost

abbrev pub IsReportOf : LogFormat → ℕ → ℕ → List ℕ → Type 0
IsReportOf format second lost text = (date : List ℕ) × IsDateOf second date × (text ≡ ended (report format second date lost))

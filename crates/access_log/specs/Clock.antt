-- The time of day, as logs write it: by the parts of a date of HTTP (RFC 9110, section 5.6.7).
use Rattle.std.specs.Prelude.{◌≡◌, ℕ, min, List, ◌++◌, bytes_eq, codes, take, drop, if◌then◌else◌}
use Rattle.httpdate.specs.Date.{date_text, unix_secs}
use Rattle.httpdate.specs.declared.date.HttpDate.{HttpDate}
use Rattle.httpdate.specs.Text.{two_digits}

-- the date of this second since 1970, or of the last one that a year of four digits has
abbrev pub IsDateOf : ℕ → List ℕ → Type 0
IsDateOf second text = (date : HttpDate) × (unix_secs date ≡ min second 253402300799) × (text ≡ date_text date)

-- `Thu, 26 Nov 2026 16:18:10 GMT` has each part at a place of its own
abbrev pub part : ℕ → ℕ → List ℕ → List ℕ
part start len date = take len (drop start date)

abbrev pub day : List ℕ → List ℕ
day date = part 5 2 date

abbrev pub month : List ℕ → List ℕ
month date = part 8 3 date

abbrev pub year : List ℕ → List ℕ
year date = part 12 4 date

abbrev pub time_of_day : List ℕ → List ℕ
time_of_day date = part 17 8 date

-- January is 1
unfoldable pub late_month : List ℕ → ℕ
late_month name =
    if bytes_eq name (codes "Jul") then 7
    else (if bytes_eq name (codes "Aug") then 8
    else (if bytes_eq name (codes "Sep") then 9
    else (if bytes_eq name (codes "Oct") then 10
    else (if bytes_eq name (codes "Nov") then 11
    else 12))))

unfoldable pub month_number : List ℕ → ℕ
month_number name =
    if bytes_eq name (codes "Jan") then 1
    else (if bytes_eq name (codes "Feb") then 2
    else (if bytes_eq name (codes "Mar") then 3
    else (if bytes_eq name (codes "Apr") then 4
    else (if bytes_eq name (codes "May") then 5
    else (if bytes_eq name (codes "Jun") then 6
    else late_month name)))))

-- `26/Nov/2026:16:18:10 +0000`, as Apache writes `%t`
abbrev pub log_time : List ℕ → List ℕ
log_time date = day date ++ codes "/" ++ month date ++ codes "/" ++ year date ++ codes ":" ++ time_of_day date ++ codes " +0000"

-- `2026-11-26T16:18:10Z` (RFC 3339, section 5.6)
unfoldable pub internet_time : List ℕ → List ℕ
internet_time date = year date ++ codes "-" ++ two_digits (month_number (month date)) ++ codes "-" ++ day date ++ codes "T" ++ time_of_day date ++ codes "Z"

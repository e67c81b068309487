-- The page that shows what a server did of late.
use Rattle.std.specs.Prelude.{ℕ, ◌+◌, ◌-◌, ◌*◌, ◌/◌, min, max, List, [], ◌∷◌, ◌++◌, length, codes, decimal, fold, ◌==◌, if◌then◌else◌}
use Rattle.edge_metrics.specs.declared.history.Sample.{Sample}
use Rattle.edge_metrics.specs.declared.series.Series.{Series}
use Rattle.edge_metrics.specs.declared.series.Series.TheVariants as series

-- what a chart draws of a sample
abbrev pub value_in : Series → Sample → ℕ
value_in series.Requests sample = sample.requests
value_in series.Hits sample = sample.hits
value_in series.Slowest sample = sample.slowest

-- the largest of these, or 0 of none
abbrev pub largest : Series → List Sample → ℕ
largest drawn samples = fold (λ most sample. max most (value_in drawn sample)) 0 samples

abbrev pub title : Series → List ℕ
title series.Requests = codes "Requests"
title series.Hits = codes "Hits of the cache"
title series.Slowest = codes "Slowest request"

abbrev pub unit : Series → List ℕ
unit series.Requests = codes " in ten seconds"
unit series.Hits = codes " in ten seconds"
unit series.Slowest = codes " microseconds"

-- ---- bars

-- how high the bar of a number is: 100 for the largest one
abbrev pub height_of : ℕ → ℕ → ℕ
height_of value most = if most == 0 then 0 else min (value * 100 / most) 100

-- a bar of this height on the ground of the chart, whose left edge is here
unfoldable pub bar : ℕ → ℕ → List ℕ
bar left height =
    codes "<rect x=\"" ++ decimal left ++ codes "\" y=\"" ++ decimal (100 - height)
    ++ codes "\" width=\"9\" height=\"" ++ decimal height ++ codes "\"/>\n"

-- a bar for each sample, one after another from here on
abbrev pub bars : Series → ℕ → ℕ → List Sample → List ℕ
bars drawn most left [] = []
bars drawn most left (sample ∷ rest) = bar left (height_of (value_in drawn sample) most) ++ bars drawn most (left + 10) rest

-- where the first one begins, so that the last one ends at the right
abbrev pub left_of : List Sample → ℕ
left_of samples = 600 - 10 * length samples

-- ---- charts

unfoldable pub title_line : List ℕ → List ℕ
title_line name = codes "<h2>" ++ name ++ codes "</h2>\n"

unfoldable pub most_line : ℕ → List ℕ → List ℕ
most_line most counted = codes "<p>At most " ++ decimal most ++ counted ++ codes "</p>\n"

unfoldable pub caption : Series → ℕ → List ℕ
caption drawn most = title_line (title drawn) ++ most_line most (unit drawn)

unfoldable pub canvas : List ℕ
canvas = codes "<svg viewBox=\"0 0 600 100\" aria-hidden=\"true\">\n"

unfoldable pub chart : Series → List Sample → List ℕ
chart drawn samples =
    caption drawn (largest drawn samples) ++ canvas ++ bars drawn (largest drawn samples) (left_of samples) samples ++ codes "</svg>\n"

-- ---- the page

unfoldable pub begin : List ℕ
begin = codes "<!DOCTYPE html>\n<html lang=\"en\">\n<meta charset=\"utf-8\">\n"

unfoldable pub refresh : List ℕ
refresh = codes "<meta http-equiv=\"refresh\" content=\"10\">\n"

unfoldable pub page_title : List ℕ
page_title = codes "<title>esi_edge: the last ten minutes</title>\n"

unfoldable pub colours : List ℕ
colours = codes "<style>:root{color-scheme:light dark;font-family:sans-serif}rect{fill:#38d}"

unfoldable pub drawing : List ℕ
drawing = codes "svg{width:100%;max-width:40em;border-bottom:1px solid}</style>\n"

unfoldable pub heading : List ℕ
heading = codes "<h1>The last ten minutes</h1>\n<p>A bar for each ten seconds, the newest at the right.</p>\n"

unfoldable pub head : List ℕ
head = begin ++ refresh ++ page_title ++ colours ++ drawing ++ heading

unfoldable pub end : List ℕ
end = codes "</html>\n"

abbrev pub page : List Sample → List ℕ
page samples = head ++ chart series.Requests samples ++ chart series.Hits samples ++ chart series.Slowest samples ++ end

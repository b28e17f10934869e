-- The line on the least width, after each width from a first one on was tried (ours).
use Rattle.std.specs.Prelude.{ℕ, ◌+◌, ◌-◌, ◌==◌, nat_lt, min, max, if◌then◌else◌, List, [], ◌++◌, codes, decimal, Option, None, Some}
use Rattle.rr_graph.specs.Fabric.{most_tracks}
use Rattle.width_bound.specs.declared.figures.CutFigures.{CutFigures}
use Rattle.bound_run.specs.Bounds.{has_no_way, printed_width}
use Rattle.width_search.specs.declared.report.LeastWidth.{LeastWidth}

-- ---- the first width

-- the least width that isn't ruled out, or one more than the greatest width if all are ruled out
abbrev pub first_possible : CutFigures → ℕ
first_possible c = if has_no_way c then most_tracks + 1 else min (printed_width c) (most_tracks + 1)

-- the first width to try
abbrev pub first_width : (start : ℕ) → CutFigures → ℕ
first_width start c = max start (first_possible c)

-- ---- ranges of widths

abbrev pub widths_word : (first last : ℕ) → List ℕ
widths_word first last = if first == last then codes "width " else codes "widths "

-- as `4 was`
unfoldable pub one_was : (width : ℕ) → List ℕ
one_was width = decimal width ++ codes " was"

-- as `4 to 6 were`
unfoldable pub several_were : (first last : ℕ) → List ℕ
several_were first last = decimal first ++ (codes " to " ++ (decimal last ++ codes " were"))

abbrev pub were_text : (first last : ℕ) → List ℕ
were_text first last = if first == last then one_was first else several_were first last

-- as `widths 4 to 6 were tried and not routed` or `width 4 was not tried`
unfoldable pub range_text : (first last : ℕ) → (what : List ℕ) → List ℕ
range_text first last what = widths_word first last ++ (were_text first last ++ what)

-- as `, 4 to 6 were not tried`
unfoldable pub too_text : (first last : ℕ) → List ℕ
too_text first last = codes ", " ++ (were_text first last ++ codes " not tried")

-- ---- what is known

-- widths that may be possible, below the first that was tried
abbrev pub also_untried : (bound first : ℕ) → List ℕ
also_untried bound first = if nat_lt bound first then too_text bound (first - 1) else []

unfoldable pub tried_text : (bound first past : ℕ) → List ℕ
tried_text bound first past = range_text first (past - 1) (codes " tried and not routed") ++ also_untried bound first

-- the widths from the first on that are less than `past` were tried and not routed
abbrev pub between_text : (bound first past : ℕ) → List ℕ
between_text bound first past =
    if nat_lt first past then tried_text bound first past else range_text bound (first - 1) (codes " not tried")

unfoldable pub none_below : (bound : ℕ) → List ℕ
none_below bound = codes "; below " ++ (decimal bound ++ codes " none is possible\n")

-- every width is at least 1
abbrev pub end_text : (bound : ℕ) → List ℕ
end_text bound = if nat_lt 1 bound then none_below bound else codes "\n"

unfoldable pub gap_line : (bound first past : ℕ) → List ℕ
gap_line bound first past = between_text bound first past ++ end_text bound

unfoldable pub least_possible : (width : ℕ) → List ℕ
least_possible width = decimal width ++ codes " is the least possible width\n"

abbrev pub routed_line : (bound first least : ℕ) → List ℕ
routed_line bound first least = if least == bound then least_possible least else gap_line bound first least

abbrev pub known_line : (bound first : ℕ) → (least : Option LeastWidth) → List ℕ
known_line bound first (Some least) = routed_line bound first least.width
known_line bound first None = gap_line bound first (most_tracks + 1)

-- nothing is added if all widths are ruled out
abbrev pub known_from : (start bound : ℕ) → (least : Option LeastWidth) → List ℕ
known_from start bound least = if nat_lt most_tracks bound then [] else known_line bound (max start bound) least

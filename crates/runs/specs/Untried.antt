-- The line on the widths that a search left out (ours).
use Rattle.std.specs.Prelude.{ℕ, ◌+◌, ◌-◌, ◌==◌, nat_lt, Bool, not, ◌&&◌, if◌then◌else◌, List, [], ◌++◌, codes, decimal, find, Option, None, Some}
use Rattle.std.specs.List.{flat_map, list_any}
use Rattle.rr_graph.specs.Fabric.{numbers_below}
use Rattle.width_search.specs.declared.trial.Trial.{Trial}

-- a trial was of this width
abbrev pub is_tried : List Trial → (width : ℕ) → Bool
is_tried trials width = list_any (λ t. t.width == width) trials

-- the width is at least the bound and less than `past`, and it was not tried
unfoldable pub is_untried : List Trial → (bound past width : ℕ) → Bool
is_untried trials bound past width = (not (nat_lt width bound) && nat_lt width past) && not (is_tried trials width)

-- ---- runs of such widths, as `4 to 11, 13 to 23`

-- a run begins at the width, as the one below it is none of them
abbrev pub begins_gap : List Trial → (bound past width : ℕ) → Bool
begins_gap trials bound past width = is_untried trials bound past width && not (nat_lt 0 width && is_untried trials bound past (width - 1))

-- a run of several widths ends at the width
abbrev pub ends_gap : List Trial → (bound past width : ℕ) → Bool
ends_gap trials bound past width =
    (is_untried trials bound past width && not (begins_gap trials bound past width)) && not (is_untried trials bound past (width + 1))

-- a mark and the width, if it is printed
abbrev pub width_if : Bool → (mark : List ℕ) → (width : ℕ) → List ℕ
width_if is_printed mark width = if is_printed then mark ++ decimal width else []

-- nothing is printed before the first run
abbrev pub gap_mark : (first width : ℕ) → List ℕ
gap_mark first width = if width == first then codes "" else codes ", "

unfoldable pub gap_text : List Trial → (bound past first width : ℕ) → List ℕ
gap_text trials bound past first width =
    width_if (begins_gap trials bound past width) (gap_mark first width) width
    ++ width_if (ends_gap trials bound past width) (codes " to ") width

-- ---- the line

-- a width above the first was not tried either
abbrev pub are_several : List Trial → (bound past first : ℕ) → Bool
are_several trials bound past first = list_any (λ width. nat_lt first width && is_untried trials bound past width) (numbers_below past)

abbrev pub untried_word : (several : Bool) → List ℕ
untried_word several = if several then codes "widths " else codes "width "

abbrev pub untried_were : (several : Bool) → List ℕ
untried_were several = if several then codes " were" else codes " was"

-- as ` not tried: --upward tries each width from 4 on`
unfoldable pub upward_advice : (bound : ℕ) → List ℕ
upward_advice bound = codes " not tried: --upward tries each width from " ++ (decimal bound ++ codes " on\n")

unfoldable pub untried_from : List Trial → (bound past first : ℕ) → (several : Bool) → List ℕ
untried_from trials bound past first several =
    untried_word several
    ++ (flat_map (gap_text trials bound past first) (numbers_below past) ++ (untried_were several ++ upward_advice bound))

-- nothing if all of them were tried
abbrev pub untried_by : List Trial → (bound past : ℕ) → (first : Option ℕ) → List ℕ
untried_by trials bound past (Some first) = untried_from trials bound past first (are_several trials bound past first)
untried_by trials bound past None = []

abbrev pub untried_line : List Trial → (bound past : ℕ) → List ℕ
untried_line trials bound past = untried_by trials bound past (find (is_untried trials bound past) (numbers_below past))

-- The line that gives the size of an array, in placements and in routings (VPR and T-VPack manual
-- 4.30). Words are counted from 0.
use Rattle.std.specs.Prelude.{ℕ, Bool, ◌&&◌, ◌==◌, List, length, codes}
use Rattle.vpr_text.specs.Word.{is_at, is_number}

-- seven words; the first six are `Array size: NX x NY logic`
unfoldable pub begins_size_line : List (List ℕ) → Bool
begins_size_line words =
    length words == 7
    && is_at words 0 (codes "Array")
    && is_at words 1 (codes "size:")
    && is_number words 2
    && is_at words 3 (codes "x")
    && is_number words 4
    && is_at words 5 (codes "logic")

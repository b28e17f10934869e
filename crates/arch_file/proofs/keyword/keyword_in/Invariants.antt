use Rattle.std.proofs.Common.{◌≡◌, length, map}
use Rattle.arch_file.specs.Keyword.{keyword_in}
use Rattle.arch_file.proofs.keyword.keyword_in.Given as goal

-- the rows that are left give what all give
abbrev pub invariant-loop-table : goal.invariant-loop-table
invariant-loop-table l =
    keyword_in (map (λ row. (row.0.now, row.1)) l.table) l.word ≡ keyword_in (map (λ row. (row.0.now, row.1)) l.initial.table) l.word

abbrev pub decreases-loop-table : goal.decreases-loop-table
decreases-loop-table l = length l.table

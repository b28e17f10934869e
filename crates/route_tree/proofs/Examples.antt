-- Small trees and routings whose answers compute: a source 0, and sinks 8 and 9.
use Rattle.std.proofs.Common.{◌≡◌, true, false, List, [], ◌∷◌, Some, None, refl}
use Rattle.routing_problem.specs.Problems.{Net}
use Rattle.route_tree.specs.Paths.{Pair}
use Rattle.route_tree.specs.Faults.{begins_elsewhere, reaches_twice, leaves_twice, misses_sink}
use Rattle.route_tree.specs.kept.Ladder.{has_dead_end}
use Rattle.route_tree.specs.Rows.{pairs_of, chain, pairs_along}
use Rattle.route_tree.specs.TreeLists.{lists_of_trees}
use Rattle.route_tree.specs.Usage.{covers, use_of, use_by_others}

abbrev pub one : Net
one = record { number = 0; source = 0; sinks = 8 ∷ 9 ∷ [] }

abbrev pub two : Net
two = record { number = 1; source = 1; sinks = 9 ∷ [] }

-- 0 - 4 - 8, and 9 after 4
abbrev pub both : List Pair
both = (0, 4) ∷ (4, 8) ∷ (4, 9) ∷ []

-- 1 - 4 - 9
abbrev pub other : List Pair
other = (1, 4) ∷ (4, 9) ∷ []

-- a chain of two nodes on the first row
pub rows_and_pairs : pairs_of (record { node = 0; parent = 0 } ∷ chain 1 0 (4 ∷ 8 ∷ [])) ≡ pairs_along 0 (4 ∷ 8 ∷ [])
unfolding pairs_of
rows_and_pairs = refl

-- node 4 begins two of one net's pairs and one of the other's, and ends one of each: it has use 2
pub used_by_two : use_of (one ∷ two ∷ []) (Some both ∷ Some other ∷ []) 4 ≡ 2
unfolding covers
used_by_two = refl

-- a net counts once, though its pairs name the node three times
pub joint_counts_once : use_of (one ∷ []) (Some both ∷ []) 4 ≡ 1
unfolding covers
joint_counts_once = refl

-- a pair that is printed twice counts once too
pub repeated_counts_once : use_of (one ∷ []) (Some ((0, 4) ∷ (4, 8) ∷ (0, 4) ∷ (4, 9) ∷ []) ∷ []) 4 ≡ 1
unfolding covers
repeated_counts_once = refl

-- a net without a list uses nothing, not even its source
pub unrouted_uses_nothing : use_of (one ∷ two ∷ []) (None ∷ Some other ∷ []) 0 ≡ 0
unfolding covers
unrouted_uses_nothing = refl

-- of the two uses of node 4 the first net sees the other's, and of its own sink none
pub others_use_the_joint : use_by_others (one ∷ two ∷ []) (Some both ∷ Some other ∷ []) 0 4 ≡ 1
unfolding covers
others_use_the_joint = refl

pub others_leave_the_sink : use_by_others (one ∷ two ∷ []) (Some both ∷ Some other ∷ []) 0 8 ≡ 0
unfolding covers
others_leave_the_sink = refl

-- a tree of two nodes, and a net without a tree
pub trees_and_lists :
    lists_of_trees (Some (record { node = 0; parent = 0 } ∷ chain 1 0 (4 ∷ [])) ∷ None ∷ []) ≡ Some ((0, 4) ∷ []) ∷ None ∷ []
unfolding pairs_of
trees_and_lists = refl

pub begins_at_the_source : begins_elsewhere 0 both ≡ false
begins_at_the_source = refl

pub reaches_each_once : reaches_twice 0 both ≡ false
reaches_each_once = refl

-- a loop back to the source reaches it twice
pub loop_reaches_twice : reaches_twice 0 ((0, 4) ∷ (4, 0) ∷ []) ≡ true
loop_reaches_twice = refl

pub leaves_once : leaves_twice 0 both ≡ false
leaves_once = refl

pub reaches_both_sinks : misses_sink one.sinks both ≡ false
reaches_both_sinks = refl

pub misses_the_first : misses_sink one.sinks other ≡ true
misses_the_first = refl

-- 5 leads nowhere
pub stub_is_a_dead_end : has_dead_end one.sinks ((0, 4) ∷ (4, 5) ∷ (4, 8) ∷ (4, 9) ∷ []) ≡ true
stub_is_a_dead_end = refl

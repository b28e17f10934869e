-- Which step of a net's list a fault is about: the row of the first that shows it (ours).
use Rattle.std.specs.Prelude.{ℕ, ◌==◌, Bool, not, ◌&&◌, ◌||◌, ◌-◌, nat_lt, List, length, map, take, find, get_or, Option, if◌then◌else◌}
use Rattle.rr_graph.specs.Fabric.{Fabric, numbers_below}
use Rattle.rr_graph.specs.Edges.{edge_between}
use Rattle.rr_graph.specs.Problems.{is_sink}
use Rattle.route_tree.specs.Paths.{Pair, ends_of}
use Rattle.route_tree.specs.Legality.{is_among}

-- the step at row k, or (0, 0) past the last one
abbrev pub pair_at : List Pair → (k : ℕ) → Pair
pair_at pairs k = get_or pairs k (0, 0)

-- the first row that passes a test
abbrev pub first_row : (ℕ → Bool) → List Pair → Option ℕ
first_row test pairs = find test (numbers_below (length pairs))

-- where the steps begin, in their order
abbrev pub begins_of : List Pair → List ℕ
begins_of pairs = map (λ q. q.0) pairs

-- a step begins at the node; a step ends there; one of the first k ends there
abbrev pub begins_at : List Pair → ℕ → Bool
begins_at pairs a = is_among (begins_of pairs) a

abbrev pub ends_at : List Pair → ℕ → Bool
ends_at pairs a = is_among (ends_of pairs) a

abbrev pub ends_before : List Pair → (k : ℕ) → ℕ → Bool
ends_before pairs k a = is_among (take k (ends_of pairs)) a

-- the step is no switch of the device
abbrev pub lacks_switch : Fabric → Pair → Bool
lacks_switch f p = not (edge_between f p.0 p.1)

-- the step at row k ends at the source, or where an earlier one does
abbrev pub ends_again : (source : ℕ) → List Pair → (k : ℕ) → Bool
ends_again source pairs k = (pair_at pairs k).1 == source || ends_before pairs k (pair_at pairs k).1

-- the step at row k leaves the source, and isn't the first one
abbrev pub leaves_again : (source : ℕ) → List Pair → (k : ℕ) → Bool
leaves_again source pairs k = nat_lt 0 k && (pair_at pairs k).0 == source

-- the step ends at a sink of the device that is none of these
abbrev pub is_foreign : Fabric → (sinks : List ℕ) → Pair → Bool
is_foreign f sinks p = is_sink f p.1 && not (is_among sinks p.1)

-- the step ends at a node that is none of these sinks, and at which no step begins
abbrev pub is_dead_end : (sinks : List ℕ) → List Pair → Pair → Bool
is_dead_end sinks pairs p = not (is_among sinks p.1) && not (begins_at pairs p.1)

-- the step begins at a node that isn't the source, and at which no step ends
abbrev pub is_cut_off : (source : ℕ) → List Pair → Pair → Bool
is_cut_off source pairs p = not (p.0 == source) && not (ends_at pairs p.0)

-- the step at row k may begin where it does, after one that ends at a node: there; or, if that is a
-- sink, at the source or where an earlier one ends
abbrev pub may_follow : Fabric → (source : ℕ) → List Pair → (k last : ℕ) → Bool
may_follow f source pairs k last =
    let a = (pair_at pairs k).0 in last == a || (is_sink f last && (source == a || ends_before pairs k a))

-- the step at row k is in order: the first one begins at the source
abbrev pub is_in_order : Fabric → (source : ℕ) → List Pair → (k : ℕ) → Bool
is_in_order f source pairs k =
    if k == 0 then (pair_at pairs k).0 == source else may_follow f source pairs k (pair_at pairs (k - 1)).1

abbrev pub row_without_switch : Fabric → List Pair → Option ℕ
row_without_switch f pairs = first_row (λ k. lacks_switch f (pair_at pairs k)) pairs

abbrev pub row_that_ends_again : (source : ℕ) → List Pair → Option ℕ
row_that_ends_again source pairs = first_row (ends_again source pairs) pairs

abbrev pub row_leaving_again : (source : ℕ) → List Pair → Option ℕ
row_leaving_again source pairs = first_row (leaves_again source pairs) pairs

abbrev pub row_to_foreign_sink : Fabric → (sinks : List ℕ) → List Pair → Option ℕ
row_to_foreign_sink f sinks pairs = first_row (λ k. is_foreign f sinks (pair_at pairs k)) pairs

abbrev pub row_to_dead_end : (sinks : List ℕ) → List Pair → Option ℕ
row_to_dead_end sinks pairs = first_row (λ k. is_dead_end sinks pairs (pair_at pairs k)) pairs

abbrev pub row_cut_off : (source : ℕ) → List Pair → Option ℕ
row_cut_off source pairs = first_row (λ k. is_cut_off source pairs (pair_at pairs k)) pairs

abbrev pub row_out_of_order : Fabric → (source : ℕ) → List Pair → Option ℕ
row_out_of_order f source pairs = first_row (λ k. not (is_in_order f source pairs k)) pairs

-- What there is of each type of wire, and what nets cover of it.
use Rattle.std.specs.Prelude.{ℕ, ◌==◌, Bool, false, ◌&&◌, if◌then◌else◌, List, length, map, count_by}
use Rattle.std.specs.List.{sum_by}
use Rattle.std.specs.Option.{option_map_or}
use Rattle.routing_problem.specs.Fabric.{Fabric, numbers_below}
use Rattle.routing_problem.specs.Wires.{tracks_in, track_type}
use Rattle.routing_problem.specs.Nodes.{node_at, node_count_of, is_wire}
use Rattle.route_report.specs.declared.wire_types.WireTypeUse.{WireTypeUse}
use Rattle.route_report.specs.Covered.{is_used}
use Rattle.route_report.specs.Wirelength.{places_at}

-- node a is a wire of type s, which is that of its track
abbrev pub has_type : Fabric → (s a : ℕ) → Bool
has_type f s a = option_map_or (λ n. is_wire n.kind && track_type f n.number == s) (node_at f a) false

-- it is, and some net covers it
abbrev pub has_type_used : Fabric → List ℕ → (s a : ℕ) → Bool
has_type_used f uses s a = has_type f s a && is_used uses a

-- how many nodes pass a test, and how many places the wires among them
abbrev pub nodes_with : Fabric → (ℕ → Bool) → ℕ
nodes_with f test = count_by test (numbers_below (node_count_of f))

abbrev pub places_with : Fabric → (ℕ → Bool) → ℕ
places_with f test =
    sum_by (λ a. if test a then places_at f a else 0) (numbers_below (node_count_of f))

-- of type s: its tracks in a channel, its wires and their places, and those that some net covers
unfoldable pub wire_type_of : Fabric → List ℕ → (s : ℕ) → WireTypeUse
wire_type_of f uses s = record {
  tracks = count_by (λ t. track_type f t == s) (numbers_below (tracks_in f.mode f.width));
  wires = nodes_with f (has_type f s);
  places = places_with f (has_type f s);
  wires_used = nodes_with f (has_type_used f uses s);
  places_used = places_with f (has_type_used f uses s);
}

-- each type of the architecture, in its order
unfoldable pub wire_types_of : Fabric → List ℕ → List WireTypeUse
wire_types_of f uses = map (wire_type_of f uses) (numbers_below (length f.architecture.segments))

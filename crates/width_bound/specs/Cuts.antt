-- Cuts of an array, and which nets are cut (this project's). A cut is a region of corners, more
-- places of channels, and pins. No definition here asks how many tracks a channel has.
use Rattle.std.specs.Prelude.{ℕ, ◌+◌, ◌-◌, ◌==◌, Bool, ◌&&◌, ◌||◌, not, List, ◌++◌, map, count_by}
use Rattle.std.specs.List.{range_with_len, flat_map, filter, list_any, list_all}
use Rattle.rr_graph.specs.node.Kind.{Kind}
use Rattle.rr_graph.specs.node.Kind.TheVariants.{Opin, Ipin, Chanx, Chany}
use Rattle.rr_graph.specs.node.Node.{Node}
use Rattle.rr_graph.specs.Fabric.{Fabric, numbers_below}
use Rattle.rr_graph.specs.Wires.{Place}
use Rattle.rr_graph.specs.Pins.{channels_beside, is_global_pin, belongs}
use Rattle.rr_graph.specs.Nodes.{nodes_at, is_same, rank_of_kind}
use Rattle.rr_graph.specs.Edges.{Corner, is_same_corner}

pub record Cut : Type 0 where
  -- the region
  pub corners : List Corner
  -- places that belong to the border wherever they lie
  pub places : List Place
  -- input and output pins that are given up: nets may pass by them
  pub pins : List Node

-- ---- places of channels
abbrev pub low_end_by : Kind → (x y : ℕ) → Corner
low_end_by Chany x y = (x, y - 1)
low_end_by _ x y = (x - 1, y)

-- the ends of a place: the low one, left of it or below, and the high one, right of it or above
abbrev pub low_end : Place → Corner
low_end p = low_end_by p.0 p.1 p.2

abbrev pub high_end : Place → Corner
high_end p = (p.1, p.2)

-- the corner is in the region
unfoldable pub has_corner : Cut → Corner → Bool
has_corner cut c = list_any (is_same_corner c) cut.corners

abbrev pub is_same_place : Place → Place → Bool
is_same_place p q = rank_of_kind p.0 == rank_of_kind q.0 && (p.1 == q.1 && p.2 == q.2)

-- the cut has the place itself
unfoldable pub has_place : Cut → Place → Bool
has_place cut p = list_any (is_same_place p) cut.places

-- an inner place has both ends in the region, an outer one none
unfoldable pub is_inner : Cut → Place → Bool
is_inner cut p =
    not (has_place cut p) && (has_corner cut (low_end p) && has_corner cut (high_end p))

unfoldable pub is_outer : Cut → Place → Bool
is_outer cut p =
    not (has_place cut p) && not (has_corner cut (low_end p) || has_corner cut (high_end p))

-- any other place is of the border: one end is in the region, or the cut has the place itself
unfoldable pub is_border : Cut → Place → Bool
is_border cut p = not (is_inner cut p || is_outer cut p)

-- the places of all channels of an array
unfoldable pub places_of_array : (nx ny : ℕ) → List Place
places_of_array nx ny =
    flat_map (λ y. map (λ x. (Chanx, x, y)) (range_with_len 1 nx)) (numbers_below (ny + 1))
    ++ flat_map (λ x. map (λ y. (Chany, x, y)) (range_with_len 1 ny)) (numbers_below (nx + 1))

-- how many places the border has
unfoldable pub border_size : (nx ny : ℕ) → Cut → ℕ
border_size nx ny cut = count_by (is_border cut) (places_of_array nx ny)

-- ---- pins
-- an inner place is beside the pin, so that a wire there may lead to it or from it; or an outer one
unfoldable pub is_beside_inner : Fabric → Cut → Node → Bool
is_beside_inner f cut pin =
    not (is_global_pin f pin) && list_any (is_inner cut) (channels_beside f pin)

unfoldable pub is_beside_outer : Fabric → Cut → Node → Bool
is_beside_outer f cut pin =
    not (is_global_pin f pin) && list_any (is_outer cut) (channels_beside f pin)

-- both pins are beside inner places, or both beside outer ones
abbrev pub share_side : Fabric → Cut → (output input : Node) → Bool
share_side f cut output input =
    (is_beside_inner f cut output && is_beside_inner f cut input)
    || (is_beside_outer f cut output && is_beside_outer f cut input)

-- the cut gives up the pin
unfoldable pub is_given_up : Cut → Node → Bool
is_given_up cut pin = list_any (is_same pin) cut.pins

-- the pins of a kind that a terminal has and the cut doesn't give up
unfoldable pub pins_left : Fabric → Cut → Kind → (terminal : Node) → List Node
pins_left f cut kind terminal =
    filter (λ pin. belongs f pin terminal && not (is_given_up cut pin))
    (nodes_at f kind terminal.x terminal.y)

-- ---- nets
-- no pin that is left to the sink shares a side with the output pin
abbrev pub is_parted_from : Fabric → Cut → (output sink : Node) → Bool
is_parted_from f cut output sink =
    not (list_any (share_side f cut output) (pins_left f cut Ipin sink))

-- a net is cut if each output pin that is left to its source has some sink parted from it
unfoldable pub is_cut : Fabric → Cut → (source : Node) → (sinks : List Node) → Bool
is_cut f cut source sinks =
    list_all (λ output. list_any (is_parted_from f cut output) sinks) (pins_left f cut Opin source)

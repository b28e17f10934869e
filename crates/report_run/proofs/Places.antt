-- Of which places the numbers of the map are.
use Rattle.std.proofs.Common.{◌≡◌, ℕ, ◌+◌, ◌<◌, ◌≤◌, List, ◌++◌, length, get_or, sym, ap, ◌∙◌, arith}
use Rattle.std.proofs.lemmas.List.{get_or_append_left, get_or-append-add}
use Rattle.rr_graph.specs.node.Kind.TheVariants.{Chanx, Chany}
use Rattle.rr_graph.specs.Fabric.{Fabric}
use Rattle.rr_graph.proofs.Ranges.{get_below, length_below}
use Rattle.route_report.specs.Channels.{Channel, channel_with, channels_along, channels_of, occupancies_in, occupancy_at, place_in}
use Rattle.report_run.specs.Map.{no_channel, occupied_at, right_of}

module _ (f : Fabric) (uses : List ℕ) where
  abbrev rows : List Channel
  rows = channels_along f uses Chanx f.nx (f.ny + 1)

  abbrev columns : List Channel
  columns = channels_along f uses Chany f.ny (f.nx + 1)

  size : length rows ≡ f.ny + 1
  size = length_below (λ c. channel_with Chanx c (occupancies_in f uses Chanx f.nx c)) (f.ny + 1)

  pub above_is : (row m : ℕ) → row ≤ f.ny → m < f.nx → occupied_at (channels_of f uses) row m ≡ occupancy_at f uses (place_in Chanx row m)
  unfolding channels_of
  above_is row m within there =
      let low : row < f.ny + 1 = omega (arith, within) in
      let here = get_or_append_left rows columns no_channel row (omega (arith, size, low)) in
      let is = get_below (λ c. channel_with Chanx c (occupancies_in f uses Chanx f.nx c)) (f.ny + 1) row no_channel low in
      ap (λ (c : Channel). get_or c.occupied m 0) (here ∙ is) ∙ get_below (λ k. occupancy_at f uses (place_in Chanx row k)) f.nx m 0 there

  pub right_is : (column m : ℕ) → column ≤ f.nx → m < f.ny → occupied_at (channels_of f uses) (right_of f column) m ≡ occupancy_at f uses (place_in Chany column m)
  unfolding channels_of
  right_is column m within there =
      let low : column < f.nx + 1 = omega (arith, within) in
      let here = ap (λ n. get_or (rows ++ columns) (n + column) no_channel) (sym size) ∙ get_or-append-add rows columns column no_channel in
      let is = get_below (λ c. channel_with Chany c (occupancies_in f uses Chany f.ny c)) (f.nx + 1) column no_channel low in
      ap (λ (c : Channel). get_or c.occupied m 0) (here ∙ is) ∙ get_below (λ k. occupancy_at f uses (place_in Chany column k)) f.ny m 0 there

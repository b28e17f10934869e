-- The lines on the channels (ours).
use Rattle.std.specs.Prelude.{ℕ, List, ◌++◌, codes, decimal}
use Rattle.std.specs.List.{flat_map}
use Rattle.rr_graph.specs.node.Kind.{Kind}
use Rattle.rr_graph.specs.node.Kind.TheVariants.{Chany}
use Rattle.rr_graph.specs.Fabric.{Fabric}
use Rattle.route_report.specs.Channels.{Channel}
use Rattle.report_run.specs.Texts.{mean_text}

-- a channel above a row runs along x, one right of a column along y
abbrev pub axis_text : Kind → List ℕ
axis_text Chany = codes "y "
axis_text _ = codes "x "

-- how many places a channel of this kind has
abbrev pub places_of_channel : Fabric → Kind → ℕ
places_of_channel f Chany = f.ny
places_of_channel f _ = f.nx

-- as `channel x 0 most 7 mean 3.10`: what is occupied, over the places of the channel
unfoldable pub occupancy_line : Fabric → Channel → List ℕ
occupancy_line f c =
    codes "channel " ++ (axis_text c.kind ++ (decimal c.number
    ++ (codes " most " ++ (decimal c.most
    ++ (codes " mean " ++ (mean_text c.total (places_of_channel f c.kind) ++ codes "\n"))))))

abbrev pub channel_lines : Fabric → List Channel → List ℕ
channel_lines f channels = flat_map (occupancy_line f) channels

-- The lines on the types of wire (ours).
use Rattle.std.specs.Prelude.{ℕ, List, ◌++◌, codes, decimal, get_or, length}
use Rattle.std.specs.List.{flat_map}
use Rattle.rr_graph.specs.Fabric.{numbers_below}
use Rattle.route_report.specs.declared.wire_types.WireTypeUse.{WireTypeUse}
use Rattle.report_run.specs.Texts.{share_text}

-- type s, as `type 0 tracks 12 wires 345 of 2640 places 345 of 2640`
unfoldable pub type_line : (s : ℕ) → WireTypeUse → List ℕ
type_line s t =
    codes "type " ++ (decimal s ++ (codes " tracks " ++ (decimal t.tracks
    ++ (codes " wires " ++ (share_text t.wires_used t.wires
    ++ (codes " places " ++ (share_text t.places_used t.places ++ codes "\n")))))))

-- the entry past the last type
abbrev pub no_type : WireTypeUse
no_type = record { tracks = 0; wires = 0; places = 0; wires_used = 0; places_used = 0 }

-- the line of type s of a list
unfoldable pub type_line_at : List WireTypeUse → (s : ℕ) → List ℕ
type_line_at types s = type_line s (get_or types s no_type)

-- the types in the order of the architecture, counted from 0
abbrev pub type_lines : List WireTypeUse → List ℕ
type_lines types = flat_map (type_line_at types) (numbers_below (length types))

-- A placement file as a list of lines: what is read, or the first fault (VPR and T-VPack manual
-- 4.30; the faults and their order are this project's profile).
use Rattle.std.specs.Prelude.{ℕ, not, List, [], Option, is_some, Result, Ok}
use Rattle.std.specs.Option.{option_map}
use Rattle.std.specs.List.{position, filter_map}
use Rattle.vpr_text.specs.Readings.{◌>>=◌, unless_faulty, with_fault}
use Rattle.vpr_text.specs.Words.{Line}
use Rattle.vpr_text.specs.Text.{lines_of}
use Rattle.net_file.specs.Netlist.{Block}
use Rattle.place_file.specs.declared.fault.PlaceFault.{PlaceFault}
use Rattle.place_file.specs.declared.fault.PlaceFault.TheVariants as place
use Rattle.place_file.specs.declared.site.Array.{Array}
use Rattle.place_file.specs.declared.site.Site.{Site}
use Rattle.place_file.specs.Judge.{header_fault, rows_fault_from}
use Rattle.place_file.specs.Lines.{array_on, rows_of}
use Rattle.place_file.specs.Placement.{Placement}
use Rattle.place_file.specs.Sites.{sites_in}

-- the least block without a site
abbrev pub first_missing : List (Option Site) → Option ℕ
first_missing sites = position (λ s. not (is_some s)) sites

-- the placement with these sites, if no block is without one
unfoldable pub completed : Array → List (Option Site) → Result Placement PlaceFault
completed array sites =
    unless_faulty (option_map place.Missing (first_missing sites)) (Ok (record { nx = array.nx; ny = array.ny; sites = filter_map (λ s. s) sites }))

-- rows as a placement on this array
unfoldable pub placing : Array → List Block → List Line → Result Placement PlaceFault
placing array blocks rows = unless_faulty (rows_fault_from array blocks [] rows) (completed array (sites_in blocks rows))

-- lines as a placement of these blocks, with io_rat pads at a place
unfoldable pub reading : ℕ → List Block → List Line → Result Placement PlaceFault
reading io_rat blocks lines = unless_faulty (header_fault io_rat lines) (placing (array_on io_rat lines) blocks (rows_of lines))

-- bytes as a placement
unfoldable pub placement_of : ℕ → List Block → List ℕ → Result Placement PlaceFault
placement_of io_rat blocks bytes = with_fault place.Text (lines_of bytes) >>= reading io_rat blocks

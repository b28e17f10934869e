-- The fault of a line of a routing, judged by the lines before it (VPR and T-VPack manual 4.30,
-- "Routing File Format"; the order of the faults is this project's profile).
use Rattle.std.specs.Prelude.{ℕ, Bool, false, not, ◌&&◌, ◌||◌, ◌==◌, nat_lt, if◌then◌else◌, List, [], ◌∷◌, ◌++◌, length, Option, None, Some, Result, Ok, Err, codes}
use Rattle.std.specs.List.{last_or}
use Rattle.std.specs.Option.{option_map_or, option_or}
use Rattle.vpr_text.specs.Words.{Line, words_at, number_at}
use Rattle.vpr_text.specs.ArraySize.{begins_size_line}
use Rattle.vpr_text.specs.Word.{is_at, number_or_0}
use Rattle.net_file.specs.Netlist.{Netlist}
use Rattle.net_file.specs.Routed.{is_routed_at}
use Rattle.rr_graph.specs.Fabric.{Fabric}
use Rattle.rr_graph.specs.Problems.{is_sink}
use Rattle.route_tree.specs.Legality.{is_among}
use Rattle.route_file.specs.declared.entry.FileEntry.{FileEntry}
use Rattle.route_file.specs.declared.entry.FileEntry.TheVariants.{NetLine, BlockLine, NodeLine}
use Rattle.route_file.specs.declared.fault.RouteFileFault.{RouteFileFault}
use Rattle.route_file.specs.declared.fault.RouteFileFault.TheVariants.{BadLine, ArraySize, UnknownNet, NetTwice, NoNode, Detached}
use Rattle.route_file.specs.declared.node_line.NodeText.{NodeText}
use Rattle.route_file.specs.NetLine.{is_net_line, is_plain_form, is_global_form, is_global_at, net_on}
use Rattle.route_file.specs.NodeLine.{text_of, node_reported}
use Rattle.route_file.specs.NodeWords.{node_words}
use Rattle.route_file.specs.Sections.{had_line, latest, nodes_in}

-- ---- the first two lines

abbrev pub ends_well : List (List ℕ) → Bool
ends_well words = is_at words 6 (codes "blocks.") || is_at words 6 (codes "blocks")

-- the first line gives the size of the array, with or without a period
unfoldable pub is_size_line : List (List ℕ) → Bool
is_size_line words = begins_size_line words && ends_well words

-- the size is that of the device
abbrev pub is_size_of : Fabric → List (List ℕ) → Bool
is_size_of f words = number_or_0 words 2 == f.nx && number_or_0 words 4 == f.ny

abbrev pub is_title : List (List ℕ) → Bool
is_title words = length words == 1 && is_at words 0 (codes "Routing:")

-- the fault of the two lines that a routing begins with
unfoldable pub header_fault : Fabric → List Line → Option RouteFileFault
header_fault f lines =
    if nat_lt 0 (length lines) && not (is_size_line (words_at lines 0)) then Some (BadLine (number_at lines 0))
    else (if nat_lt 0 (length lines) && not (is_size_of f (words_at lines 0)) then Some (ArraySize (number_at lines 0))
    else (if nat_lt (length lines) 2 then Some (BadLine 0)
    else (if not (is_title (words_at lines 1)) then Some (BadLine (number_at lines 1))
    else None)))

-- ---- the lines after them: each is an entry, or its first fault

-- the line of a net; `had` says whether an earlier line is that of net n
abbrev pub named_entry : (had : ℕ → Bool) → (line : ℕ) → Option ℕ → Result FileEntry RouteFileFault
named_entry had line None = Err (UnknownNet line)
named_entry had line (Some n) = if had n then Err (NetTwice line) else Ok (NetLine n)

unfoldable pub net_entry : Netlist → (had : ℕ → Bool) → (line : ℕ) → List (List ℕ) → Result FileEntry RouteFileFault
net_entry netlist had line words =
    if is_plain_form words || is_global_form words then named_entry had line (net_on netlist words) else Err (BadLine line)

-- a line after that of a global net
abbrev pub block_entry : (line : ℕ) → List (List ℕ) → Result FileEntry RouteFileFault
block_entry line words = if is_at words 0 (codes "Block") then Ok BlockLine else Err (BadLine line)

-- a line after that of a routed net; `detached` says which nodes it may not be of
abbrev pub placed_entry : (detached : ℕ → Bool) → (line : ℕ) → Option ℕ → Result FileEntry RouteFileFault
placed_entry detached line None = Err (NoNode line)
placed_entry detached line (Some a) = if detached a then Err (Detached line) else Ok (NodeLine a)

abbrev pub reported_entry : Fabric → (detached : ℕ → Bool) → (line : ℕ) → Option NodeText → Result FileEntry RouteFileFault
reported_entry f detached line None = Err (BadLine line)
reported_entry f detached line (Some text) = placed_entry detached line (node_reported f text)

unfoldable pub node_entry : Fabric → (detached : ℕ → Bool) → (line : ℕ) → List (List ℕ) → Result FileEntry RouteFileFault
node_entry f detached line words = reported_entry f detached line (text_of (node_words words))

-- a line of a net's section: a net that is neither global nor has sinks has none
abbrev pub section_entry : Netlist → Fabric → (detached : ℕ → ℕ → Bool) → (line : ℕ) → List (List ℕ) → (net : Option ℕ) → Result FileEntry RouteFileFault
section_entry netlist f detached line words None = Err (BadLine line)
section_entry netlist f detached line words (Some n) =
    if is_global_at netlist n then block_entry line words
    else (if is_routed_at netlist n then node_entry f (detached n) line words else Err (BadLine line))

-- the node after a sink was in the section before; node a may not come after these
unfoldable pub is_detached : Fabric → (nodes : List ℕ) → ℕ → Bool
is_detached f nodes a = option_map_or (is_sink f) (last_or None nodes) false && not (is_among nodes a)

-- a line, after those before it
unfoldable pub judge : Netlist → Fabric → (before : List Line) → Line → Result FileEntry RouteFileFault
judge netlist f before l =
    if is_net_line l then net_entry netlist (had_line netlist before) l.number l.words
    else section_entry netlist f (λ n. is_detached f (nodes_in netlist f before n)) l.number l.words (latest netlist before)

abbrev pub fault_in : {X : Type 0} → Result X RouteFileFault → Option RouteFileFault
fault_in (Ok x) = None
fault_in (Err fault) = Some fault

-- the fault of a line, after those before it
abbrev pub line_fault : Netlist → Fabric → (before : List Line) → Line → Option RouteFileFault
line_fault netlist f before l = fault_in (judge netlist f before l)

-- the fault of the first faulty line, after those before them
unfoldable pub fault_from : Netlist → Fabric → (before ls : List Line) → Option RouteFileFault
fault_from netlist f before [] = None
fault_from netlist f before (l ∷ ls) = option_or (line_fault netlist f before l) (fault_from netlist f (before ++ l ∷ []) ls)

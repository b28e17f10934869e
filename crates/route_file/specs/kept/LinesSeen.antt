-- What is kept from the lines so far.
use Rattle.std.specs.Prelude.{◌≡◌, ℕ, ◌<◌, ◌==◌, Bool, true, false, not, ◌&&◌, if◌then◌else◌, List, [], ◌++◌, length, map, Option, Some, None, unwrap_or, Result, slice_index_or, slice_set}
use Rattle.std.specs.List.{list_any, last_or, range_with_len}
use Rattle.std.specs.Option.{option_map_or, option_to_list}
use Rattle.vpr_text.specs.Words.{Line}
use Rattle.net_file.specs.Netlist.{Netlist}
use Rattle.net_file.specs.Routed.{is_routed_at}
use Rattle.rr_graph.specs.Fabric.{Fabric}
use Rattle.rr_graph.specs.Nodes.{node_count_of}
use Rattle.rr_graph.specs.Problems.{is_sink}
use Rattle.route_tree.specs.Legality.{is_among}
use Rattle.route_tree.specs.Paths.{Pair}
use Rattle.route_file.specs.declared.entry.FileEntry.{FileEntry}
use Rattle.route_file.specs.declared.entry.FileEntry.TheVariants.{NetLine, BlockLine, NodeLine}
use Rattle.route_file.specs.declared.fault.RouteFileFault.{RouteFileFault}
use Rattle.route_file.specs.declared.seen.Seen.{Seen}
use Rattle.route_file.specs.Judge.{net_entry, section_entry}
use Rattle.route_file.specs.NetLine.{is_net_line, is_net_words}
use Rattle.route_file.specs.Sections.{is_line_of, is_net, had_line, latest, lines_after, nodes_in, list_of_net}

-- a number that no net has
abbrev pub no_owner : ℕ
no_owner = 4294967295

-- the list of net n, if it is routed
abbrev pub routed_list : Netlist → Fabric → List Line → ℕ → Option (List Pair)
routed_list netlist f lines n = if is_routed_at netlist n then list_of_net netlist f lines n else None

-- the lists of all nets, by number
abbrev pub lists_by_net : Netlist → Fabric → List Line → List (Option (List Pair))
lists_by_net netlist f lines = map (routed_list netlist f lines) (range_with_len 0 (length netlist.nets))

-- seen is what these lines say
pub record IsSeen (netlist : Netlist) (f : Fabric) (before : List Line) (seen : Seen) : Type 0 where
  pub net : seen.net ≡ latest netlist before
  pub last : (n : ℕ) → latest netlist before ≡ Some n → is_routed_at netlist n ≡ true → seen.last ≡ last_or None (nodes_in netlist f before n)
  pub had_count : length seen.had.items ≡ length netlist.nets
  pub had : (n : ℕ) → n < length netlist.nets → slice_index_or seen.had.items n false ≡ had_line netlist before n
  pub lists_count : length seen.lists.items ≡ length netlist.nets
  pub lists : (n : ℕ) → n < length netlist.nets → slice_index_or seen.lists.items n None ≡ routed_list netlist f before n
  -- a node that net n owns is in its section; and if the next line is in that section, net n owns
  -- all nodes in it
  pub owners_count : length seen.owners.items ≡ node_count_of f
  pub owned : (n a : ℕ) → n < length netlist.nets → is_routed_at netlist n ≡ true → slice_index_or seen.owners.items a no_owner ≡ n → is_among (nodes_in netlist f before n) a ≡ true
  pub owns : (n a : ℕ) → latest netlist before ≡ Some n → is_routed_at netlist n ≡ true → is_among (nodes_in netlist f before n) a ≡ true → slice_index_or seen.owners.items a no_owner ≡ n
  -- the line of a net is followed by that of another one, unless the next line is in its section
  pub ended : (n : ℕ) → had_line netlist before n ≡ true → list_any is_net_line (lines_after (is_line_of netlist n) before) ≡ not (is_net n (latest netlist before))
  -- the section is that of a net whose line was among these
  pub opened : (n : ℕ) → latest netlist before ≡ Some n → (n < length netlist.nets) × (had_line netlist before n ≡ true)

-- one of the lines is that of net n
abbrev pub had_net : Seen → (n : ℕ) → Bool
had_net seen n = slice_index_or seen.had.items n false

-- the last node is a sink, and node a isn't in net n's section
abbrev pub is_off : Fabric → Seen → (n a : ℕ) → Bool
is_off f seen n a = option_map_or (is_sink f) seen.last false && not (slice_index_or seen.owners.items a no_owner == n)

-- a line with this number and these words
unfoldable pub entry_after : Netlist → Fabric → Seen → ℕ → List (List ℕ) → Result FileEntry RouteFileFault
entry_after netlist f seen line words =
    if is_net_words words then net_entry netlist (had_net seen) line words
    else section_entry netlist f (is_off f seen) line words seen.net

-- the pair that node a makes with the one before it in its section, if there is one and it is no
-- sink
abbrev pub pair_after : Fabric → Option ℕ → ℕ → Option Pair
pair_after f None a = None
pair_after f (Some b) a = if is_sink f b then None else Some (b, a)

-- a list with a pair more, if there is one
abbrev pub list_more : Option (List Pair) → Option Pair → Option (List Pair)
list_more list pair = Some (unwrap_or list [] ++ option_to_list pair)

-- the line of net n was added
pub record NotesNet (old new : Seen) (n : ℕ) : Type 0 where
  pub net : new.net ≡ Some n
  pub last : new.last ≡ None
  pub had : new.had.items ≡ slice_set old.had.items n true
  pub owners : new.owners.items ≡ old.owners.items
  pub lists : new.lists.items ≡ old.lists.items

-- the line of node a was added
pub record NotesNode (f : Fabric) (old new : Seen) (a : ℕ) : Type 0 where
  pub net : new.net ≡ old.net
  pub last : new.last ≡ Some a
  pub had : new.had.items ≡ old.had.items
  pub owners : (n : ℕ) → old.net ≡ Some n → new.owners.items ≡ slice_set old.owners.items a n
  pub lists : (n : ℕ) → old.net ≡ Some n → new.lists.items ≡ slice_set old.lists.items n (list_more (slice_index_or old.lists.items n None) (pair_after f old.last a))

-- a line without a fault was added
abbrev pub Notes : Fabric → Seen → Seen → FileEntry → Type 0
Notes f old new (NetLine n) = NotesNet old new n
Notes f old new BlockLine = new ≡ old
Notes f old new (NodeLine a) = NotesNode f old new a

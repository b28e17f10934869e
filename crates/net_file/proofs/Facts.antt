-- What is true of every netlist is true of those that are read.
use Rattle.std.proofs.Common.{◌≡◌, ℕ, ◌<◌, ◌≤◌, Bool, true, false, cond, List, [], length, map, get_or, drop, flat_map, All, Option, Some, None, Result, Ok, refl, sym, ap, subst, ◌∙◌, zero-add}
use Rattle.std.specs.Prelude.{is_some, IfSome}
use Rattle.std.specs.List.{range_with_len}
use Rattle.std.proofs.lemmas.List.{ext_get_or}
use Rattle.std.proofs.lemmas.List.Elements.{All-from_recursion, All-map, All-weaker}
use Rattle.std.proofs.lemmas.List.FromFn.{get_or-map-range_with_len, length-map-range_with_len}
use Rattle.vpr_text.specs.Text.{IsWord}
use Rattle.vpr_text.specs.kept.Split.{HaveWords}
use Rattle.vpr_text.specs.Words.{Line, words_at}
use Rattle.arch_file.specs.declared.entries.Direction.{Direction}
use Rattle.arch_file.specs.declared.entries.Pin.{Pin}
use Rattle.net_file.specs.declared.connection.Connection.{Connection}
use Rattle.net_file.specs.declared.fault.NetFault.{NetFault}
use Rattle.net_file.specs.declared.seen.Seen.{Seen}
use Rattle.net_file.specs.declared.terminal.BlockKind.{BlockKind}
use Rattle.net_file.specs.declared.terminal.BlockKind.TheVariants.{InputPad, OutputPad, LogicBlock}
use Rattle.net_file.specs.declared.terminal.Terminal.{Terminal}
use Rattle.net_file.specs.Blocks.{net_of, block_of, block_at, blocks_of, pinlists, pinlist_numbers}
use Rattle.net_file.specs.Connections.{no_block, connections, by_net}
use Rattle.net_file.specs.Facts.{names_of_blocks, names_of_nets, IsTerminal, IsNetlist}
use Rattle.net_file.specs.Judge.{is_logic_block}
use Rattle.net_file.specs.Lines.{is_open, block_name_on, net_names_on, block_names, net_names, global_names}
use Rattle.net_file.specs.Names.{number_among, AreDifferent}
use Rattle.net_file.specs.Netlist.{Netlist, Block}
use Rattle.net_file.specs.Reading.{line_fault_from, net_from, nets_of, rows_of}
use Rattle.vpr_text.specs.Readings.{unless_faulty}
use Rattle.net_file.specs.Reading as reading
use Rattle.net_file.specs.Reads.{ReadsNet}
use Rattle.net_file.specs.kept.LinesSeen.{seen_of}
use Rattle.net_file.specs.WholeFile.{fault_at, whole_fault}
use Rattle.net_file.proofs.BlockNames.{map_made, block_names_are}
use Rattle.net_file.proofs.Distinct.{distinct_differ, number_below}
use Rattle.net_file.proofs.Limits.{all_nets, few_accepted_blocks, few_accepted_nets}
use Rattle.net_file.proofs.NameWords.{block_names_words, net_names_words}
use Rattle.net_file.proofs.Related.{accepted, each_none}
use Rattle.net_file.proofs.Terminals.{IsPin, IsAtPin, JoinsPins, nets_join_pins}

-- ---- names

names_by_number : (names : List (List ℕ)) → map (λ n. get_or names n []) (range_with_len 0 (length names)) ≡ names
names_by_number names =
    let count = length-map-range_with_len (λ n. get_or names n []) 0 (length names) in
    ext_get_or [] (map (λ n. get_or names n []) (range_with_len 0 (length names))) names count
    (λ i lt. get_or-map-range_with_len (λ n. get_or names n []) 0 (length names) i i [] (subst (λ m. i < m) count lt) (zero-add i))

-- nets have the names that they are made for
pub net_names_are : (names globals : List (List ℕ)) (rows : List (List Connection)) → names_of_nets (nets_of names globals rows) ≡ names
unfolding nets_of reading.net_at net_from
net_names_are names globals rows = map_made (λ n. n.name) (reading.net_at names globals rows) (range_with_len 0 (length names)) ∙ names_by_number names

all_different_blocks : (ls : List Line) → AreDifferent (block_names ls)
unfolding block_names
all_different_blocks ls = distinct_differ (flat_map (λ l. block_name_on l.words) ls)

all_different_nets : (ls : List Line) → AreDifferent (net_names ls)
unfolding net_names
all_different_nets ls = distinct_differ (flat_map (λ l. net_names_on l.words) ls)

-- ---- pins

net_below : (names : List (List ℕ)) (word : List ℕ) (b : Bool) → IfSome (cond b None (number_among names word)) (λ net. net < length names)
net_below names word true = tt
net_below names word false = number_below names word

pins_below : (names : List (List ℕ)) (ls : List Line) → All (λ block. All (λ pin. IfSome pin (λ net. net < length names)) block.nets) (blocks_of names ls)
unfolding blocks_of block_at block_of
pins_below names ls =
    All-map (λ (block : Block). All (λ pin. IfSome pin (λ net. net < length names)) block.nets) (block_at names ls) (pinlists ls)
    (λ k i lt. All-map (λ pin. IfSome pin (λ net. net < length names)) (net_of names) (drop 1 (words_at ls (get_or (pinlists ls) k i)))
    (λ j word within. net_below names (get_or (drop 1 (words_at ls (get_or (pinlists ls) k i))) j word) (is_open (get_or (drop 1 (words_at ls (get_or (pinlists ls) k i))) j word))))

-- ---- terminals

class_by_kind : (pins : List Pin) (direction : Direction) (kind : BlockKind) (class : Option ℕ) → IsPin pins direction kind class → is_some class ≡ is_logic_block kind
class_by_kind pins direction InputPad class h = ap is_some h.1
class_by_kind pins direction OutputPad class h = ap is_some h.1
class_by_kind pins direction LogicBlock class h = ap is_some h.4

terminal_at : (pins : List Pin) (blocks : List Block) (direction : Direction) (t : Terminal) → IsAtPin pins blocks direction t → IsTerminal blocks t
terminal_at pins blocks direction t h = record { there = h.there; class = class_by_kind pins direction (get_or blocks t.block no_block).kind t.class h.at_pin }

-- ---- netlists

facts_of : (pins : List Pin) (ls : List Line) (n : Netlist) → HaveWords ls → ReadsNet pins ls n → IsNetlist n
facts_of pins ls n words h =
    let names = net_names ls in
    let blocks = blocks_of names ls in
    let rows = rows_of pins names ls in
    let nets = nets_of names (global_names ls) rows in
    let block_names_is = block_names_are (length pins) names ls h.each_line h.complete in
    let net_names_is = net_names_are names (global_names ls) rows in
    let count = all_nets names (global_names ls) rows in
    let ends = subst (λ (m : Netlist). All (JoinsPins pins m.blocks) m.nets) h.value (nets_join_pins pins ls n h) in
    subst IsNetlist (sym h.value)
    (record {
      few_blocks = few_accepted_blocks (length pins) names ls h.each_line;
      few_nets = subst (λ k. k ≤ 65535) (sym count) (few_accepted_nets (length pins) ls h.each_line);
      block_names = subst (All IsWord) (sym block_names_is) (All-from_recursion IsWord (block_names ls) (block_names_words (length pins) ls h.each_line words));
      net_names = subst (All IsWord) (sym net_names_is) (All-from_recursion IsWord names (net_names_words ls words));
      blocks_differ = subst AreDifferent (sym block_names_is) (all_different_blocks ls);
      nets_differ = subst AreDifferent (sym net_names_is) (all_different_nets ls);
      pins = subst (λ k. All (λ (block : Block). All (λ pin. IfSome pin (λ net. net < k)) block.nets) blocks) (sym count) (pins_below names ls);
      drivers = All-weaker (JoinsPins pins blocks) (λ net. IsTerminal blocks net.driver) (λ net k. terminal_at pins blocks _ net.driver k.driver) nets ends;
      sinks = All-weaker (JoinsPins pins blocks) (λ net. All (IsTerminal blocks) net.sinks)
          (λ net k. All-weaker (IsAtPin pins blocks _) (IsTerminal blocks) (terminal_at pins blocks _) net.sinks k.sinks) nets ends;
    })

-- ---- what the reader has

given : {X : Type 0} (f : Option NetFault) (r : Result X NetFault) (x : X) → unless_faulty f r ≡ Ok x → (f ≡ None) × (r ≡ Ok x)
given None r x e = (refl, e)
given (Some y) r x e = absurd cc

abbrev as_read : {X : Type 0} → X → Result X NetFault
as_read x = Ok x

same_seen : (a b : Seen) → as_read a ≡ as_read b → b ≡ a
same_seen a b e = cc

module _ (pins : List Pin) (ls : List Line) (seen : Seen) (read : unless_faulty (line_fault_from (length pins) [] ls) (as_read (seen_of ls)) ≡ Ok seen) where
  lined : (line_fault_from (length pins) [] ls ≡ None) × (seen ≡ seen_of ls)
  lined =
      let both = given (line_fault_from (length pins) [] ls) (as_read (seen_of ls)) seen read in
      (both.0, same_seen (seen_of ls) seen both.1)

  pub names_read : (blocks : List Block) → blocks ≡ blocks_of seen.nets ls → seen.blocks ≡ names_of_blocks blocks
  names_read blocks are =
      let lines = accepted (length pins) [] ls lined.0 in
      ap (λ (s : Seen). s.blocks) lined.1 ∙ sym (block_names_are (length pins) seen.nets ls lines.0 lines.1) ∙ ap names_of_blocks (sym are)

  reads : whole_fault (net_names ls) (global_names ls) (rows_of pins (net_names ls) ls) ≡ None
      → ReadsNet pins ls (record { blocks = blocks_of (net_names ls) ls; nets = nets_of (net_names ls) (global_names ls) (rows_of pins (net_names ls) ls) })
  unfolding whole_fault
  reads whole =
      let lines = accepted (length pins) [] ls lined.0 in
      record {
        each_line = lines.0;
        complete = lines.1;
        each_net = each_none (fault_at (net_names ls) (global_names ls) (rows_of pins (net_names ls) ls)) (length (net_names ls)) whole;
        value = refl;
      }

  pub facts_read : (blocks : List Block) (numbers : List ℕ) (rows : List (List Connection)) → HaveWords ls → blocks ≡ blocks_of seen.nets ls → numbers ≡ pinlist_numbers ls
      → rows ≡ by_net (connections pins numbers blocks) (length seen.nets) → whole_fault seen.nets seen.globals rows ≡ None → IsNetlist (record { blocks = blocks; nets = nets_of seen.nets seen.globals rows })
  unfolding rows_of
  facts_read blocks numbers rows words are numbered filed whole =
      let nets : seen.nets ≡ net_names ls = ap (λ (s : Seen). s.nets) lined.1 in
      let globals : seen.globals ≡ global_names ls = ap (λ (s : Seen). s.globals) lined.1 in
      let blocks_is : blocks ≡ blocks_of (net_names ls) ls = are ∙ ap (λ names. blocks_of names ls) nets in
      let rows_is : rows ≡ rows_of pins (net_names ls) ls =
      filed ∙ ap (λ k. by_net (connections pins k blocks) (length seen.nets)) numbered ∙ ap (λ bs. by_net (connections pins (pinlist_numbers ls) bs) (length seen.nets)) blocks_is
      ∙ ap (λ names. by_net (connections pins (pinlist_numbers ls) (blocks_of (net_names ls) ls)) (length names)) nets in
      let none : whole_fault (net_names ls) (global_names ls) (rows_of pins (net_names ls) ls) ≡ None =
      sym (ap (λ names. whole_fault names seen.globals rows) nets ∙ ap (λ names. whole_fault (net_names ls) names rows) globals ∙ ap (whole_fault (net_names ls) (global_names ls)) rows_is) ∙ whole in
      let nets_is : nets_of (net_names ls) (global_names ls) (rows_of pins (net_names ls) ls) ≡ nets_of seen.nets seen.globals rows =
      sym (ap (λ names. nets_of names seen.globals rows) nets ∙ ap (λ names. nets_of (net_names ls) names rows) globals ∙ ap (nets_of (net_names ls) (global_names ls)) rows_is) in
      subst (λ bs. IsNetlist (record { blocks = bs; nets = nets_of seen.nets seen.globals rows })) (sym blocks_is)
      (subst (λ ns. IsNetlist (record { blocks = blocks_of (net_names ls) ls; nets = ns })) nets_is (facts_of pins ls _ words (reads none)))

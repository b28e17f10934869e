-- All lines of a routing's text are such as are read.
use Rattle.std.proofs.Common.{◌≡◌, ℕ, zero, suc, ◌+◌, ◌^◌, ◌<◌, true, false, ◌&&◌, List, [], ◌∷◌, ◌++◌, length, map, All, Option, Some, None, inl, inr, refl, sym, ap, subst, ◌∙◌, arith}
use Rattle.std.specs.Prelude.{slice_index_or}
use Rattle.std.specs.List.{AllByRecursion, flat_map, range_with_len}
use Rattle.std.proofs.lemmas.Bool.{cases_Bool}
use Rattle.std.proofs.lemmas.List.{get_or-map, length-map}
use Rattle.std.proofs.lemmas.List.Elements.{All-get_or, recursion_from_All}
use Rattle.vpr_text.specs.Text.{IsWord}
use Rattle.net_file.specs.Connections.{no_block}
use Rattle.net_file.specs.Facts.{IsNetlist, IsTerminal, names_of_blocks, names_of_nets}
use Rattle.net_file.specs.Netlist.{Netlist, Net, Block}
use Rattle.net_file.specs.Routed.{no_net, is_routed_net}
use Rattle.net_file.specs.declared.terminal.Terminal.{Terminal}
use Rattle.place_file.specs.Placement.{Placement}
use Rattle.rr_graph.specs.Fabric.{Fabric}
use Rattle.rr_graph.specs.Nodes.{node_at}
use Rattle.route_tree.specs.Paths.{Pair}
use Rattle.route_file.specs.TextLine.{TextLine}
use Rattle.route_file.specs.PrintedNodes.{printed_nodes}
use Rattle.route_file.specs.Text.{node_lines, lines_of_node, routed_net_lines, block_line, global_net_lines, lines_of_net}
use Rattle.route_file.proofs.PlainWords.{is_plain, are_plain, IsPlain}
use Rattle.route_file.proofs.TextWords.{AreClear}
use Rattle.route_file.proofs.NetTexts.{lines_of_global, lines_of_other}
use Rattle.route_file.proofs.ReadReported.{clear_span}
use Rattle.route_file.proofs.ReadWalk.{AreNodes, IsReadable}

pub clear_append : (xs ys : List TextLine) → AreClear xs → AreClear ys → AreClear (xs ++ ys)
clear_append [] ys h k = k
clear_append (x ∷ xs) ys h k = (h.0, clear_append xs ys h.1 k)

all_plain : (w : List ℕ) → AllByRecursion (λ b. is_plain b ≡ true) w → are_plain w ≡ true
all_plain [] h = refl
all_plain (b ∷ w) h = ap (λ t. t && are_plain w) h.0 ∙ all_plain w h.1

pub plain_word : (w : List ℕ) → IsWord w → IsPlain w
plain_word w h = record { filled = h.filled; plain = all_plain w (recursion_from_All (λ b. is_plain b ≡ true) w h.bytes) }

net_name : (netlist : Netlist) (n : ℕ) → IsNetlist netlist → n < length netlist.nets → IsPlain (slice_index_or netlist.nets n no_net).name
net_name netlist n h within =
    let long : n < length (names_of_nets netlist.nets) = subst (λ k. n < k) (sym (length-map netlist.nets (λ (m : Net). m.name))) within in
    let word = All-get_or IsWord (names_of_nets netlist.nets) n [] long h.net_names in
    plain_word (slice_index_or netlist.nets n no_net).name (subst IsWord (get_or-map (λ (m : Net). m.name) netlist.nets n no_net [] within) word)

block_name : (netlist : Netlist) (b : ℕ) → IsNetlist netlist → b < length netlist.blocks → IsPlain (slice_index_or netlist.blocks b no_block).name
block_name netlist b h within =
    let long : b < length (names_of_blocks netlist.blocks) = subst (λ k. b < k) (sym (length-map netlist.blocks (λ (m : Block). m.name))) within in
    let word = All-get_or IsWord (names_of_blocks netlist.blocks) b [] long h.block_names in
    plain_word (slice_index_or netlist.blocks b no_block).name (subst IsWord (get_or-map (λ (m : Block). m.name) netlist.blocks b no_block [] within) word)

clear_terminals : (netlist : Netlist) (placement : Placement) (ts : List Terminal) → IsNetlist netlist → AllByRecursion (IsTerminal netlist.blocks) ts → AreClear (map (block_line netlist placement) ts)
unfolding block_line
clear_terminals netlist placement [] h k = tt
clear_terminals netlist placement (t ∷ ts) h k = (block_name netlist t.block h k.0.there, clear_terminals netlist placement ts h k.1)

clear_nodes : (f : Fabric) (nodes : List ℕ) → AreNodes f nodes → AreClear (flat_map (node_lines f) nodes)
unfolding node_lines
clear_nodes f [] h = tt
clear_nodes f (a ∷ nodes) h =
    let n = h.0.0 in
    let small = h.0.2 in
    let clear : AreClear (lines_of_node f (Some n)) = ((clear_span f n small, omega (arith, small.number)), tt) in
    clear_append (lines_of_node f (node_at f a)) (flat_map (node_lines f) nodes) (subst (λ o. AreClear (lines_of_node f o)) (sym h.0.1) clear) (clear_nodes f nodes h.1)

clear_routed : (f : Fabric) (n : ℕ) (name : List ℕ) (list : Option (List Pair)) → n < 2 ^ 64 → are_plain name ≡ true → IsReadable f list → AreClear (routed_net_lines f n name list)
unfolding routed_net_lines
clear_routed f n name None h k readable = tt
clear_routed f n name (Some []) h k readable = absurd readable
clear_routed f n name (Some (p ∷ ps)) h k readable = (tt, ((h, k), (tt, clear_nodes f (printed_nodes f (p ∷ ps)) readable.3)))

clear_global : (netlist : Netlist) (placement : Placement) (n : ℕ) → IsNetlist netlist → n < length netlist.nets → AreClear (global_net_lines netlist placement n (slice_index_or netlist.nets n no_net))
unfolding global_net_lines
clear_global netlist placement n h within =
    let net = slice_index_or netlist.nets n no_net in
    let driver = All-get_or (λ (m : Net). IsTerminal netlist.blocks m.driver) netlist.nets n no_net within h.drivers in
    let sinks = All-get_or (λ (m : Net). All (IsTerminal netlist.blocks) m.sinks) netlist.nets n no_net within h.sinks in
    let few : n < 2 ^ 64 = omega (arith, within, h.few_nets) in
    let all : AllByRecursion (IsTerminal netlist.blocks) (net.driver ∷ net.sinks) = (driver, recursion_from_All (IsTerminal netlist.blocks) net.sinks sinks) in
    (tt, ((few, (net_name netlist n h within).plain), (tt, clear_terminals netlist placement (net.driver ∷ net.sinks) h all)))

clear_net : (netlist : Netlist) (placement : Placement) (f : Fabric) (n : ℕ) (list : Option (List Pair)) → IsNetlist netlist → n < length netlist.nets → (is_routed_net (slice_index_or netlist.nets n no_net) ≡ true → IsReadable f list)
    → AreClear (lines_of_net netlist placement f n (slice_index_or netlist.nets n no_net) list)
clear_net netlist placement f n list h within readable =
    let net = slice_index_or netlist.nets n no_net in
    let few : n < 2 ^ 64 = omega (arith, within, h.few_nets) in
    elim (cases_Bool net.global) [
      | inl global ↦ subst AreClear (sym (lines_of_global netlist placement f n net list global)) (clear_global netlist placement n h within)
      | inr other ↦ elim (cases_Bool (is_routed_net net)) [
        | inl routed ↦ subst AreClear (sym (lines_of_other netlist placement f n net list true other routed)) (clear_routed f n net.name list few (net_name netlist n h within).plain (readable routed))
        | inr unrouted ↦ subst AreClear (sym (lines_of_other netlist placement f n net list false other unrouted)) tt
      ]
    ]

-- the lines of all nets are clear
pub clear_nets : (netlist : Netlist) (placement : Placement) (f : Fabric) (wanted : ℕ → Option (List Pair)) (c i : ℕ) → IsNetlist netlist → i + c ≡ length netlist.nets
    → ((n : ℕ) → n < length netlist.nets → is_routed_net (slice_index_or netlist.nets n no_net) ≡ true → IsReadable f (wanted n))
    → AreClear (flat_map (λ n. lines_of_net netlist placement f n (slice_index_or netlist.nets n no_net) (wanted n)) (range_with_len i c))
clear_nets netlist placement f wanted zero i h e readable = tt
clear_nets netlist placement f wanted (suc c) i h e readable =
    let within : i < length netlist.nets = omega (arith, e) in
    clear_append (lines_of_net netlist placement f i (slice_index_or netlist.nets i no_net) (wanted i)) _ (clear_net netlist placement f i (wanted i) h within (readable i within))
    (clear_nets netlist placement f wanted c (i + 1) h (omega (arith, e)) readable)

-- What was written is read back.
use Rattle.std.proofs.Common.{◌≡◌, ℕ, ◌^◌, ◌<◌, ◌≤◌, true, eqb, List, [], length, map, get_or, Option, Some, None, refl, sym, ap, subst, ◌∙◌, arith}
use Rattle.std.specs.Prelude.{filter, slice_index_or}
use Rattle.std.specs.List.{flat_map, list_all, range_with_len}
use Rattle.std.proofs.lemmas.Bool.{eqb-true, and_parts}
use Rattle.std.proofs.lemmas.List.{get_or-map, length-map}
use Rattle.std.proofs.lemmas.List.Sums.{AllPass-from_list_all}
use Rattle.vpr_text.specs.Words.{Line, has_words}
use Rattle.net_file.specs.Facts.{IsNetlist, names_of_nets}
use Rattle.net_file.specs.Names.{number_among}
use Rattle.net_file.specs.Netlist.{Netlist}
use Rattle.net_file.specs.Netlist as net_file
use Rattle.net_file.specs.Routed.{no_net, is_routed_at, routed_numbers}
use Rattle.place_file.specs.Placement.{Placement}
use Rattle.rr_graph.specs.Fabric.{IsFabric}
use Rattle.rr_graph.specs.Problems as problems
use Rattle.rr_graph.specs.Problems.{Net, RoutingProblem, net_in}
use Rattle.rr_graph.proofs.Designs.{numbers_kept}
use Rattle.route_tree.specs.Paths.{Pair}
use Rattle.route_tree.specs.Fits.{fits_problem, are_nodes}
use Rattle.route_file.specs.TextLine.{TextLine}
use Rattle.route_file.specs.Text.{routed_before, list_of, net_lines, text_lines, text_of}
use Rattle.route_file.specs.Design.{IsDesign}
use Rattle.route_file.specs.ReadBack.{TellsWhole}
use Rattle.route_file.specs.Sections.{had_line, list_of_net}
use Rattle.route_file.specs.Reads.{ReadsRoute, ReadsBytes}
use Rattle.route_file.proofs.TextWords.{AreClear, numbered, lines_of_text}
use Rattle.route_file.proofs.ReadNets.{IsNamed}
use Rattle.route_file.proofs.ReadSections.{AreDone}
use Rattle.route_file.proofs.ReadWalk.{worded, IsReadable, Reads, nets_walked}
use Rattle.route_file.proofs.ReadHead.{size_read, size_same, title_read}
use Rattle.route_file.proofs.ReadRouted.{passing, passing_less, passing_at}
use Rattle.route_file.proofs.ReadLists.{list_readable}
use Rattle.route_file.proofs.ReadClear.{clear_nets}

module _ (netlist : Netlist) (placement : Placement) (p : RoutingProblem) (lists : List (Option (List Pair)))
    (facts : IsNetlist netlist) (fabric : IsFabric p.device) (design : IsDesign netlist placement p) (fits : fits_problem p lists ≡ true) (whole : TellsWhole p lists) where
  numbers : map (λ (n : Net). n.number) p.nets ≡ routed_numbers netlist
  numbers = ap (λ (q : RoutingProblem). map (λ (n : Net). n.number) q.nets) design.made ∙ numbers_kept p.device netlist placement

  fit : (eqb (length lists) (length p.nets) ≡ true) × (list_all (are_nodes p.device) lists ≡ true)
  unfolding fits_problem
  fit = and_parts (eqb (length lists) (length p.nets)) (list_all (are_nodes p.device) lists) fits

  same_length : length lists ≡ length p.nets
  same_length = eqb-true (length lists) (length p.nets) fit.0

  count_nets : length (routed_numbers netlist) ≡ length p.nets
  count_nets = ap length (sym numbers) ∙ length-map p.nets (λ (n : Net). n.number)

  -- a routed net's list is one of the routing's
  place_within : (n : ℕ) → n < length netlist.nets → is_routed_at netlist n ≡ true → routed_before netlist n < length p.nets
  unfolding routed_before routed_numbers
  place_within n within routed =
      let less = passing_less (is_routed_at netlist) n (length netlist.nets) within routed in
      subst (λ k. routed_before netlist n < k) count_nets less

  named : (n : ℕ) → n < length netlist.nets → IsNamed netlist n
  named n within =
      let long : n < length (names_of_nets netlist.nets) = subst (λ k. n < k) (sym (length-map netlist.nets (λ (m : net_file.Net). m.name))) within in
      subst (λ (name : List ℕ). number_among (names_of_nets netlist.nets) name ≡ Some n) (get_or-map (λ (m : net_file.Net). m.name) netlist.nets n no_net [] within) (facts.nets_differ n long)

  readable : (n : ℕ) → n < length netlist.nets → is_routed_at netlist n ≡ true → IsReadable p.device (list_of netlist lists n)
  readable n within routed =
      let i = routed_before netlist n in
      let below = place_within n within routed in
      let nodes = AllPass-from_list_all (are_nodes p.device) lists fit.1 i None (subst (λ k. i < k) (sym same_length) below) in
      list_readable p.device fabric (net_in p.nets i) (list_of netlist lists n) nodes (whole i below)

  -- each net of the problem has its list
  has_lists : (all : List Line) → AreDone netlist p.device (list_of netlist lists) all (length netlist.nets) → (i : ℕ) → i < length p.nets → slice_index_or lists i None ≡ list_of_net netlist p.device all (net_in p.nets i).number
  unfolding routed_before routed_numbers
  has_lists all done i lt =
      let place = passing_at (is_routed_at netlist) (length netlist.nets) i (subst (λ k. i < k) (sym count_nets) lt) in
      let m = get_or (passing (is_routed_at netlist) (length netlist.nets)) i 0 in
      let number : m ≡ (net_in p.nets i).number = ap (λ (ns : List ℕ). get_or ns i 0) (sym numbers) ∙ get_or-map (λ (n : Net). n.number) p.nets i problems.no_net 0 lt in
      let list : list_of_net netlist p.device all m ≡ slice_index_or lists i None = done.lists m place.below place.passes ∙ ap (λ (k : ℕ). slice_index_or lists k None) place.before in
      sym list ∙ ap (list_of_net netlist p.device all) number

  begun : AreDone netlist p.device (list_of netlist lists) [] 0
  unfolding had_line
  begun = record { none_had = λ m le. refl; lists = λ m lt. absurd (omega arith) }

  abbrev nets_lines : List TextLine
  nets_lines = flat_map (net_lines netlist placement p.device lists) (range_with_len 0 (length netlist.nets))

  walked : Reads netlist p.device fabric (list_of netlist lists) (λ all. (i : ℕ) → i < length p.nets → slice_index_or lists i None ≡ list_of_net netlist p.device all (net_in p.nets i).number) [] (worded 4 nets_lines)
  unfolding net_lines
  walked =
      nets_walked netlist p.device fabric (list_of netlist lists) (λ all. (i : ℕ) → i < length p.nets → slice_index_or lists i None ≡ list_of_net netlist p.device all (net_in p.nets i).number) placement (length netlist.nets) 0 [] 4
      (omega arith) (omega (arith, facts.few_nets)) (λ n within. (named n within, readable n within)) has_lists begun

  clear : AreClear (text_lines netlist placement p lists)
  unfolding text_lines net_lines
  clear =
      let nets = clear_nets netlist placement p.device (list_of netlist lists) (length netlist.nets) 0 facts (omega arith) readable in
      ((omega (arith, fabric.few_columns), omega (arith, fabric.few_rows)), (tt, (tt, nets)))

  reads : ReadsRoute netlist p (filter has_words (numbered 1 (text_lines netlist placement p lists))) lists
  unfolding text_lines
  reads = record {
    two_lines = omega arith;
    size_line = size_read p.device.nx p.device.ny (omega (arith, fabric.few_columns)) (omega (arith, fabric.few_rows));
    same_size = size_same p.device (omega (arith, fabric.few_columns)) (omega (arith, fabric.few_rows));
    title = title_read;
    each_line = walked.0;
    count = same_length;
    each_list = walked.1;
  }

  -- what was written is read back
  pub read_back : length (text_of netlist placement p lists) ≤ 2 ^ 24 → ReadsBytes netlist p (text_of netlist placement p lists) lists
  unfolding text_of
  read_back short = record {
    lines = filter has_words (numbered 1 (text_lines netlist placement p lists));
    is_text = lines_of_text (text_lines netlist placement p lists) clear short;
    reads = reads;
  }

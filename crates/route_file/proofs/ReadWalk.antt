-- The lines of a routing's text are read one by one.
use Rattle.std.proofs.Common.{◌≡◌, ℕ, zero, suc, ◌+◌, ◌<◌, ◌^◌, true, false, not, ◌&&◌, ◌||◌, List, [], ◌∷◌, ◌++◌, length, map, Option, Some, None, inl, inr, refl, sym, ap, subst, ◌∙◌, arith, append_assoc, append-nil, decimal}
use Rattle.std.specs.Prelude.{filter, nat_lt, slice_index_or}
use Rattle.std.specs.List.{AllByRecursion, flat_map, range_with_len}
use Rattle.std.proofs.lemmas.Bool.{cases_Bool, false≢true, or_right}
use Rattle.vpr_text.specs.Words.{Line, has_words}
use Rattle.vpr_text.specs.Word.{is_text}
use Rattle.net_file.specs.Netlist.{Netlist, Net}
use Rattle.net_file.specs.Routed.{no_net, is_routed_at}
use Rattle.net_file.specs.declared.terminal.Terminal.{Terminal}
use Rattle.place_file.specs.Placement.{Placement}
use Rattle.rr_graph.specs.node.Kind.{Kind}
use Rattle.rr_graph.specs.node.Kind.TheVariants as kind
use Rattle.rr_graph.specs.node.Label.{Label}
use Rattle.rr_graph.specs.node.Span.{Span}
use Rattle.rr_graph.specs.node.Node.{Node}
use Rattle.rr_graph.specs.Fabric.{Fabric, IsFabric}
use Rattle.rr_graph.specs.Nodes.{node_at, label_of, span_of}
use Rattle.route_tree.specs.Paths.{Pair}
use Rattle.route_tree.specs.Legality.{is_listed_after}
use Rattle.route_file.specs.TextLine.{TextLine, RoutedNet, GlobalNet, NodeLine}
use Rattle.route_file.specs.PrintedNodes.{printed_nodes}
use Rattle.route_file.specs.Text.{lines_of_node, node_lines, routed_net_lines, block_line, global_net_lines, lines_of_net}
use Rattle.route_file.specs.NetLine.{is_net_line, is_global_at, is_plain_form, is_global_form}
use Rattle.route_file.specs.NodeLine.{node_on}
use Rattle.route_file.specs.Sections.{nodes_in, list_along}
use Rattle.route_file.specs.Judge.{line_fault}
use Rattle.route_file.specs.Reads.{AreAccepted}
use Rattle.route_file.proofs.LineWords.{line_words, kind_word, label_word, span_words}
use Rattle.route_file.proofs.NetTexts.{lines_of_global, lines_of_other}
use Rattle.route_file.proofs.TextWords.{numbered}
use Rattle.route_file.proofs.PrintedPairs.{LeaveSinks, AreAttached, pairs_read, nodes_attached}
use Rattle.route_file.proofs.ReadReported.{IsSmall, node_read}
use Rattle.route_file.proofs.ReadNets.{IsNamed, plain_form, global_form, routed_net_read, global_net_read}
use Rattle.route_file.proofs.ReadSections.{AreDone, EndInSection, begins, goes_on, node_goes_on, ends, passes, net_accepted, node_accepted, block_accepted}

-- the lines with words, numbered from k on
abbrev pub worded : ℕ → List TextLine → List Line
worded k ls = filter has_words (numbered k ls)

-- all are nodes, whose numbers are such as are read
abbrev pub AreNodes : Fabric → List ℕ → Type 0
AreNodes f nodes = AllByRecursion (λ a. (n : Node) × (node_at f a ≡ Some n) × IsSmall f n) nodes

-- the list can be read back: it has pairs, is in order, leaves no sink, and names nodes
abbrev pub IsReadable : Fabric → Option (List Pair) → Type 0
IsReadable f None = Unit {0}
IsReadable f (Some []) = ⊥
IsReadable f (Some (p ∷ ps)) = (source : ℕ) × LeaveSinks f (p ∷ ps) × (is_listed_after f source [] (p ∷ ps) ≡ true) × AreNodes f (printed_nodes f (p ∷ ps))

no_net_line : (k : Kind) (number : ℕ) (ws : List (List ℕ)) → is_net_line (record { number = number; words = kind_word k ∷ ws }) ≡ false
unfolding is_text
no_net_line kind.Source number ws = refl
no_net_line kind.Sink number ws = refl
no_net_line kind.Opin number ws = refl
no_net_line kind.Ipin number ws = refl
no_net_line kind.Chanx number ws = refl
no_net_line kind.Chany number ws = refl

no_node_line : (k : Kind) (s : Span) (l : Label) (n number : ℕ) → is_net_line (record { number = number; words = line_words (NodeLine k s l n) }) ≡ false
no_node_line k s l n number = no_net_line k number (span_words s ++ (label_word l ∷ decimal n ∷ []))

module _ (netlist : Netlist) (f : Fabric) (fabric : IsFabric f) (wanted : ℕ → Option (List Pair)) (Final : List Line → Type 0) where
  -- after those before them the lines are accepted, and all of them come out well
  abbrev pub Reads : (before ls : List Line) → Type 0
  Reads before ls = AreAccepted netlist f before ls × Final (before ++ ls)

  reads_line : (before : List Line) (l : Line) (ls : List Line) → line_fault netlist f before l ≡ None → Reads (before ++ l ∷ []) ls → Reads before (l ∷ ls)
  reads_line before l ls e h = ((e, h.0), subst Final (append_assoc before (l ∷ []) ls) h.1)

  -- ---- node lines

  one_line : (a : ℕ) (n : Node) → node_at f a ≡ Some n → node_lines f a ≡ NodeLine n.kind (span_of f n) (label_of f n) n.number ∷ []
  unfolding node_lines
  one_line a n e = ap (lines_of_node f) e

  pub nodes_walked : (n : ℕ) (done nodes : List ℕ) (rest : List TextLine) (before : List Line) (k : ℕ) → is_global_at netlist n ≡ false → is_routed_at netlist n ≡ true
      → EndInSection netlist f wanted before n done → AreAttached f done nodes → AreNodes f nodes
      → ((later : List Line) (j : ℕ) → EndInSection netlist f wanted later n (done ++ nodes) → Reads later (worded j rest))
      → Reads before (worded k (flat_map (node_lines f) nodes ++ rest))
  nodes_walked n done [] rest before k other routed h attached are next = next before k (subst (EndInSection netlist f wanted before n) (sym (append-nil done)) h)
  nodes_walked n done (a ∷ nodes) rest before k other routed h attached are next =
      let node = are.0.0 in
      let line = NodeLine node.kind (span_of f node) (label_of f node) node.number in
      let l : Line = record { number = k; words = line_words line } in
      let is : is_net_line l ≡ false = no_node_line node.kind (span_of f node) (label_of f node) node.number k in
      let read : node_on f l.words ≡ Some a = node_read f fabric a node are.0.1 are.0.2 in
      let more = nodes_walked n (done ++ a ∷ []) nodes rest (before ++ l ∷ []) (k + 1) other routed (node_goes_on netlist f wanted before n l done a h is read) attached.1 are.1
      (λ later j w. next later j (subst (EndInSection netlist f wanted later n) (append_assoc done (a ∷ []) nodes) w)) in
      subst (λ (ls : List TextLine). Reads before (worded k ((ls ++ flat_map (node_lines f) nodes) ++ rest))) (sym (one_line a node are.0.1))
      (reads_line before l (worded (k + 1) (flat_map (node_lines f) nodes ++ rest)) (node_accepted netlist f wanted before n l done a h is other routed read attached.0) more)

  -- ---- the lines of a global net

  blocks_walked : (placement : Placement) (n : ℕ) (ts : List Terminal) (rest : List TextLine) (before : List Line) (k : ℕ) (nodes : List ℕ) → is_global_at netlist n ≡ true → EndInSection netlist f wanted before n nodes
      → ((later : List Line) (j : ℕ) (some : List ℕ) → EndInSection netlist f wanted later n some → Reads later (worded j rest))
      → Reads before (worded k (map (block_line netlist placement) ts ++ rest))
  unfolding block_line is_text
  blocks_walked placement n [] rest before k nodes global h next = next before k nodes h
  blocks_walked placement n (t ∷ ts) rest before k nodes global h next =
      let l : Line = record { number = k; words = line_words (block_line netlist placement t) } in
      let more = blocks_walked placement n ts rest (before ++ l ∷ []) (k + 1) (nodes_in netlist f (before ++ l ∷ []) n) global
      (goes_on netlist f wanted before n l nodes (nodes_in netlist f (before ++ l ∷ []) n) h refl refl) next in
      reads_line before l (worded (k + 1) (map (block_line netlist placement) ts ++ rest)) (block_accepted netlist f wanted before n l nodes h refl global refl) more

  abbrev net_named : ℕ → Net
  net_named n = slice_index_or netlist.nets n no_net

  global_walked : (placement : Placement) (n : ℕ) (rest : List TextLine) (before : List Line) (k : ℕ) → n < 2 ^ 32 → is_global_at netlist n ≡ true → IsNamed netlist n → AreDone netlist f wanted before n
      → ((later : List Line) (j : ℕ) → AreDone netlist f wanted later (n + 1) → Reads later (worded j rest))
      → Reads before (worded k (global_net_lines netlist placement n (net_named n) ++ rest))
  unfolding global_net_lines is_text
  global_walked placement n rest before k small global named h next =
      let net = net_named n in
      let terminals = net.driver ∷ net.sinks in
      let l : Line = record { number = k + 1; words = line_words (GlobalNet n net.name) } in
      let on = global_net_read netlist n small global named in
      let form : (is_plain_form l.words || is_global_form l.words) ≡ true = or_right (is_plain_form l.words) (is_global_form l.words) (global_form n net.name small) in
      let unrouted : is_routed_at netlist n ≡ false = ap (λ b. not b && nat_lt 0 (length net.sinks)) global in
      let more = blocks_walked placement n terminals rest (before ++ l ∷ []) (k + 1 + 1 + 1) [] global (begins netlist f wanted before n l h refl on)
      (λ later j some w. next later j (ends netlist f wanted later n some w (λ routed. absurd (false≢true (sym unrouted ∙ routed))))) in
      reads_line before l (worded (k + 1 + 1 + 1) (map (block_line netlist placement) terminals ++ rest)) (net_accepted netlist f wanted before n l h refl form on) more

  -- ---- the lines of a routed net

  routed_walked : (n : ℕ) (list : Option (List Pair)) (rest : List TextLine) (before : List Line) (k : ℕ) → n < 2 ^ 32 → is_global_at netlist n ≡ false → is_routed_at netlist n ≡ true → IsNamed netlist n
      → list ≡ wanted n → IsReadable f list → AreDone netlist f wanted before n
      → ((later : List Line) (j : ℕ) → AreDone netlist f wanted later (n + 1) → Reads later (worded j rest))
      → Reads before (worded k (routed_net_lines f n (net_named n).name list ++ rest))
  unfolding routed_net_lines is_text
  routed_walked n None rest before k small other routed named list readable h next = next before k (passes netlist f wanted before n h (λ _. list))
  routed_walked n (Some []) rest before k small other routed named list readable h next = absurd readable
  routed_walked n (Some (p ∷ ps)) rest before k small other routed named list readable h next =
      let name = (net_named n).name in
      let nodes = printed_nodes f (p ∷ ps) in
      let l : Line = record { number = k + 1; words = line_words (RoutedNet n name) } in
      let on = routed_net_read netlist n other named in
      let form : (is_plain_form l.words || is_global_form l.words) ≡ true = ap (λ b. b || is_global_form l.words) (plain_form n name small) in
      let whole : list_along f nodes ≡ wanted n = ap Some (pairs_read f readable.0 p ps readable.1 readable.2) ∙ list in
      let more = nodes_walked n [] nodes rest (before ++ l ∷ []) (k + 1 + 1 + 1) other routed (begins netlist f wanted before n l h refl on) (nodes_attached f readable.0 p ps readable.1 readable.2) readable.3
      (λ later j w. next later j (ends netlist f wanted later n nodes w (λ _. whole))) in
      reads_line before l (worded (k + 1 + 1 + 1) (flat_map (node_lines f) nodes ++ rest)) (net_accepted netlist f wanted before n l h refl form on) more

  -- ---- all nets

  net_walked : (placement : Placement) (n : ℕ) (rest : List TextLine) (before : List Line) (k : ℕ) → n < 2 ^ 32 → IsNamed netlist n → (is_routed_at netlist n ≡ true → IsReadable f (wanted n)) → AreDone netlist f wanted before n
      → ((later : List Line) (j : ℕ) → AreDone netlist f wanted later (n + 1) → Reads later (worded j rest))
      → Reads before (worded k (lines_of_net netlist placement f n (net_named n) (wanted n) ++ rest))
  net_walked placement n rest before k small named readable h next =
      let put = λ (ls : List TextLine). Reads before (worded k (ls ++ rest)) in
      elim (cases_Bool (is_global_at netlist n)) [
        | inl global ↦ subst put (sym (lines_of_global netlist placement f n (net_named n) (wanted n) global)) (global_walked placement n rest before k small global named h next)
        | inr other ↦ elim (cases_Bool (is_routed_at netlist n)) [
          | inl routed ↦ subst put (sym (lines_of_other netlist placement f n (net_named n) (wanted n) true other routed)) (routed_walked n (wanted n) rest before k small other routed named refl (readable routed) h next)
          | inr unrouted ↦ subst put (sym (lines_of_other netlist placement f n (net_named n) (wanted n) false other unrouted)) (next before k (passes netlist f wanted before n h (λ routed. absurd (false≢true (sym unrouted ∙ routed)))))
        ]
      ]

  pub nets_walked : (placement : Placement) (c i : ℕ) (before : List Line) (k : ℕ) → i + c ≡ length netlist.nets → length netlist.nets < 2 ^ 32
      → ((n : ℕ) → n < length netlist.nets → IsNamed netlist n × (is_routed_at netlist n ≡ true → IsReadable f (wanted n)))
      → ((all : List Line) → AreDone netlist f wanted all (length netlist.nets) → Final all)
      → AreDone netlist f wanted before i
      → Reads before (worded k (flat_map (λ n. lines_of_net netlist placement f n (net_named n) (wanted n)) (range_with_len i c)))
  nets_walked placement zero i before k e few good last h =
      (tt, subst Final (sym (append-nil before)) (last before (subst (AreDone netlist f wanted before) (omega (arith, e)) h)))
  nets_walked placement (suc c) i before k e few good last h =
      let within : i < length netlist.nets = omega (arith, e) in
      let here = good i within in
      net_walked placement i (flat_map (λ n. lines_of_net netlist placement f n (net_named n) (wanted n)) (range_with_len (i + 1) c)) before k (omega (arith, within, few)) here.0 here.1 h
      (λ later j done. nets_walked placement c (i + 1) later j (omega (arith, e)) few good last done)

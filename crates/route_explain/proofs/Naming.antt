-- The lines of a net's section name the nodes of its list.
use Rattle.std.proofs.Common.{◌≡◌, ℕ, ◌<◌, suc, Bool, true, false, cond, ◌||◌, List, [], ◌∷◌, length, get_or, take, drop, map, filter_map, Option, Some, None, inl, inr, refl, sym, ap, subst, ◌∙◌, arith}
use Rattle.std.specs.Prelude.{◌==◌, filter, not}
use Rattle.std.specs.List.{fold, cons_option}
use Rattle.std.proofs.lemmas.Bool.{eq-eqb, eqb-true, or_cases}
use Rattle.std.proofs.lemmas.List.Folds.{list_any_at}
use Rattle.vpr_text.specs.Words.{Line, no_line, number_at}
use Rattle.net_file.specs.Netlist.{Netlist}
use Rattle.rr_graph.specs.Fabric.{Fabric}
use Rattle.rr_graph.specs.Problems.{RoutingProblem, is_sink, net_in}
use Rattle.routing_problem.proofs.Ascending.{kept_below}
use Rattle.route_tree.specs.Legality.{is_among}
use Rattle.route_tree.specs.Paths.{Pair, ends_of}
use Rattle.route_tree.specs.Usage.{Lists, covers_by, list_in}
use Rattle.route_file.specs.NetLine.{is_net_line, net_on}
use Rattle.route_file.specs.NodeLine.{node_on}
use Rattle.route_file.specs.Reads.{ReadsRoute}
use Rattle.route_file.specs.Sections.{is_line_of, is_net, latest, lines_after, lines_before, list_along, list_of_net, neighbours, nodes_in, pairs_along, section_of}
use Rattle.route_report.specs.Covered.{uses_of}
use Rattle.route_report.specs.Overused.{is_over, nets_on}
use Rattle.report_run.specs.Named.{if_over, overused_on}
use Rattle.route_explain.specs.Explanation.{pairs_in}
use Rattle.route_explain.specs.LinesNamed.{HasUseLine, is_at_step}
use Rattle.route_explain.specs.Uses.{is_user, use_line, use_text, use_text_at}

left : (x y : Bool) → x ≡ true → (x || y) ≡ true
left x y e = ap (λ b. b || y) e

right : (x y : Bool) → y ≡ true → (x || y) ≡ true
right true y e = refl
right false y e = e

-- ---- from the steps of a list to the nodes that its lines name

module _ (a : ℕ) where
  kept_by : (test : Pair → Bool) (at : Pair → ℕ) (t : Bool) (q : Pair) (qs rest : List Pair) → is_among (map at (cond t (q ∷ rest) rest)) a ≡ true
      → (is_among (map at rest) a ≡ true → is_among (map at qs) a ≡ true) → is_among (map at (q ∷ qs)) a ≡ true
  kept_by test at false q qs rest e more = right (at q == a) (is_among (map at qs) a) (more e)
  kept_by test at true q qs rest e more = elim (or_cases (at q == a) (is_among (map at rest) a) e) [
    | inl here ↦ left (at q == a) (is_among (map at qs) a) here
    | inr there ↦ right (at q == a) (is_among (map at qs) a) (more there)
  ]

  kept : (test : Pair → Bool) (at : Pair → ℕ) (qs : List Pair) → is_among (map at (filter test qs)) a ≡ true → is_among (map at qs) a ≡ true
  kept test at [] e = e
  kept test at (q ∷ qs) e = kept_by test at (test q) q qs (filter test qs) e (kept test at qs)

  firsts : (nodes : List ℕ) → is_among (map (λ (q : Pair). q.0) (neighbours nodes)) a ≡ true → is_among nodes a ≡ true
  firsts [] e = absurd cc
  firsts (x ∷ []) e = absurd cc
  firsts (x ∷ y ∷ ns) e = elim (or_cases (x == a) (is_among (map (λ (q : Pair). q.0) (neighbours (y ∷ ns))) a) e) [
    | inl here ↦ left (x == a) (is_among (y ∷ ns) a) here
    | inr there ↦ right (x == a) (is_among (y ∷ ns) a) (firsts (y ∷ ns) there)
  ]

  seconds : (nodes : List ℕ) → is_among (map (λ (q : Pair). q.1) (neighbours nodes)) a ≡ true → is_among nodes a ≡ true
  seconds [] e = absurd cc
  seconds (x ∷ []) e = absurd cc
  seconds (x ∷ y ∷ ns) e = elim (or_cases (y == a) (is_among (map (λ (q : Pair). q.1) (neighbours (y ∷ ns))) a) e) [
    | inl here ↦ right (x == a) (is_among (y ∷ ns) a) (left (y == a) (is_among ns a) here)
    | inr there ↦ right (x == a) (is_among (y ∷ ns) a) (seconds (y ∷ ns) there)
  ]

  along : (f : Fabric) (nodes : List ℕ) → is_at_step (pairs_along f nodes) a ≡ true → is_among nodes a ≡ true
  unfolding pairs_along
  along f nodes e =
      let test = λ (q : Pair). not (is_sink f q.0) in
      elim (or_cases (is_among (map (λ (q : Pair). q.0) (pairs_along f nodes)) a) (is_among (ends_of (pairs_along f nodes)) a) e) [
        | inl begins ↦ firsts nodes (kept test (λ q. q.0) (neighbours nodes) begins)
        | inr ends ↦ seconds nodes (kept test (λ q. q.1) (neighbours nodes) ends)
      ]

  steps_named : (f : Fabric) (nodes : List ℕ) → is_at_step (pairs_in (list_along f nodes)) a ≡ true → is_among nodes a ≡ true
  steps_named f [] e = absurd cc
  steps_named f (x ∷ ns) e = along f (x ∷ ns) e

-- ---- from the nodes of a section to its lines

module _ (netlist : Netlist) (f : Fabric) where
  -- the net in whose section the line after this one is
  abbrev after : Option ℕ → Line → Option ℕ
  after net l = cond (is_net_line l) (net_on netlist l.words) net

  -- one of the lines names the node, in the section of `to`, where the first is in that of `from`
  record IsNamed (a : ℕ) (from to : Option ℕ) (ls : List Line) : Type 0 where
    place : ℕ
    within : place < length ls
    names : node_on f (get_or ls place no_line).words ≡ Some a
    net : fold after from (take place ls) ≡ to

  named_next : (a : ℕ) (from to : Option ℕ) (l : Line) (ls : List Line) → IsNamed a (after from l) to ls → IsNamed a from to (l ∷ ls)
  named_next a from to l ls h = record { place = suc h.place; within = (let w = h.within in omega (arith, w)); names = h.names; net = h.net }

  -- in lines before the next net's
  module _ (a : ℕ) (m : Option ℕ) (l : Line) (ls : List Line) (rest : is_among (filter_map (λ k. node_on f k.words) (lines_before is_net_line ls)) a ≡ true → IsNamed a m m ls) where
    passed : is_net_line l ≡ false → is_among (filter_map (λ k. node_on f k.words) (lines_before is_net_line ls)) a ≡ true → IsNamed a m m (l ∷ ls)
    passed apart e = named_next a m m l ls (subst (λ o. IsNamed a o m ls) (sym (ap (λ b. cond b (net_on netlist l.words) m) apart)) (rest e))

    by_node : (o : Option ℕ) → node_on f l.words ≡ o → is_net_line l ≡ false
        → is_among (cons_option o (filter_map (λ k. node_on f k.words) (lines_before is_net_line ls))) a ≡ true → IsNamed a m m (l ∷ ls)
    by_node None is apart e = passed apart e
    by_node (Some b) is apart e = elim (or_cases (b == a) (is_among (filter_map (λ k. node_on f k.words) (lines_before is_net_line ls)) a) e) [
      | inl same ↦ record { place = 0; within = omega arith; names = is ∙ ap Some (eqb-true b a same); net = refl }
      | inr more ↦ passed apart more
    ]

    by_net : (b : Bool) → is_net_line l ≡ b → is_among (filter_map (λ k. node_on f k.words) (cond b [] (l ∷ lines_before is_net_line ls))) a ≡ true → IsNamed a m m (l ∷ ls)
    by_net true is e = absurd cc
    by_net false is e = by_node (node_on f l.words) refl is e

  before : (a : ℕ) (m : Option ℕ) (ls : List Line) → is_among (filter_map (λ k. node_on f k.words) (lines_before is_net_line ls)) a ≡ true → IsNamed a m m ls
  before a m [] e = absurd cc
  before a m (l ∷ ls) e = by_net a m l ls (before a m ls) (is_net_line l) refl e

  -- after the line of the net
  begun : (n : ℕ) (b : Bool) (o m : Option ℕ) → cond b (is_net n o) false ≡ true → cond b o m ≡ Some n
  begun n true (Some k) m e = ap Some (eqb-true k n e)
  begun n true None m e = absurd cc
  begun n false o m e = absurd cc

  section_by : (n a : ℕ) (m : Option ℕ) (l : Line) (ls : List Line) (b : Bool) → is_line_of netlist n l ≡ b
      → is_among (filter_map (λ k. node_on f k.words) (lines_before is_net_line (cond b ls (lines_after (is_line_of netlist n) ls)))) a ≡ true
      → (is_among (filter_map (λ k. node_on f k.words) (lines_before is_net_line (lines_after (is_line_of netlist n) ls))) a ≡ true → IsNamed a (after m l) (Some n) ls)
      → IsNamed a m (Some n) (l ∷ ls)
  section_by n a m l ls true is e more =
      named_next a m (Some n) l ls (subst (λ o. IsNamed a o (Some n) ls) (sym (begun n (is_net_line l) (net_on netlist l.words) m is)) (before a (Some n) ls e))
  section_by n a m l ls false is e more = named_next a m (Some n) l ls (more e)

  section_names : (n a : ℕ) (m : Option ℕ) (ls : List Line) → is_among (filter_map (λ k. node_on f k.words) (lines_before is_net_line (lines_after (is_line_of netlist n) ls))) a ≡ true
      → IsNamed a m (Some n) ls
  section_names n a m [] e = absurd cc
  section_names n a m (l ∷ ls) e = section_by n a m l ls (is_line_of netlist n l) refl e (section_names n a (after m l) ls)

  names_all : (n a : ℕ) (m : Option ℕ) (ls : List Line) → is_among (nodes_in netlist f ls n) a ≡ true → IsNamed a m (Some n) ls
  unfolding nodes_in section_of
  names_all n a m ls e = section_names n a m ls e

  -- the same in the lines of the file, where two come first
  in_file : (n a : ℕ) (lines : List Line) → 1 < length lines → is_among (nodes_in netlist f (drop 2 lines) n) a ≡ true → IsNamed a None (Some n) lines
  in_file n a [] two e = absurd (omega (arith, two))
  in_file n a (l ∷ []) two e = absurd (omega (arith, two))
  in_file n a (k ∷ l ∷ ls) two e =
      named_next a None (Some n) k (l ∷ ls) (named_next a (after None k) (Some n) l ls (names_all n a (after (after None k) l) ls e))

-- ---- a net that covers a node is one of those that do

covers_here : (p : RoutingProblem) (lists : Lists) (i a : ℕ) → i < length p.nets → covers_by (net_in p.nets i) (list_in lists i) a ≡ true
    → is_user p lists (Some (net_in p.nets i).number) a ≡ true
covers_here p lists i a low covers =
    let test = λ (j : ℕ). covers_by (net_in p.nets j) (list_in lists j) a in
    let number = (net_in p.nets i).number in
    let there = kept_below test (length p.nets) i low covers in
    list_any_at (λ (j : ℕ). (net_in p.nets j).number == number) (nets_on p lists a) there.0 i there.1
    (eq-eqb _ number (ap (λ (j : ℕ). (net_in p.nets j).number) there.2))

-- ---- the line of an explanation

module _ (netlist : Netlist) (p : RoutingProblem) (lines : List Line) (lists : Lists) where
  abbrev uses : List ℕ
  uses = uses_of p lists

  says : (n a k : ℕ) (path : List ℕ) → latest netlist (take k lines) ≡ Some n → node_on p.device (get_or lines k no_line).words ≡ Some a → is_over p.device uses a ≡ true
      → is_user p lists (Some n) a ≡ true → use_text_at path netlist p lists lines k ≡ use_line path netlist p.device (number_at lines k) (Some n) true a
  unfolding use_text_at
  says n a k path net names over user =
      let text = use_text path netlist p lists (number_at lines k) in
      let on : overused_on p.device uses lines k ≡ Some a = ap (if_over p.device uses) names ∙ ap (λ b. cond b (Some a) None) over in
      ap (λ o. text o (overused_on p.device uses lines k)) net
      ∙ ap (text (Some n)) on
      ∙ ap (λ b. use_line path netlist p.device (number_at lines k) (Some n) b a) user

  pub use_line_is : (i a : ℕ) → ReadsRoute netlist p lines lists → i < length p.nets → is_over p.device (uses_of p lists) a ≡ true
      → covers_by (net_in p.nets i) (list_in lists i) a ≡ true → is_at_step (pairs_in (list_in lists i)) a ≡ true → HasUseLine netlist p lines lists i a
  unfolding list_of_net latest
  use_line_is i a reads low over covers stepped =
      let n = (net_in p.nets i).number in
      let nodes = nodes_in netlist p.device (drop 2 lines) n in
      let step : is_at_step (pairs_in (list_along p.device nodes)) a ≡ true = subst (λ l. is_at_step (pairs_in l) a ≡ true) (reads.each_list i low) stepped in
      let named = in_file netlist p.device n a lines (let two = reads.two_lines in omega (arith, two)) (steps_named a p.device nodes step) in
      record {
        place = named.place;
        within = named.within;
        says = λ path. says n a named.place path named.net named.names over (covers_here p lists i a low covers);
      }

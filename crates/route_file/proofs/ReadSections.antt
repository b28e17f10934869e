-- How the sections of a routing grow line by line.
use Rattle.std.proofs.Common.{◌≡◌, ℕ, ◌+◌, ◌≤◌, ◌<◌, Bool, true, false, cond, eqb, ◌||◌, List, [], ◌∷◌, ◌++◌, Option, Some, None, Ok, Err, inl, inr, refl, sym, ap, subst, ◌∙◌, arith, codes}
use Rattle.std.specs.Prelude.{option_and_then}
use Rattle.std.specs.List.{list_any}
use Rattle.std.proofs.lemmas.Bool.{false≢true, eq-eqb, ne_eqb, cases_lt, or_right}
use Rattle.vpr_text.specs.Words.{Line}
use Rattle.vpr_text.specs.Word.{is_at}
use Rattle.net_file.specs.Netlist.{Netlist}
use Rattle.net_file.specs.Routed.{is_routed_at}
use Rattle.rr_graph.specs.Fabric.{Fabric}
use Rattle.route_tree.specs.Paths.{Pair}
use Rattle.route_file.specs.declared.entry.FileEntry.TheVariants as entry
use Rattle.route_file.specs.declared.fault.RouteFileFault.TheVariants.{BadLine}
use Rattle.route_file.specs.declared.node_line.NodeText.{NodeText}
use Rattle.route_file.specs.NetLine.{is_net_line, is_plain_form, is_global_form, is_global_at, net_on}
use Rattle.route_file.specs.NodeWords.{node_words}
use Rattle.route_file.specs.NodeLine.{text_of, node_reported, node_on}
use Rattle.route_file.specs.Sections.{is_net, is_line_of, had_line, latest, lines_after, section_of, nodes_in, list_along, list_of_net}
use Rattle.route_file.specs.Judge.{block_entry, fault_in, judge, line_fault, net_entry, placed_entry, reported_entry, node_entry, is_detached}
use Rattle.route_file.proofs.Growing.{any_push, after_more, after_none_more, latest_more, had_more, section_net, section_other, section_here, nodes_same, nodes_none, nodes_more}

or_none : (a b : Bool) → a ≡ false → b ≡ false → (a || b) ≡ false
or_none a b e g = ap (λ t. t || b) e ∙ g

or_left : (a b : Bool) → (a || b) ≡ true → b ≡ false → a ≡ true
or_left true b e g = refl
or_left false b e g = absurd (false≢true (sym g ∙ e))

module _ (netlist : Netlist) (f : Fabric) (wanted : ℕ → Option (List Pair)) where
  -- the nets before net n are done: no line was of a later one, and the routed ones have their
  -- lists
  pub record AreDone (before : List Line) (n : ℕ) : Type 0 where
    pub none_had : (m : ℕ) → n ≤ m → had_line netlist before m ≡ false
    pub lists : (m : ℕ) → m < n → is_routed_at netlist m ≡ true → list_of_net netlist f before m ≡ wanted m

  -- the lines end in the section of net n, which has these nodes so far
  pub record EndInSection (before : List Line) (n : ℕ) (nodes : List ℕ) : Type 0 where
    pub current : latest netlist before ≡ Some n
    pub had : had_line netlist before n ≡ true
    pub last : list_any is_net_line (lines_after (is_line_of netlist n) before) ≡ false
    pub closed : (m : ℕ) → m < n → had_line netlist before m ≡ true → list_any is_net_line (lines_after (is_line_of netlist m) before) ≡ true
    pub none_had : (m : ℕ) → n < m → had_line netlist before m ≡ false
    pub lists : (m : ℕ) → m < n → is_routed_at netlist m ≡ true → list_of_net netlist f before m ≡ wanted m
    pub nodes_are : nodes_in netlist f before n ≡ nodes

  list_same : (one other : List Line) (m : ℕ) → section_of netlist one m ≡ section_of netlist other m → list_of_net netlist f one m ≡ list_of_net netlist f other m
  unfolding list_of_net
  list_same one other m e = ap (list_along f) (nodes_same netlist f one other m e)

  line_is : (l : Line) (n m : ℕ) → is_net_line l ≡ true → net_on netlist l.words ≡ Some n → is_line_of netlist m l ≡ eqb n m
  line_is l n m is on = ap (λ b. cond b (is_net m (net_on netlist l.words)) false) is ∙ ap (is_net m) on

  line_is_not : (l : Line) (m : ℕ) → is_net_line l ≡ false → is_line_of netlist m l ≡ false
  line_is_not l m is = ap (λ b. cond b (is_net m (net_on netlist l.words)) false) is

  after_pushed : (before : List Line) (l : Line) (m : ℕ) → had_line netlist before m ≡ true
      → list_any is_net_line (lines_after (is_line_of netlist m) (before ++ l ∷ [])) ≡ (list_any is_net_line (lines_after (is_line_of netlist m) before) || is_net_line l)
  unfolding had_line
  after_pushed before l m h = ap (list_any is_net_line) (after_more (is_line_of netlist m) before l h) ∙ any_push is_net_line (lines_after (is_line_of netlist m) before) l

  none_after : (before : List Line) (l : Line) (n : ℕ) → had_line netlist before n ≡ false → list_any is_net_line (lines_after (is_line_of netlist n) (before ++ l ∷ [])) ≡ false
  unfolding had_line
  none_after before l n h = ap (list_any is_net_line) (after_none_more (is_line_of netlist n) before l h)

  -- the line of a net begins its section
  pub begins : (before : List Line) (n : ℕ) (l : Line) → AreDone before n → is_net_line l ≡ true → net_on netlist l.words ≡ Some n → EndInSection (before ++ l ∷ []) n []
  begins before n l h is on = record {
    current = latest_more netlist before l ∙ (ap (λ b. cond b (net_on netlist l.words) (latest netlist before)) is ∙ on);
    had = had_more netlist before l n ∙ or_right (had_line netlist before n) (is_line_of netlist n l) (line_is l n n is on ∙ eq-eqb n n refl);
    last = none_after before l n (h.none_had n (omega arith));
    closed = λ m lt had.
        let other : is_line_of netlist m l ≡ false = line_is l n m is on ∙ ne_eqb n m (λ e. omega arith) in
        let there = or_left (had_line netlist before m) (is_line_of netlist m l) (sym (had_more netlist before l m) ∙ had) other in
        after_pushed before l m there ∙ or_right (list_any is_net_line (lines_after (is_line_of netlist m) before)) (is_net_line l) is;
    none_had = λ m lt. had_more netlist before l m ∙ or_none (had_line netlist before m) (is_line_of netlist m l) (h.none_had m (omega arith)) (line_is l n m is on ∙ ne_eqb n m (λ e. omega arith));
    lists = λ m lt routed. list_same (before ++ l ∷ []) before m (section_net netlist before l m is) ∙ h.lists m lt routed;
    nodes_are = nodes_same netlist f (before ++ l ∷ []) before n (section_net netlist before l n is) ∙ nodes_none netlist f before n (h.none_had n (omega arith));
  }

  -- another line goes on with it
  pub goes_on : (before : List Line) (n : ℕ) (l : Line) (nodes later : List ℕ) → EndInSection before n nodes → is_net_line l ≡ false → nodes_in netlist f (before ++ l ∷ []) n ≡ later → EndInSection (before ++ l ∷ []) n later
  goes_on before n l nodes later h is e =
      let had_same = λ (m : ℕ). had_more netlist before l m in
      let closed_before = λ (m : ℕ) (had : had_line netlist (before ++ l ∷ []) m ≡ true). or_left (had_line netlist before m) (is_line_of netlist m l) (sym (had_same m) ∙ had) (line_is_not l m is) in
      record {
        current = latest_more netlist before l ∙ (ap (λ b. cond b (net_on netlist l.words) (latest netlist before)) is ∙ h.current);
        had = had_same n ∙ ap (λ t. t || is_line_of netlist n l) h.had;
        last = after_pushed before l n h.had ∙ or_none (list_any is_net_line (lines_after (is_line_of netlist n) before)) (is_net_line l) h.last is;
        closed = λ m lt had.
            let there = closed_before m had in
            after_pushed before l m there ∙ ap (λ t. t || is_net_line l) (h.closed m lt there);
        none_had = λ m lt. had_same m ∙ or_none (had_line netlist before m) (is_line_of netlist m l) (h.none_had m lt) (line_is_not l m is);
        lists = λ m lt routed. list_same (before ++ l ∷ []) before m (section_other netlist before l m (h.closed m lt)) ∙ h.lists m lt routed;
        nodes_are = e;
      }

  pub node_goes_on : (before : List Line) (n : ℕ) (l : Line) (nodes : List ℕ) (a : ℕ) → EndInSection before n nodes → is_net_line l ≡ false → node_on f l.words ≡ Some a → EndInSection (before ++ l ∷ []) n (nodes ++ a ∷ [])
  node_goes_on before n l nodes a h is node =
      goes_on before n l nodes (nodes ++ a ∷ []) h is
      (nodes_more netlist f before l n a (section_here netlist before l n is h.had h.last) node ∙ ap (λ (ns : List ℕ). ns ++ a ∷ []) h.nodes_are)

  -- the section is whole, and its list is the wanted one
  pub ends : (before : List Line) (n : ℕ) (nodes : List ℕ) → EndInSection before n nodes → (is_routed_at netlist n ≡ true → list_along f nodes ≡ wanted n) → AreDone before (n + 1)
  unfolding list_of_net
  ends before n nodes h list = record {
    none_had = λ m le. h.none_had m (omega arith);
    lists = λ m lt. elim (cases_lt m n) [
      | inl below ↦ h.lists m below
      | inr above ↦
          let same : n ≡ m = omega arith in
          subst (λ k. is_routed_at netlist k ≡ true → list_along f (nodes_in netlist f before k) ≡ wanted k) same (λ routed. ap (list_along f) h.nodes_are ∙ list routed)
    ];
  }

  -- net n has no line
  pub passes : (before : List Line) (n : ℕ) → AreDone before n → (is_routed_at netlist n ≡ true → None ≡ wanted n) → AreDone before (n + 1)
  unfolding list_of_net
  passes before n h list = record {
    none_had = λ m le. h.none_had m (omega arith);
    lists = λ m lt. elim (cases_lt m n) [
      | inl below ↦ h.lists m below
      | inr above ↦
          let same : n ≡ m = omega arith in
          subst (λ k. is_routed_at netlist k ≡ true → list_along f (nodes_in netlist f before k) ≡ wanted k) same
          (λ routed. ap (list_along f) (nodes_none netlist f before n (h.none_had n (omega arith))) ∙ list routed)
    ];
  }

  -- ---- the lines are without a fault

  pub net_accepted : (before : List Line) (n : ℕ) (l : Line) → AreDone before n → is_net_line l ≡ true → (is_plain_form l.words || is_global_form l.words) ≡ true → net_on netlist l.words ≡ Some n → line_fault netlist f before l ≡ None
  unfolding judge net_entry
  net_accepted before n l h is form on = rw (is, form, on, h.none_had n (omega arith)) refl

  told_by : (detached : ℕ → Bool) (line a : ℕ) (o : Option NodeText) → option_and_then (node_reported f) o ≡ Some a → reported_entry f detached line o ≡ placed_entry detached line (Some a)
  told_by detached line a None e = absurd cc
  told_by detached line a (Some t) e = ap (placed_entry detached line) e

  node_entered : (detached : ℕ → Bool) (line a : ℕ) (words : List (List ℕ)) → node_on f words ≡ Some a → detached a ≡ false → node_entry f detached line words ≡ Ok (entry.NodeLine a)
  unfolding node_entry node_on
  node_entered detached line a words e free = told_by detached line a (text_of (node_words words)) e ∙ rw free refl

  pub node_accepted : (before : List Line) (n : ℕ) (l : Line) (nodes : List ℕ) (a : ℕ) → EndInSection before n nodes → is_net_line l ≡ false → is_global_at netlist n ≡ false → is_routed_at netlist n ≡ true
      → node_on f l.words ≡ Some a → is_detached f nodes a ≡ false → line_fault netlist f before l ≡ None
  unfolding judge
  node_accepted before n l nodes a h is other routed node free =
      let attached : is_detached f (nodes_in netlist f before n) a ≡ false = ap (λ (ns : List ℕ). is_detached f ns a) h.nodes_are ∙ free in
      let entered = node_entry f (is_detached f (nodes_in netlist f before n)) l.number l.words in
      rw (is, h.current)
      (ap (λ b. fault_in (cond b (block_entry l.number l.words) (cond (is_routed_at netlist n) entered (Err (BadLine l.number))))) other
      ∙ (ap (λ b. fault_in (cond b entered (Err (BadLine l.number)))) routed
      ∙ ap fault_in (node_entered (is_detached f (nodes_in netlist f before n)) l.number a l.words node attached)))

  pub block_accepted : (before : List Line) (n : ℕ) (l : Line) (nodes : List ℕ) → EndInSection before n nodes → is_net_line l ≡ false → is_global_at netlist n ≡ true → is_at l.words 0 (codes "Block") ≡ true
      → line_fault netlist f before l ≡ None
  unfolding judge
  block_accepted before n l nodes h is global block =
      let entered = node_entry f (is_detached f (nodes_in netlist f before n)) l.number l.words in
      rw (is, h.current)
      (ap (λ b. fault_in (cond b (block_entry l.number l.words) (cond (is_routed_at netlist n) entered (Err (BadLine l.number))))) global
      ∙ ap (λ b. fault_in (cond b (Ok entry.BlockLine) (Err (BadLine l.number)))) block)

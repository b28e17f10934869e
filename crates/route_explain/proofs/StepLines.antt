-- The line of a step names the node at which the step ends.
use Rattle.std.proofs.Common.{◌≡◌, ℕ, ◌-◌, ◌<◌, zero, suc, Bool, true, false, cond, eqb, ◌&&◌, ◌==◌, List, [], ◌∷◌, length, filter_map, Option, Some, None, refl, sym, ap, subst, ◌∙◌, arith}
use Rattle.std.specs.Prelude.{not, is_some}
use Rattle.std.proofs.lemmas.Bool.{ne_eqb}
use Rattle.std.specs.List.{cons_option}
use Rattle.std.specs.Option.{option_or}
use Rattle.vpr_text.specs.Words.{Line}
use Rattle.rr_graph.specs.Fabric.{Fabric}
use Rattle.rr_graph.specs.Problems.{is_sink}
use Rattle.route_file.specs.NetLine.{is_net_line}
use Rattle.route_file.specs.NodeLine.{node_on}
use Rattle.route_file.specs.Sections.{lines_before, pairs_along}
use Rattle.route_explain.specs.Lines.{ends_step, first_node_line, left_after, step_line}
use Rattle.route_explain.specs.Steps.{pair_at}
use Rattle.route_explain.specs.LinesNamed.{IsLineOf, nodes_from, pairs_from}

module _ (f : Fabric) where
  abbrev node : Line → Option ℕ
  node l = node_on f l.words

  abbrev nodes : List Line → List ℕ
  nodes ls = nodes_from f ls

  next : (l : Line) (ls : List Line) (number a : ℕ) → is_net_line l ≡ false → IsLineOf f ls number a → IsLineOf f (l ∷ ls) number a
  next l ls number a apart h =
      record {
        place = suc h.place;
        within = subst (λ b. suc h.place < length (cond b [] (l ∷ lines_before is_net_line ls))) (sym apart) (let w = h.within in omega (arith, w));
        numbered = h.numbered;
        names = h.names;
      }

  here : (l : Line) (ls : List Line) (a : ℕ) → is_net_line l ≡ false → node l ≡ Some a → IsLineOf f (l ∷ ls) l.number a
  here l ls a apart is =
      record {
        place = 0;
        within = subst (λ b. 0 < length (cond b [] (l ∷ lines_before is_net_line ls))) (sym apart) (omega arith);
        numbered = refl;
        names = is;
      }

  -- ---- the step before which so many others end, after a node

  none : {P : Type 0} (last : Option ℕ) (left : ℕ) → left < length (pairs_along f (cons_option last [])) → P
  unfolding pairs_along
  none None left h = absurd (omega (arith, h))
  none (Some x) left h = absurd (omega (arith, h))

  module _ (l : Line) (ls : List Line) (later : (last : Option ℕ) (left : ℕ) → left < length (pairs_along f (cons_option last (nodes ls)))
      → IsLineOf f ls (step_line f last left ls) (pair_at (pairs_along f (cons_option last (nodes ls))) left).1) where
    -- where the last node is a sink or not
    by_sink : (x b : ℕ) (s : Bool) (left : ℕ) → node l ≡ Some b → is_net_line l ≡ false
        → left < length (cond (not s) ((x, b) ∷ pairs_along f (b ∷ nodes ls)) (pairs_along f (b ∷ nodes ls)))
        → IsLineOf f (l ∷ ls) (cond (not s && left == 0) l.number (step_line f (Some b) (left_after (not s) left) ls))
        (pair_at (cond (not s) ((x, b) ∷ pairs_along f (b ∷ nodes ls)) (pairs_along f (b ∷ nodes ls))) left).1
    by_sink x b true left is apart h = next l ls _ _ apart (later (Some b) left h)
    by_sink x b false zero is apart h = here l ls b apart is
    by_sink x b false (suc k) is apart h =
        let back : suc k - 1 ≡ k = omega arith in
        let more : eqb (suc k) 0 ≡ false = ne_eqb (suc k) 0 (λ e. absurd (omega (arith, e))) in
        let line = subst (λ m. IsLineOf f (l ∷ ls) (step_line f (Some b) m ls) (pair_at (pairs_along f (b ∷ nodes ls)) k).1) (sym back)
        (next l ls _ _ apart (later (Some b) k (omega (arith, h)))) in
        subst (λ t. IsLineOf f (l ∷ ls) (cond t l.number (step_line f (Some b) (suc k - 1) ls)) (pair_at (pairs_along f (b ∷ nodes ls)) k).1) (sym more) line

    by_node : (o last : Option ℕ) (left : ℕ) → node l ≡ o → is_net_line l ≡ false → left < length (pairs_along f (cons_option last (cons_option o (nodes ls))))
        → IsLineOf f (l ∷ ls) (cond (ends_step f last o && left == 0) l.number (step_line f (option_or o last) (left_after (ends_step f last o) left) ls))
        (pair_at (pairs_along f (cons_option last (cons_option o (nodes ls)))) left).1
    unfolding pairs_along
    by_node None None left is apart h = next l ls _ _ apart (later None left h)
    by_node None (Some x) left is apart h = next l ls _ _ apart (later (Some x) left h)
    by_node (Some b) None left is apart h = next l ls _ _ apart (later (Some b) left h)
    by_node (Some b) (Some x) left is apart h = by_sink x b (is_sink f x) left is apart h

    by_net : (b : Bool) (last : Option ℕ) (left : ℕ) → is_net_line l ≡ b
        → left < length (pairs_along f (cons_option last (filter_map node (cond b [] (l ∷ lines_before is_net_line ls)))))
        → IsLineOf f (l ∷ ls) (cond b 0 (cond (ends_step f last (node l) && left == 0) l.number (step_line f (option_or (node l) last) (left_after (ends_step f last (node l)) left) ls)))
        (pair_at (pairs_along f (cons_option last (filter_map node (cond b [] (l ∷ lines_before is_net_line ls))))) left).1
    by_net true last left is h = none last left h
    by_net false last left is h = by_node (node l) last left refl is h

  step_names : (ls : List Line) (last : Option ℕ) (left : ℕ) → left < length (pairs_along f (cons_option last (nodes ls)))
      → IsLineOf f ls (step_line f last left ls) (pair_at (pairs_along f (cons_option last (nodes ls))) left).1
  step_names [] last left h = none last left h
  step_names (l ∷ ls) last left h = by_net l ls (step_names ls) (is_net_line l) last left refl h

  pub step_is : (ls : List Line) (row : ℕ) → row < length (pairs_from f ls) → IsLineOf f ls (step_line f None row ls) (pair_at (pairs_from f ls) row).1
  step_is ls row h = step_names ls None row h

  -- ---- the first node

  same_first : (a b : ℕ) (xs ys : List ℕ) → a ∷ xs ≡ b ∷ ys → a ≡ b
  same_first a b xs ys e = cc

  module _ (l : Line) (ls : List Line) (a : ℕ) (rest : List ℕ) (later : nodes ls ≡ a ∷ rest → IsLineOf f ls (first_node_line f ls) a) where
    first_by_node : (o : Option ℕ) → node l ≡ o → is_net_line l ≡ false → cons_option o (nodes ls) ≡ a ∷ rest
        → IsLineOf f (l ∷ ls) (cond (is_some o) l.number (first_node_line f ls)) a
    first_by_node None is apart e = next l ls _ _ apart (later e)
    first_by_node (Some b) is apart e = here l ls a apart (is ∙ ap Some (same_first b a (nodes ls) rest e))

    first_by_net : (b : Bool) → is_net_line l ≡ b → filter_map node (cond b [] (l ∷ lines_before is_net_line ls)) ≡ a ∷ rest
        → IsLineOf f (l ∷ ls) (cond b 0 (cond (is_some (node l)) l.number (first_node_line f ls))) a
    first_by_net true is e = absurd cc
    first_by_net false is e = first_by_node (node l) refl is e

  pub first_is : (ls : List Line) (a : ℕ) (rest : List ℕ) → nodes ls ≡ a ∷ rest → IsLineOf f ls (first_node_line f ls) a
  first_is [] a rest e = absurd cc
  first_is (l ∷ ls) a rest e = first_by_net l ls a rest (first_is ls a rest) (is_net_line l) refl e

-- The nodes that are named for a list of pairs are read as these pairs.
use Rattle.std.proofs.Common.{◌≡◌, ℕ, Bool, true, false, cond, eqb, not, ◌&&◌, ◌||◌, List, [], ◌∷◌, ◌++◌, Option, Some, None, refl, sym, ap, subst, ◌∙◌}
use Rattle.std.specs.Prelude.{filter}
use Rattle.std.specs.List.{AllByRecursion, last_or}
use Rattle.std.specs.Option.{option_map_or}
use Rattle.std.proofs.lemmas.Bool.{false≢true, eqb-true, eq-eqb, and_parts, or_left}
use Rattle.std.proofs.Math.Bool.{and-false}
use Rattle.rr_graph.specs.Fabric.{Fabric}
use Rattle.rr_graph.specs.Problems.{is_sink}
use Rattle.route_tree.specs.Paths.{Pair}
use Rattle.route_tree.specs.Legality.{is_among, may_begin, is_listed_after}
use Rattle.route_file.specs.PrintedNodes.{nodes_for, nodes_after, printed_nodes}
use Rattle.route_file.specs.Sections.{neighbours, pairs_along}
use Rattle.route_file.specs.Judge.{is_detached}

-- no pair begins at a sink
abbrev pub LeaveSinks : Fabric → List Pair → Type 0
LeaveSinks f pairs = AllByRecursion (λ p. is_sink f p.0 ≡ false) pairs

abbrev keeps : Fabric → Pair → Bool
keeps f p = not (is_sink f p.0)

abbrev kept : Fabric → List ℕ → List Pair
kept f nodes = filter (keeps f) (neighbours nodes)

-- each node may stand after those before it
abbrev pub AreAttached : Fabric → (before nodes : List ℕ) → Type 0
AreAttached f before [] = Unit {0}
AreAttached f before (a ∷ nodes) = (is_detached f before a ≡ false) × AreAttached f (before ++ a ∷ []) nodes

either : (a b : Bool) → (a || b) ≡ true → a ≡ false → b ≡ true
either true b e f = absurd (false≢true (sym f))
either false b e f = e

-- how a pair stands to the end of the one before it
data Joint (f : Fabric) (e : ℕ) (p : Pair) : Type 0 where
  goes : p.0 ≡ e → eqb p.0 e ≡ true → is_sink f e ≡ false → Joint f e p
  joins : is_sink f e ≡ true → Joint f e p

joint_by : (f : Fabric) (e : ℕ) (p : Pair) (t s : Bool) → eqb p.0 e ≡ t → is_sink f e ≡ s → (eqb e p.0 ≡ false → is_sink f e ≡ true) → Joint f e p
joint_by f e p t true te se h = joins se
joint_by f e p true false te se h = goes (eqb-true p.0 e te) te se
joint_by f e p false false te se h = absurd (false≢true (sym se ∙ h (turned e p.0 te)))
  where
    same_test : (a b : ℕ) (t : Bool) → eqb a b ≡ t → eqb b a ≡ false → t ≡ false
    same_test a b true h k = absurd (false≢true (sym k ∙ eq-eqb b a (sym (eqb-true a b h))))
    same_test a b false h k = refl

    turned : (a b : ℕ) → eqb b a ≡ false → eqb a b ≡ false
    turned a b h = same_test a b (eqb a b) refl h

joint : (f : Fabric) (source e : ℕ) (es : List ℕ) (p : Pair) → may_begin f source (e ∷ es) p.0 ≡ true → Joint f e p
joint f source e es p h =
    joint_by f e p (eqb p.0 e) (is_sink f e) refl refl
    (λ apart. (and_parts (is_sink f e) (is_among (source ∷ e ∷ es) p.0) (either (eqb e p.0) (is_sink f e && is_among (source ∷ e ∷ es) p.0) h apart)).0)

kept_pair : (f : Fabric) (a b : ℕ) (rest : List ℕ) → is_sink f a ≡ false → kept f (a ∷ b ∷ rest) ≡ (a, b) ∷ kept f (b ∷ rest)
kept_pair f a b rest e = ap (λ s. cond (not s) ((a, b) ∷ kept f (b ∷ rest)) (kept f (b ∷ rest))) e

dropped_pair : (f : Fabric) (a b : ℕ) (rest : List ℕ) → is_sink f a ≡ true → kept f (a ∷ b ∷ rest) ≡ kept f (b ∷ rest)
dropped_pair f a b rest e = ap (λ s. cond (not s) ((a, b) ∷ kept f (b ∷ rest)) (kept f (b ∷ rest))) e

second_alone : (f : Fabric) (e : ℕ) (p : Pair) → eqb p.0 e ≡ true → is_sink f e ≡ false → nodes_for f (Some e) p ≡ p.1 ∷ []
second_alone f e p te se = ap (λ t. cond (t && not (is_sink f e)) (p.1 ∷ []) (p.0 ∷ p.1 ∷ [])) te ∙ ap (λ s. cond (not s) (p.1 ∷ []) (p.0 ∷ p.1 ∷ [])) se

both_nodes : (f : Fabric) (e : ℕ) (p : Pair) → is_sink f e ≡ true → nodes_for f (Some e) p ≡ p.0 ∷ p.1 ∷ []
both_nodes f e p se =
    ap (λ s. cond (eqb p.0 e && not s) (p.1 ∷ []) (p.0 ∷ p.1 ∷ [])) se ∙ ap (λ t. cond t (p.1 ∷ []) (p.0 ∷ p.1 ∷ [])) (and-false (eqb p.0 e))

one_more : (f : Fabric) (e : ℕ) (p : Pair) (ps : List Pair) → is_sink f p.0 ≡ false → Joint f e p → kept f (p.1 ∷ nodes_after f (Some p.1) ps) ≡ ps → kept f (e ∷ nodes_after f (Some e) (p ∷ ps)) ≡ p ∷ ps
one_more f e p ps leaves (goes same te se) h =
    let rest = nodes_after f (Some p.1) ps in
    ap (λ (ns : List ℕ). kept f (e ∷ (ns ++ rest))) (second_alone f e p te se)
    ∙ (kept_pair f e p.1 rest se ∙ (ap (λ (a : ℕ). (a, p.1) ∷ kept f (p.1 ∷ rest)) (sym same) ∙ ap (λ (qs : List Pair). p ∷ qs) h))
one_more f e p ps leaves (joins se) h =
    let rest = nodes_after f (Some p.1) ps in
    ap (λ (ns : List ℕ). kept f (e ∷ (ns ++ rest))) (both_nodes f e p se)
    ∙ (dropped_pair f e p.0 (p.1 ∷ rest) se ∙ (kept_pair f p.0 p.1 rest leaves ∙ ap (λ (qs : List Pair). p ∷ qs) h))

pub pairs_after : (f : Fabric) (source e : ℕ) (es : List ℕ) (pairs : List Pair) → LeaveSinks f pairs → is_listed_after f source (e ∷ es) pairs ≡ true → kept f (e ∷ nodes_after f (Some e) pairs) ≡ pairs
pairs_after f source e es [] leaves listed = refl
pairs_after f source e es (p ∷ ps) leaves listed =
    let h = and_parts (may_begin f source (e ∷ es) p.0) (is_listed_after f source (p.1 ∷ e ∷ es) ps) listed in
    one_more f e p ps leaves.0 (joint f source e es p h.0) (pairs_after f source p.1 (e ∷ es) ps leaves.1 h.1)

-- the nodes that are named for a list that is in order, and leaves no sink, are read as the list
pub pairs_read : (f : Fabric) (source : ℕ) (p : Pair) (ps : List Pair) → LeaveSinks f (p ∷ ps) → is_listed_after f source [] (p ∷ ps) ≡ true → pairs_along f (printed_nodes f (p ∷ ps)) ≡ p ∷ ps
unfolding pairs_along
pairs_read f source p ps leaves listed =
    let h = and_parts (may_begin f source [] p.0) (is_listed_after f source (p.1 ∷ []) ps) listed in
    kept_pair f p.0 p.1 (nodes_after f (Some p.1) ps) leaves.0 ∙ ap (λ (qs : List Pair). p ∷ qs) (pairs_after f source p.1 [] ps leaves.1 h.1)

-- ---- no node is detached

-- these are among those
abbrev Covers : (all some : List ℕ) → Type 0
Covers all some = (a : ℕ) → is_among some a ≡ true → is_among all a ≡ true

among_append : (xs : List ℕ) (c a : ℕ) → is_among (xs ++ c ∷ []) a ≡ (is_among xs a || (eqb c a || false))
among_append [] c a = refl
among_append (x ∷ xs) c a = ap (λ t. eqb x a || t) (among_append xs c a) ∙ regrouped (eqb x a) (is_among xs a) (eqb c a || false)
  where
    regrouped : (x y z : Bool) → (x || (y || z)) ≡ ((x || y) || z)
    regrouped true y z = refl
    regrouped false y z = refl

still_among : (xs : List ℕ) (c a : ℕ) → is_among xs a ≡ true → is_among (xs ++ c ∷ []) a ≡ true
still_among xs c a e = among_append xs c a ∙ or_left (is_among xs a) (eqb c a || false) e

now_among_by : (x y z w : Bool) → ((x || z) ≡ true → w ≡ true) → (x || (y || z)) ≡ true → (w || (y || false)) ≡ true
now_among_by x true z true h e = refl
now_among_by x true z false h e = refl
now_among_by x false z w h e = or_left w false (h e)

covers_next : (before : List ℕ) (s c : ℕ) (xs : List ℕ) → Covers before (s ∷ xs) → Covers (before ++ c ∷ []) (s ∷ c ∷ xs)
covers_next before s c xs h a e = among_append before c a ∙ now_among_by (eqb s a) (eqb c a) (is_among xs a) (is_among before a) (h a) e

last_append : (o : Option ℕ) (xs : List ℕ) (c : ℕ) → last_or o (xs ++ c ∷ []) ≡ Some c
last_append o [] c = refl
last_append o (x ∷ xs) c = last_append (Some x) xs c

free : (f : Fabric) (before : List ℕ) (e a : ℕ) → last_or None before ≡ Some e → is_sink f e ≡ false → is_detached f before a ≡ false
unfolding is_detached
free f before e a last se =
    ap (λ o. option_map_or (is_sink f) o false && not (is_among before a)) last ∙ ap (λ t. t && not (is_among before a)) se

tied : (f : Fabric) (before : List ℕ) (a : ℕ) → is_among before a ≡ true → is_detached f before a ≡ false
unfolding is_detached
tied f before a among =
    ap (λ t. option_map_or (is_sink f) (last_or None before) false && not t) among ∙ and-false (option_map_or (is_sink f) (last_or None before) false)

-- after nodes that end with `e` and have the source and all ends so far, the nodes of a pair are
-- attached
attached_by : (f : Fabric) (e : ℕ) (p : Pair) (before later : List ℕ) → is_sink f p.0 ≡ false → last_or None before ≡ Some e → is_among before p.0 ≡ true → Joint f e p
    → AreAttached f (before ++ p.1 ∷ []) later → AreAttached f ((before ++ p.0 ∷ []) ++ p.1 ∷ []) later → AreAttached f before (nodes_for f (Some e) p ++ later)
attached_by f e p before later leaves last among (goes same te se) h k =
    subst (λ (ns : List ℕ). AreAttached f before (ns ++ later)) (sym (second_alone f e p te se)) (free f before e p.1 last se, h)
attached_by f e p before later leaves last among (joins se) h k =
    subst (λ (ns : List ℕ). AreAttached f before (ns ++ later)) (sym (both_nodes f e p se))
    (tied f before p.0 among, (free f (before ++ p.0 ∷ []) p.0 p.1 (last_append None before p.0) leaves, k))

-- a pair begins at one of the nodes before
begins_among : (f : Fabric) (source e : ℕ) (es : List ℕ) (p : Pair) (before : List ℕ) → may_begin f source (e ∷ es) p.0 ≡ true → Covers before (source ∷ e ∷ es) → is_among before p.0 ≡ true
begins_among f source e es p before h covers = covers p.0 (among_by (eqb source p.0) (eqb e p.0) (is_sink f e) (is_among es p.0) h)
  where
    among_by : (x y s z : Bool) → (y || (s && (x || (y || z)))) ≡ true → (x || (y || z)) ≡ true
    among_by true y s z e = refl
    among_by false true s z e = refl
    among_by false false true z e = e
    among_by false false false z e = absurd (false≢true e)

covers_again : (before : List ℕ) (c : ℕ) (xs : List ℕ) → Covers before xs → Covers (before ++ c ∷ []) xs
covers_again before c xs h a e = still_among before c a (h a e)

attached_after : (f : Fabric) (source e : ℕ) (es : List ℕ) (pairs : List Pair) (before : List ℕ) → LeaveSinks f pairs → is_listed_after f source (e ∷ es) pairs ≡ true
    → last_or None before ≡ Some e → Covers before (source ∷ e ∷ es) → AreAttached f before (nodes_after f (Some e) pairs)
attached_after f source e es [] before leaves listed last covers = tt
attached_after f source e es (p ∷ ps) before leaves listed last covers =
    let h = and_parts (may_begin f source (e ∷ es) p.0) (is_listed_after f source (p.1 ∷ e ∷ es) ps) listed in
    let later = nodes_after f (Some p.1) ps in
    attached_by f e p before later leaves.0 last (begins_among f source e es p before h.0 covers) (joint f source e es p h.0)
    (attached_after f source p.1 (e ∷ es) ps (before ++ p.1 ∷ []) leaves.1 h.1 (last_append None before p.1) (covers_next before source p.1 (e ∷ es) covers))
    (attached_after f source p.1 (e ∷ es) ps ((before ++ p.0 ∷ []) ++ p.1 ∷ []) leaves.1 h.1 (last_append None (before ++ p.0 ∷ []) p.1)
    (covers_next (before ++ p.0 ∷ []) source p.1 (e ∷ es) (covers_again before p.0 (source ∷ e ∷ es) covers)))

-- the nodes that are named for a list in order are those of a section: after a sink stands a node
-- that stood there before
pub nodes_attached : (f : Fabric) (source : ℕ) (p : Pair) (ps : List Pair) → LeaveSinks f (p ∷ ps) → is_listed_after f source [] (p ∷ ps) ≡ true → AreAttached f [] (printed_nodes f (p ∷ ps))
unfolding is_detached
nodes_attached f source p ps leaves listed =
    let h = and_parts (may_begin f source [] p.0) (is_listed_after f source (p.1 ∷ []) ps) listed in
    let begins : p.0 ≡ source = eqb-true p.0 source h.0 in
    let covers : Covers (p.0 ∷ p.1 ∷ []) (source ∷ p.1 ∷ []) = subst (λ (s : ℕ). Covers (p.0 ∷ p.1 ∷ []) (s ∷ p.1 ∷ [])) begins (λ a e. e) in
    (refl, (free f (p.0 ∷ []) p.0 p.1 refl leaves.0, attached_after f source p.1 [] ps (p.0 ∷ p.1 ∷ []) leaves.1 h.1 refl covers))

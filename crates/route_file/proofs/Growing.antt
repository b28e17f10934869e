-- Lines with a line more: which net they end in, and the sections of the nets.
use Rattle.std.proofs.Common.{◌≡◌, ℕ, Bool, true, false, not, ◌||◌, cond, eqb, List, [], ◌∷◌, ◌++◌, filter_map, Option, Some, None, refl, sym, ap, ◌∙◌}
use Rattle.std.specs.Prelude.{filter}
use Rattle.std.specs.List.{list_any, last_or, cons_option}
use Rattle.std.specs.Option.{option_to_list}
use Rattle.std.proofs.lemmas.Bool.{or_left, or_right}
use Rattle.std.proofs.lemmas.List.Elements.{filter-append, filter_map-append}
use Rattle.std.proofs.lemmas.List.Folds.{list_any-append}
use Rattle.std.proofs.lemmas.List.Sums.{fold_push}
use Rattle.std.proofs.Math.Bool.{or-false}
use Rattle.vpr_text.specs.Words.{Line}
use Rattle.net_file.specs.Netlist.{Netlist}
use Rattle.rr_graph.specs.Fabric.{Fabric}
use Rattle.rr_graph.specs.Problems.{is_sink}
use Rattle.route_tree.specs.Legality.{is_among}
use Rattle.route_tree.specs.Paths.{Pair}
use Rattle.route_file.specs.NetLine.{is_net_line, net_on}
use Rattle.route_file.specs.NodeLine.{node_on}
use Rattle.route_file.specs.kept.LinesSeen.{pair_after, list_more}
use Rattle.route_file.specs.Sections.{is_line_of, had_line, latest, lines_after, lines_before, section_of, nodes_in, neighbours, pairs_along, list_along}

pub any_push : {X : Type 0} (p : X → Bool) (xs : List X) (x : X) → list_any p (xs ++ x ∷ []) ≡ (list_any p xs || p x)
any_push p xs x = list_any-append p xs (x ∷ []) ∙ ap (λ t. list_any p xs || t) (or-false (p x))

-- ---- the lines after one that passes, and before one

after_by : (p : Line → Bool) (t : Bool) (xs : List Line) (l : Line) → (t || list_any p xs) ≡ true → (list_any p xs ≡ true → lines_after p (xs ++ l ∷ []) ≡ lines_after p xs ++ l ∷ [])
    → cond t (xs ++ l ∷ []) (lines_after p (xs ++ l ∷ [])) ≡ cond t xs (lines_after p xs) ++ l ∷ []
after_by p true xs l e h = refl
after_by p false xs l e h = h e

pub after_more : (p : Line → Bool) (xs : List Line) (l : Line) → list_any p xs ≡ true → lines_after p (xs ++ l ∷ []) ≡ lines_after p xs ++ l ∷ []
after_more p [] l e = absurd cc
after_more p (x ∷ xs) l e = after_by p (p x) xs l e (after_more p xs l)

none_by : (p : Line → Bool) (t : Bool) (ys zs : List Line) (b : Bool) → (t || b) ≡ false → (b ≡ false → zs ≡ []) → cond t ys zs ≡ []
none_by p true ys zs b e h = absurd cc
none_by p false ys zs b e h = h e

pub after_none : (p : Line → Bool) (xs : List Line) → list_any p xs ≡ false → lines_after p xs ≡ []
after_none p [] e = refl
after_none p (x ∷ xs) e = none_by p (p x) xs (lines_after p xs) (list_any p xs) e (after_none p xs)

nothing : (b : Bool) → cond b [] [] ≡ (let none : List Line = [] in none)
nothing true = refl
nothing false = refl

pub after_none_more : (p : Line → Bool) (xs : List Line) (l : Line) → list_any p xs ≡ false → lines_after p (xs ++ l ∷ []) ≡ []
after_none_more p [] l e = nothing (p l)
after_none_more p (x ∷ xs) l e = none_by p (p x) (xs ++ l ∷ []) (lines_after p (xs ++ l ∷ [])) (list_any p xs) e (after_none_more p xs l)

onto : (b : Bool) (x : Line) (ys zs : List Line) → x ∷ cond b ys zs ≡ cond b (x ∷ ys) (x ∷ zs)
onto true x ys zs = refl
onto false x ys zs = refl

before_by : (p : Line → Bool) (t : Bool) (x : Line) (xs : List Line) (l : Line) → lines_before p (xs ++ l ∷ []) ≡ cond (list_any p xs || p l) (lines_before p xs) (lines_before p xs ++ l ∷ [])
    → cond t [] (x ∷ lines_before p (xs ++ l ∷ [])) ≡ cond ((t || list_any p xs) || p l) (cond t [] (x ∷ lines_before p xs)) (cond t [] (x ∷ lines_before p xs) ++ l ∷ [])
before_by p true x xs l h = refl
before_by p false x xs l h = ap (λ ys. x ∷ ys) h ∙ onto (list_any p xs || p l) x (lines_before p xs) (lines_before p xs ++ l ∷ [])

pub before_more : (p : Line → Bool) (xs : List Line) (l : Line) → lines_before p (xs ++ l ∷ []) ≡ cond (list_any p xs || p l) (lines_before p xs) (lines_before p xs ++ l ∷ [])
before_more p [] l = refl
before_more p (x ∷ xs) l = before_by p (p x) x xs l (before_more p xs l)

-- ---- the net of the last line, and whether a net had a line

pub latest_more : (netlist : Netlist) (before : List Line) (l : Line) → latest netlist (before ++ l ∷ []) ≡ cond (is_net_line l) (net_on netlist l.words) (latest netlist before)
unfolding latest
latest_more netlist before l = fold_push (λ net k. cond (is_net_line k) (net_on netlist k.words) net) None before l

pub had_more : (netlist : Netlist) (before : List Line) (l : Line) (n : ℕ) → had_line netlist (before ++ l ∷ []) n ≡ (had_line netlist before n || is_line_of netlist n l)
unfolding had_line
had_more netlist before l n = any_push (is_line_of netlist n) before l

-- ---- sections

-- a net's line changes no section before it
net_by : (netlist : Netlist) (before : List Line) (l : Line) (n : ℕ) (t : Bool) → had_line netlist before n ≡ t → is_net_line l ≡ true → section_of netlist (before ++ l ∷ []) n ≡ section_of netlist before n
unfolding section_of had_line
net_by netlist before l n true had is =
    let own = is_line_of netlist n in
    let rest = lines_after own before in
    ap (lines_before is_net_line) (after_more own before l had)
    ∙ before_more is_net_line rest l
    ∙ ap (λ t. cond t (lines_before is_net_line rest) (lines_before is_net_line rest ++ l ∷ [])) (or_right (list_any is_net_line rest) (is_net_line l) is)
net_by netlist before l n false had is =
    let own = is_line_of netlist n in
    ap (lines_before is_net_line) (after_none_more own before l had) ∙ sym (ap (lines_before is_net_line) (after_none own before had))

pub section_net : (netlist : Netlist) (before : List Line) (l : Line) (n : ℕ) → is_net_line l ≡ true → section_of netlist (before ++ l ∷ []) n ≡ section_of netlist before n
section_net netlist before l n is = net_by netlist before l n (had_line netlist before n) refl is

-- a line after another net's line belongs to another section
other_by : (netlist : Netlist) (before : List Line) (l : Line) (n : ℕ) (t : Bool) → had_line netlist before n ≡ t → (t ≡ true → list_any is_net_line (lines_after (is_line_of netlist n) before) ≡ true)
    → section_of netlist (before ++ l ∷ []) n ≡ section_of netlist before n
unfolding section_of had_line
other_by netlist before l n true had h =
    let own = is_line_of netlist n in
    let rest = lines_after own before in
    ap (lines_before is_net_line) (after_more own before l had)
    ∙ before_more is_net_line rest l
    ∙ ap (λ t. cond t (lines_before is_net_line rest) (lines_before is_net_line rest ++ l ∷ [])) (or_left (list_any is_net_line rest) (is_net_line l) (h refl))
other_by netlist before l n false had h =
    let own = is_line_of netlist n in
    ap (lines_before is_net_line) (after_none_more own before l had) ∙ sym (ap (lines_before is_net_line) (after_none own before had))

pub section_other : (netlist : Netlist) (before : List Line) (l : Line) (n : ℕ) → (had_line netlist before n ≡ true → list_any is_net_line (lines_after (is_line_of netlist n) before) ≡ true)
    → section_of netlist (before ++ l ∷ []) n ≡ section_of netlist before n
section_other netlist before l n h = other_by netlist before l n (had_line netlist before n) refl h

-- a line after the net's own line, with no other net's between, belongs to its section
pub section_here : (netlist : Netlist) (before : List Line) (l : Line) (n : ℕ) → is_net_line l ≡ false → had_line netlist before n ≡ true → list_any is_net_line (lines_after (is_line_of netlist n) before) ≡ false
    → section_of netlist (before ++ l ∷ []) n ≡ section_of netlist before n ++ l ∷ []
unfolding section_of had_line
section_here netlist before l n is had none =
    let own = is_line_of netlist n in
    let rest = lines_after own before in
    ap (lines_before is_net_line) (after_more own before l had)
    ∙ before_more is_net_line rest l
    ∙ ap (λ t. cond (t || is_net_line l) (lines_before is_net_line rest) (lines_before is_net_line rest ++ l ∷ [])) none
    ∙ ap (λ t. cond t (lines_before is_net_line rest) (lines_before is_net_line rest ++ l ∷ [])) is

-- ---- the nodes of sections

pub nodes_same : (netlist : Netlist) (f : Fabric) (one other : List Line) (n : ℕ) → section_of netlist one n ≡ section_of netlist other n → nodes_in netlist f one n ≡ nodes_in netlist f other n
unfolding nodes_in
nodes_same netlist f one other n e = ap (filter_map (λ l. node_on f l.words)) e

pub nodes_none : (netlist : Netlist) (f : Fabric) (before : List Line) (n : ℕ) → had_line netlist before n ≡ false → nodes_in netlist f before n ≡ []
unfolding nodes_in section_of had_line
nodes_none netlist f before n none = ap (λ ls. filter_map (λ l. node_on f l.words) (lines_before is_net_line ls)) (after_none (is_line_of netlist n) before none)

pub nodes_more : (netlist : Netlist) (f : Fabric) (before : List Line) (l : Line) (n a : ℕ) → section_of netlist (before ++ l ∷ []) n ≡ section_of netlist before n ++ l ∷ [] → node_on f l.words ≡ Some a
    → nodes_in netlist f (before ++ l ∷ []) n ≡ nodes_in netlist f before n ++ a ∷ []
unfolding nodes_in
nodes_more netlist f before l n a e node =
    ap (filter_map (λ k. node_on f k.words)) e
    ∙ filter_map-append (λ k. node_on f k.words) (section_of netlist before n) (l ∷ [])
    ∙ ap (λ r. filter_map (λ k. node_on f k.words) (section_of netlist before n) ++ cons_option r []) node

-- ---- lists of nodes with a node more

pub last_push : {X : Type 0} (o : Option X) (xs : List X) (x : X) → last_or o (xs ++ x ∷ []) ≡ Some x
last_push o [] x = refl
last_push o (y ∷ ys) x = last_push (Some y) ys x

pub among_push : (nodes : List ℕ) (a b : ℕ) → is_among (nodes ++ a ∷ []) b ≡ (is_among nodes b || eqb a b)
among_push nodes a b = any_push (λ x. eqb x b) nodes a

abbrev last_from : ℕ → List ℕ → ℕ
last_from b [] = b
last_from b (c ∷ cs) = last_from c cs

last_is : (b : ℕ) (bs : List ℕ) → last_or (Some b) bs ≡ Some (last_from b bs)
last_is b [] = refl
last_is b (c ∷ cs) = last_is c cs

neighbours_push : (b : ℕ) (bs : List ℕ) (a : ℕ) → neighbours ((b ∷ bs) ++ a ∷ []) ≡ neighbours (b ∷ bs) ++ (last_from b bs, a) ∷ []
neighbours_push b [] a = refl
neighbours_push b (c ∷ cs) a = ap (λ ps. (b, c) ∷ ps) (neighbours_push c cs a)

pair_by : (p : Pair) (t : Bool) → cond (not t) (p ∷ []) [] ≡ option_to_list (cond t None (Some p))
pair_by p true = refl
pair_by p false = refl

pub list_push : (f : Fabric) (nodes : List ℕ) (a : ℕ) → list_along f (nodes ++ a ∷ []) ≡ list_more (list_along f nodes) (pair_after f (last_or None nodes) a)
unfolding pairs_along
list_push f [] a = refl
list_push f (b ∷ bs) a =
    let start = λ (p : Pair). not (is_sink f p.0) in
    let old = filter start (neighbours (b ∷ bs)) in
    ap Some
    (
    ap (filter start) (neighbours_push b bs a)
    ∙ filter-append start (neighbours (b ∷ bs)) ((last_from b bs, a) ∷ [])
    ∙ ap (λ ps. old ++ ps) (pair_by (last_from b bs, a) (is_sink f (last_from b bs)) ∙ sym (ap (λ l. option_to_list (pair_after f l a)) (last_is b bs))))

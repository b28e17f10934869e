-- Lines of nets, one after the other, and whether there are any.
use Rattle.std.proofs.Common.{◌≡◌, ℕ, ◌+◌, ◌<◌, ◌≤◌, List, [], ◌∷◌, ◌++◌, length, get_or, take, refl, sym, ap, ◌∙◌, arith, length-append}
use Rattle.std.specs.List.{flat_map}
use Rattle.std.proofs.lemmas.List.{flat_map_more, take_all, take_more}
use Rattle.net_file.specs.Netlist.{Netlist}
use Rattle.rr_graph.specs.Problems.{Net, RoutingProblem}
use Rattle.nets_run.specs.Nets.{beginning_text, net_line, nets_text}

-- the text of one more element
pub each_more : {A : Type 0} (line : A → List ℕ) (xs : List A) (i : ℕ) (d : A) → i < length xs
    → flat_map line (take i xs) ++ line (get_or xs i d) ≡ flat_map line (take (i + 1) xs)
each_more line xs i d below =
    flat_map_more line [] (take i xs) (get_or xs i d) ∙ ap (flat_map line) (sym (take_more xs i d below))

-- the lines of all nets
pub all_lines : (netlist : Netlist) (p : RoutingProblem) (n : ℕ) → length p.nets ≤ n
    → flat_map (net_line netlist) (take n p.nets) ≡ nets_text netlist p
unfolding nets_text
all_lines netlist p n past = ap (flat_map (net_line netlist)) (take_all n p.nets past)

line_filled : (netlist : Netlist) (net : Net) → 0 < length (net_line netlist net)
unfolding net_line beginning_text
line_filled netlist net = simp length-append (omega arith)

-- ---- whether there are lines

some_of : (netlist : Netlist) (nets : List Net) → 0 < length nets → 0 < length (flat_map (net_line netlist) nets)
some_of netlist [] some = absurd (omega (arith, some))
some_of netlist (n ∷ ns) some =
    let filled = line_filled netlist n in simp length-append (omega (arith, filled))

pub some_lines : (netlist : Netlist) (p : RoutingProblem) → 0 < length p.nets → 0 < length (nets_text netlist p)
unfolding nets_text
some_lines netlist p some = some_of netlist p.nets some

none_of : (netlist : Netlist) (nets : List Net) → length nets ≡ 0 → flat_map (net_line netlist) nets ≡ []
none_of netlist [] none = refl
none_of netlist (n ∷ ns) none = absurd (omega (arith, none))

pub no_lines : (netlist : Netlist) (p : RoutingProblem) → length p.nets ≡ 0 → nets_text netlist p ≡ []
unfolding nets_text
no_lines netlist p none = none_of netlist p.nets none

-- The lines of nets.
use Rattle.std.proofs.Common.{◌≡◌, ℕ, ◌+◌, ◌≤◌, ◌<◌, Bool, true, false, not, List, [], ◌∷◌, ◌++◌, length, map, get_or, drop, Option, None, if◌then◌else◌, refl, sym, ap, ◌∙◌, zero-add, arith, length-append}
use Rattle.std.specs.Prelude.{slice_index_or, filter}
use Rattle.std.specs.List.{flat_map}
use Rattle.std.proofs.lemmas.Option.{slice_get_read, get_or_from_slice_get}
use Rattle.std.proofs.lemmas.List.{drop_all}
use Rattle.std.proofs.lemmas.List.Filters.{length-filter_both}
use Rattle.std.proofs.lemmas.Grind.{flat_map-append}
use Rattle.std.proofs.lemmas.List.FromFn.{get_or-range_with_len, length-range_with_len}
use Rattle.net_file.specs.Blocks.{numbers_below}
use Rattle.net_file.specs.Netlist.{Netlist, Net}
use Rattle.net_file.specs.Routed.{no_net, is_routed_net, is_routed_at}
use Rattle.net_file.specs.declared.terminal.Terminal.{Terminal}
use Rattle.place_file.specs.Placement.{Placement}
use Rattle.rr_graph.specs.Fabric.{Fabric}
use Rattle.rr_graph.specs.Problems.{RoutingProblem}
use Rattle.rr_graph.proofs.WireTables.{count_next}
use Rattle.route_tree.specs.Paths.{Pair}
use Rattle.route_file.specs.TextLine.{TextLine, line_text, bytes_on}
use Rattle.route_file.specs.Text.{block_line, routed_net_lines, global_net_lines, lines_of_net, net_lines, routed_before, text_lines, text_of}
use Rattle.route_file.proofs.Sending.{drop_next}

-- the lines of the terminals from place i on
pub terminals_next : (netlist : Netlist) (placement : Placement) (terminals : List Terminal) (i : ℕ) (d : Terminal) → i < length terminals
    → flat_map line_text (map (block_line netlist placement) (drop i terminals))
    ≡ line_text (block_line netlist placement (get_or terminals i d)) ++ flat_map line_text (map (block_line netlist placement) (drop (i + 1) terminals))
terminals_next netlist placement terminals i d within =
    ap (λ (ts : List Terminal). flat_map line_text (map (block_line netlist placement) ts)) (drop_next terminals i d within)

-- the text of the nets from number i on
abbrev pub nets_text : (ℕ → List TextLine) → (i n : ℕ) → List ℕ
nets_text lines i n = flat_map line_text (flat_map lines (drop i (numbers_below n)))

numbers_next : (i n : ℕ) → i < n → drop i (numbers_below n) ≡ i ∷ drop (i + 1) (numbers_below n)
numbers_next i n within =
    let inside : i < length (numbers_below n) = rw (length-range_with_len 0 n) within in
    let number : get_or (numbers_below n) i 0 ≡ i = get_or-range_with_len 0 n i 0 within ∙ zero-add i in
    drop_next (numbers_below n) i 0 inside ∙ ap (λ (k : ℕ). k ∷ drop (i + 1) (numbers_below n)) number

pub nets_next : (lines : ℕ → List TextLine) (i n : ℕ) → i < n → nets_text lines i n ≡ flat_map line_text (lines i) ++ nets_text lines (i + 1) n
nets_next lines i n within =
    ap (λ (ns : List ℕ). flat_map line_text (flat_map lines ns)) (numbers_next i n within) ∙ flat_map-append line_text (lines i) (flat_map lines (drop (i + 1) (numbers_below n)))

pub nets_end : (lines : ℕ → List TextLine) (i n : ℕ) → n ≤ i → nets_text lines i n ≡ []
nets_end lines i n past =
    let over : length (numbers_below n) ≤ i = rw (length-range_with_len 0 n) past in
    ap (λ (ns : List ℕ). flat_map line_text (flat_map lines ns)) (drop_all i (numbers_below n) over)

-- which lines a net has
pub lines_of_global : (netlist : Netlist) (placement : Placement) (f : Fabric) (number : ℕ) (n : Net) (list : Option (List Pair)) → n.global ≡ true
    → lines_of_net netlist placement f number n list ≡ global_net_lines netlist placement number n
unfolding lines_of_net
lines_of_global netlist placement f number n list e =
    ap (λ b. if b then global_net_lines netlist placement number n else (if is_routed_net n then routed_net_lines f number n.name list else [])) e

pub lines_of_other : (netlist : Netlist) (placement : Placement) (f : Fabric) (number : ℕ) (n : Net) (list : Option (List Pair)) (routed : Bool) → n.global ≡ false → is_routed_net n ≡ routed
    → lines_of_net netlist placement f number n list ≡ (if routed then routed_net_lines f number n.name list else [])
unfolding lines_of_net
lines_of_other netlist placement f number n list routed e r =
    ap (λ b. if b then global_net_lines netlist placement number n else (if is_routed_net n then routed_net_lines f number n.name list else [])) e
    ∙ ap (λ b. if b then routed_net_lines f number n.name list else []) r

-- a net that was found is the one of its number
pub net_there : (nets : List Net) (i : ℕ) (n : Net) → i < length nets → n ≡ get_or nets i n → get_or nets i no_net ≡ n
net_there nets i n within is = get_or_from_slice_get nets i n no_net (slice_get_read nets (length nets) i n refl within is)

pub net_text : (netlist : Netlist) (placement : Placement) (f : Fabric) (lists : List (Option (List Pair))) (i place : ℕ) (n : Net)
    → slice_index_or netlist.nets i no_net ≡ n → place ≡ routed_before netlist i
    → lines_of_net netlist placement f i n (slice_index_or lists place None) ≡ net_lines netlist placement f lists i
unfolding net_lines
net_text netlist placement f lists i place n e p =
    ap (λ (m : Net). lines_of_net netlist placement f i m (slice_index_or lists place None)) (sym e)
    ∙ ap (λ (k : ℕ). lines_of_net netlist placement f i (slice_index_or netlist.nets i no_net) (slice_index_or lists k None)) p

-- one net more may be routed
pub routed_next : (netlist : Netlist) (n : ℕ) → routed_before netlist (n + 1) ≡ routed_before netlist n + (if is_routed_at netlist n then 1 else 0)
unfolding routed_before
routed_next netlist n = count_next (is_routed_at netlist) n

pub few_routed : (netlist : Netlist) (n : ℕ) → routed_before netlist n ≤ n
unfolding routed_before
few_routed netlist n =
    let some : length (filter (is_routed_at netlist) (numbers_below n)) ≤ length (numbers_below n) =
    omega (arith, length-filter_both (is_routed_at netlist) (λ k. not (is_routed_at netlist k)) (λ k. refl) (numbers_below n)) in
    let all : length (numbers_below n) ≡ n = length-range_with_len 0 n in
    omega (arith, some, all)

pub none_routed : (netlist : Netlist) → 0 ≡ routed_before netlist 0
unfolding routed_before
none_routed netlist = refl

-- a text isn't empty
pub text_filled : (netlist : Netlist) (placement : Placement) (p : RoutingProblem) (lists : List (Option (List Pair))) → 0 < length (text_of netlist placement p lists)
unfolding text_of text_lines bytes_on
text_filled netlist placement p lists = simp length-append (omega arith)

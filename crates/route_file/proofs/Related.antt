-- Reading is the relation between a text and its routing: each gives the other.
use Rattle.std.proofs.Common.{◌≡◌, ℕ, ◌<◌, ◌≤◌, Bool, true, false, not, ◌&&◌, cond, List, [], ◌∷◌, ◌++◌, length, map, get_or, drop, Option, Some, None, Result, Ok, refl, sym, ap, subst, ◌∙◌, arith}
use Rattle.std.specs.Prelude.{nat_lt, filter, All}
use Rattle.std.specs.List.{range_with_len}
use Rattle.std.specs.Option.{option_or}
use Rattle.std.proofs.lemmas.Bool.{ltb-false, lt-ltb, le-ltb, cond-true}
use Rattle.std.proofs.lemmas.List.{length-map, get_or-map, ext_get_or}
use Rattle.std.proofs.lemmas.List.Elements.{All-head, All-tail, All-from_get_or}
use Rattle.std.proofs.lemmas.List.FromFn.{length-range_with_len, get_or-range_with_len, get_or-map-range_with_len}
use Rattle.vpr_text.specs.Readings.{unless_faulty, with_fault}
use Rattle.vpr_text.specs.Words.{Line, words_at}
use Rattle.vpr_text.specs.Text.{lines_of}
use Rattle.vpr_text.proofs.Readings.{bind_ok, not_faulty, with_fault_ok}
use Rattle.net_file.specs.Netlist.{Netlist}
use Rattle.net_file.specs.Routed.{is_routed_at, routed_numbers}
use Rattle.rr_graph.specs.Fabric.{Fabric}
use Rattle.rr_graph.specs.Problems.{RoutingProblem, no_net, net_in}
use Rattle.route_tree.specs.Paths.{Pair}
use Rattle.route_file.specs.declared.fault.RouteFileFault.{RouteFileFault}
use Rattle.route_file.specs.declared.fault.RouteFileFault.TheVariants as route
use Rattle.route_file.specs.Judge.{is_size_line, is_size_of, is_title, header_fault, line_fault, fault_from}
use Rattle.route_file.specs.Reading.{lists_in, reading, routing_of}
use Rattle.route_file.specs.Reads.{AreAccepted, ReadsRoute, ReadsBytes}
use Rattle.route_file.specs.kept.LinesSeen.{routed_list, lists_by_net}
use Rattle.route_file.specs.Sections.{list_of_net}

-- ---- the head

record IsHead (f : Fabric) (lines : List Line) : Type 0 where
  two_lines : 2 ≤ length lines
  size_line : is_size_line (words_at lines 0) ≡ true
  same_size : is_size_of f (words_at lines 0) ≡ true
  title : is_title (words_at lines 1) ≡ true

head_by : (a b c d : RouteFileFault) (some size same short title : Bool)
    → cond (some && not size) (Some a) (cond (some && not same) (Some b) (cond short (Some c) (cond (not title) (Some d) None))) ≡ None
    → (some ≡ true → (size ≡ true) × (same ≡ true)) × (short ≡ false) × (title ≡ true)
head_by a b c d true true true false true e = (λ _. (refl, refl), refl, refl)
head_by a b c d true true true false false e = absurd cc
head_by a b c d true true true true title e = absurd cc
head_by a b c d true true false short title e = absurd cc
head_by a b c d true false same short title e = absurd cc
head_by a b c d false size same false true e = (λ h. absurd cc, refl, refl)
head_by a b c d false size same false false e = absurd cc
head_by a b c d false size same true title e = absurd cc

head_is : (f : Fabric) (lines : List Line) → header_fault f lines ≡ None → IsHead f lines
unfolding header_fault
head_is f lines e =
    let h = head_by _ _ _ _ (nat_lt 0 (length lines)) (is_size_line (words_at lines 0)) (is_size_of f (words_at lines 0)) (nat_lt (length lines) 2) (is_title (words_at lines 1)) e in
    let two = ltb-false (length lines) 2 h.1 in
    let first = h.0 (lt-ltb 0 (length lines) (omega (arith, two))) in
    record { two_lines = two; size_line = first.0; same_size = first.1; title = h.2 }

pub header_long : (f : Fabric) (lines : List Line) → header_fault f lines ≡ None → 2 ≤ length lines
header_long f lines e = (head_is f lines e).two_lines

head_good : (f : Fabric) (lines : List Line) → IsHead f lines → header_fault f lines ≡ None
unfolding header_fault
head_good f lines h =
    let some = lt-ltb 0 (length lines) (omega (arith, h.two_lines)) in
    let long = le-ltb (length lines) 2 h.two_lines in
    rw (some, long, h.size_line, h.same_size, h.title) refl

-- ---- the lines after it

neither : (a b : Option RouteFileFault) → option_or a b ≡ None → (a ≡ None) × (b ≡ None)
neither None b e = (refl, e)
neither (Some x) b e = absurd cc

accepted : (netlist : Netlist) (f : Fabric) (before ls : List Line) → fault_from netlist f before ls ≡ None → AreAccepted netlist f before ls
unfolding fault_from
accepted netlist f before [] e = tt
accepted netlist f before (l ∷ ls) e =
    let both = neither (line_fault netlist f before l) (fault_from netlist f (before ++ l ∷ []) ls) e in
    (both.0, accepted netlist f (before ++ l ∷ []) ls both.1)

faultless : (netlist : Netlist) (f : Fabric) (before ls : List Line) → AreAccepted netlist f before ls → fault_from netlist f before ls ≡ None
unfolding fault_from
faultless netlist f before [] h = refl
faultless netlist f before (l ∷ ls) h = ap (λ x. option_or x (fault_from netlist f (before ++ l ∷ []) ls)) h.0 ∙ faultless netlist f (before ++ l ∷ []) ls h.1

-- ---- the lists

list_at : (netlist : Netlist) (problem : RoutingProblem) (ls : List Line) (i : ℕ) → i < length problem.nets → get_or (lists_in netlist problem ls) i None ≡ list_of_net netlist problem.device ls (net_in problem.nets i).number
unfolding lists_in
list_at netlist problem ls i lt = get_or-map (λ net. list_of_net netlist problem.device ls net.number) problem.nets i no_net None lt

count_lists : (netlist : Netlist) (problem : RoutingProblem) (ls : List Line) → length (lists_in netlist problem ls) ≡ length problem.nets
unfolding lists_in
count_lists netlist problem ls = length-map problem.nets (λ net. list_of_net netlist problem.device ls net.number)

all_lists : (netlist : Netlist) (problem : RoutingProblem) (lines : List Line) (routing : List (Option (List Pair))) → ReadsRoute netlist problem lines routing → routing ≡ lists_in netlist problem (drop 2 lines)
all_lists netlist problem lines routing h =
    ext_get_or None routing (lists_in netlist problem (drop 2 lines)) (h.count ∙ sym (count_lists netlist problem (drop 2 lines)))
    (λ i lt.
    let within : i < length problem.nets = subst (λ k. i < k) h.count lt in
    h.each_list i within ∙ sym (list_at netlist problem (drop 2 lines) i within))

-- lines are read as one routing
pub one_reading : (netlist : Netlist) (problem : RoutingProblem) (lines : List Line) (one other : List (Option (List Pair))) → ReadsRoute netlist problem lines one → ReadsRoute netlist problem lines other → one ≡ other
one_reading netlist problem lines one other h g = all_lists netlist problem lines one h ∙ sym (all_lists netlist problem lines other g)

-- ---- the routing

abbrev ok : List (Option (List Pair)) → Result (List (Option (List Pair))) RouteFileFault
ok routing = Ok routing

same_value : (a b : List (Option (List Pair))) → ok a ≡ ok b → b ≡ a
same_value a b e = cc

reads_related : (netlist : Netlist) (problem : RoutingProblem) (lines : List Line) (routing : List (Option (List Pair))) → reading netlist problem lines ≡ Ok routing → ReadsRoute netlist problem lines routing
unfolding reading
reads_related netlist problem lines routing e =
    let f = problem.device in
    let headed = not_faulty (header_fault f lines) _ routing e in
    let lined = not_faulty (fault_from netlist f [] (drop 2 lines)) _ routing headed.1 in
    let head = head_is f lines headed.0 in
    let value = same_value (lists_in netlist problem (drop 2 lines)) routing lined.1 in
    record {
      two_lines = head.two_lines;
      size_line = head.size_line;
      same_size = head.same_size;
      title = head.title;
      each_line = accepted netlist f [] (drop 2 lines) lined.0;
      count = ap length value ∙ count_lists netlist problem (drop 2 lines);
      each_list = λ i lt. ap (λ r. get_or r i None) value ∙ list_at netlist problem (drop 2 lines) i lt;
    }

reads_given : (netlist : Netlist) (problem : RoutingProblem) (lines : List Line) (routing : List (Option (List Pair))) → ReadsRoute netlist problem lines routing → reading netlist problem lines ≡ Ok routing
unfolding reading
reads_given netlist problem lines routing h =
    let head = head_good problem.device lines (record { two_lines = h.two_lines; size_line = h.size_line; same_size = h.same_size; title = h.title }) in
    let lined = faultless netlist problem.device [] (drop 2 lines) h.each_line in
    rw (head, lined) (ap Ok (sym (all_lists netlist problem lines routing h)))

-- ---- the bytes

pub is_read : (netlist : Netlist) (problem : RoutingProblem) (bytes : List ℕ) (routing : List (Option (List Pair))) → routing_of netlist problem bytes ≡ Ok routing → ReadsBytes netlist problem bytes routing
unfolding routing_of
is_read netlist problem bytes routing e =
    let b = bind_ok (with_fault route.Text (lines_of bytes)) (reading netlist problem) routing e in
    record { lines = b.0; is_text = with_fault_ok route.Text (lines_of bytes) b.0 b.1; reads = reads_related netlist problem b.0 routing b.2 }

pub is_given : (netlist : Netlist) (problem : RoutingProblem) (bytes : List ℕ) (routing : List (Option (List Pair))) → ReadsBytes netlist problem bytes routing → routing_of netlist problem bytes ≡ Ok routing
unfolding routing_of
is_given netlist problem bytes routing h =
    let first : routing_of netlist problem bytes ≡ reading netlist problem h.lines = rw h.is_text refl in
    first ∙ reads_given netlist problem h.lines routing h.reads

-- ---- the lists of routed nets, by the numbers of nets

map_both : {X Y Z : Type 0} (g : Y → Z) (h : X → Y) (xs : List X) → map (λ x. g (h x)) xs ≡ map g (map h xs)
map_both g h [] = refl
map_both g h (x ∷ xs) = ap (λ zs. g (h x) ∷ zs) (map_both g h xs)

kept_by : {X : Type 0} (p : ℕ → Bool) (g h : ℕ → X) (t : Bool) (x : ℕ) (xs ys zs : List ℕ) → (t ≡ true → g x ≡ h x) → map g zs ≡ map h zs → map g (cond t (x ∷ zs) zs) ≡ map h (cond t (x ∷ zs) zs)
kept_by p g h true x xs ys zs here rest = ap (λ y. y ∷ map g zs) (here refl) ∙ ap (λ ws. h x ∷ ws) rest
kept_by p g h false x xs ys zs here rest = rest

kept_same : {X : Type 0} (p : ℕ → Bool) (g h : ℕ → X) (xs : List ℕ) → All (λ x. p x ≡ true → g x ≡ h x) xs → map g (filter p xs) ≡ map h (filter p xs)
kept_same p g h [] each = refl
kept_same p g h (x ∷ xs) each =
    kept_by p g h (p x) x xs xs (filter p xs) (All-head (λ x. p x ≡ true → g x ≡ h x) x xs each) (kept_same p g h xs (All-tail (λ x. p x ≡ true → g x ≡ h x) x xs each))

pub lists_by_number : (netlist : Netlist) (problem : RoutingProblem) (ls : List Line) → map (λ n. n.number) problem.nets ≡ routed_numbers netlist
    → map (λ net. get_or (lists_by_net netlist problem.device ls) net.number None) problem.nets ≡ lists_in netlist problem ls
unfolding lists_in routed_numbers
lists_by_number netlist problem ls numbers =
    let count = length netlist.nets in
    let by_net = λ (n : ℕ). get_or (lists_by_net netlist problem.device ls) n None in
    let list = list_of_net netlist problem.device ls in
    let below = range_with_len 0 count in
    let same = λ (k : ℕ) (lt : k < length below).
    let within : k < count = subst (λ j. k < j) (length-range_with_len 0 count) lt in
    let here : get_or below k 0 ≡ k = get_or-range_with_len 0 count k 0 within ∙ omega arith in
    subst (λ n. is_routed_at netlist n ≡ true → by_net n ≡ list n) (sym here)
    (λ routed. get_or-map-range_with_len (routed_list netlist problem.device ls) 0 count k k None within (omega arith) ∙ cond-true (is_routed_at netlist k) (list k) None routed) in
    map_both by_net (λ net. net.number) problem.nets
    ∙ ap (map by_net) numbers
    ∙ kept_same (is_routed_at netlist) by_net list below (All-from_get_or (λ n. is_routed_at netlist n ≡ true → by_net n ≡ list n) below 0 same)
    ∙ sym (ap (map list) numbers)
    ∙ sym (map_both list (λ net. net.number) problem.nets)

-- what the reader of lines found, put together
pub read_whole : (netlist : Netlist) (problem : RoutingProblem) (lines : List Line) (lists routing : List (Option (List Pair))) → map (λ n. n.number) problem.nets ≡ routed_numbers netlist
    → header_fault problem.device lines ≡ None
    → unless_faulty (fault_from netlist problem.device [] (drop 2 lines)) (Ok (lists_by_net netlist problem.device (drop 2 lines))) ≡ Ok lists
    → routing ≡ map (λ net. get_or lists net.number None) problem.nets → reading netlist problem lines ≡ Ok routing
unfolding reading
read_whole netlist problem lines lists routing numbers head given ordered =
    let lined = not_faulty (fault_from netlist problem.device [] (drop 2 lines)) _ lists given in
    let value = same_value (lists_by_net netlist problem.device (drop 2 lines)) lists lined.1 in
    let all : routing ≡ lists_in netlist problem (drop 2 lines) = ordered ∙ ap (λ ls. map (λ net. get_or ls net.number None) problem.nets) value ∙ lists_by_number netlist problem (drop 2 lines) numbers in
    rw (head, lined.0) (ap Ok (sym all))

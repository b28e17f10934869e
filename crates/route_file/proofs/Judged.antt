-- A line judged by what is kept of those before it, and what a line without a fault is.
use Rattle.std.proofs.Common.{◌≡◌, ℕ, ◌<◌, Bool, true, false, not, ◌&&◌, ◌||◌, cond, eqb, List, length, map, get_or, Option, Some, None, Result, Ok, Err, refl, ap, subst, ◌∙◌}
use Rattle.std.specs.List.{last_or}
use Rattle.std.specs.Option.{option_map_or}
use Rattle.std.proofs.lemmas.Bool.{eqb-true, eq-eqb}
use Rattle.std.proofs.lemmas.List.Quantifiers.{position-Some}
use Rattle.vpr_text.specs.Words.{Line}
use Rattle.vpr_text.specs.Word.{is_at}
use Rattle.std.specs.Prelude.{codes, option_and_then}
use Rattle.std.proofs.lemmas.Option.{option_and_then_some, cond_some}
use Rattle.std.specs.Cmp.{both_ways}
use Rattle.net_file.specs.Names.{number_among}
use Rattle.net_file.specs.Netlist.{Netlist}
use Rattle.net_file.specs.Routed.{is_routed_at}
use Rattle.rr_graph.specs.Fabric.{Fabric}
use Rattle.rr_graph.specs.Nodes.{nodes_of, node_count_of}
use Rattle.rr_graph.specs.Problems.{is_sink}
use Rattle.rr_graph.specs.node.Kind.TheVariants.{Source}
use Rattle.rr_graph.specs.node.Node.{Node}
use Rattle.route_tree.specs.Legality.{is_among}
use Rattle.route_file.specs.declared.entry.FileEntry.{FileEntry}
use Rattle.route_file.specs.declared.entry.FileEntry.TheVariants.{NetLine, BlockLine, NodeLine}
use Rattle.route_file.specs.declared.fault.RouteFileFault.{RouteFileFault}
use Rattle.route_file.specs.declared.fault.RouteFileFault.TheVariants as route
use Rattle.route_file.specs.declared.node_line.NodeText.{NodeText}
use Rattle.route_file.specs.declared.seen.Seen.{Seen}
use Rattle.route_file.specs.Judge.{named_entry, net_entry, block_entry, placed_entry, reported_entry, node_entry, section_entry, is_detached, judge}
use Rattle.route_file.specs.NetLine.{is_net_line, is_plain_form, is_global_form, is_global_at, if_global, name_on, net_on, same_answer}
use Rattle.route_file.specs.NodeLine.{text_of, is_reported, node_reported, node_on}
use Rattle.route_file.specs.NodeWords.{node_words}
use Rattle.route_file.specs.kept.LinesSeen.{IsSeen, is_off, no_owner, entry_after}
use Rattle.route_file.specs.Sections.{had_line, latest, nodes_in}
use Rattle.route_file.proofs.Named.{within}

-- ---- bounds

pub net_within : (netlist : Netlist) (words : List (List ℕ)) (n : ℕ) → net_on netlist words ≡ Some n → n < length netlist.nets
unfolding net_on
net_within netlist words n e =
    option_and_then_some (if_global netlist (is_global_form words)) (number_among (map (λ net. net.name) netlist.nets) (name_on words)) n e
    (λ k at here. subst (λ j. j < length netlist.nets) (cond_some (same_answer (is_global_at netlist k) (is_global_form words)) k n here).1 (within (name_on words) netlist.nets k at))

abbrev no_node : Node
no_node = record { kind = Source; x = 0; y = 0; number = 0 }

pub node_within : (f : Fabric) (text : NodeText) (a : ℕ) → node_reported f text ≡ Some a → a < node_count_of f
unfolding node_reported
node_within f text a e = (position-Some (is_reported f text) (nodes_of f) a no_node e).0

-- ---- what is kept tells what the lines tell

named_same : (had other : ℕ → Bool) (line : ℕ) (o : Option ℕ) → ((n : ℕ) → o ≡ Some n → had n ≡ other n) → named_entry had line o ≡ named_entry other line o
named_same had other line None h = refl
named_same had other line (Some n) h = ap (λ t. cond t (Err (route.NetTwice line)) (Ok (NetLine n))) (h n refl)

net_same : (netlist : Netlist) (had other : ℕ → Bool) (line : ℕ) (words : List (List ℕ)) → ((n : ℕ) → n < length netlist.nets → had n ≡ other n) → net_entry netlist had line words ≡ net_entry netlist other line words
unfolding net_entry
net_same netlist had other line words h =
    ap (λ r. cond (is_plain_form words || is_global_form words) r (Err (route.BadLine line))) (named_same had other line (net_on netlist words) (λ n e. h n (net_within netlist words n e)))

placed_same : (off other : ℕ → Bool) (line : ℕ) (o : Option ℕ) → ((a : ℕ) → off a ≡ other a) → placed_entry off line o ≡ placed_entry other line o
placed_same off other line None h = refl
placed_same off other line (Some a) h = ap (λ t. cond t (Err (route.Detached line)) (Ok (NodeLine a))) (h a)

reported_same : (f : Fabric) (off other : ℕ → Bool) (line : ℕ) (o : Option NodeText) → ((a : ℕ) → off a ≡ other a) → reported_entry f off line o ≡ reported_entry f other line o
reported_same f off other line None h = refl
reported_same f off other line (Some text) h = placed_same off other line (node_reported f text) h

routed_same : (f : Fabric) (off other : ℕ → Bool) (line : ℕ) (words : List (List ℕ)) (t : Bool) → (t ≡ true → (a : ℕ) → off a ≡ other a)
    → cond t (node_entry f off line words) (Err (route.BadLine line)) ≡ cond t (node_entry f other line words) (Err (route.BadLine line))
unfolding node_entry
routed_same f off other line words true h = reported_same f off other line (text_of (node_words words)) (h refl)
routed_same f off other line words false h = refl

section_same : (netlist : Netlist) (f : Fabric) (off other : ℕ → ℕ → Bool) (line : ℕ) (words : List (List ℕ)) (net : Option ℕ) → ((n : ℕ) → net ≡ Some n → is_routed_at netlist n ≡ true → (a : ℕ) → off n a ≡ other n a)
    → section_entry netlist f off line words net ≡ section_entry netlist f other line words net
section_same netlist f off other line words None h = refl
section_same netlist f off other line words (Some n) h =
    ap (λ r. cond (is_global_at netlist n) (block_entry line words) r) (routed_same f (off n) (other n) line words (is_routed_at netlist n) (h n refl))

off_same : (netlist : Netlist) (f : Fabric) (before : List Line) (seen : Seen) (n a : ℕ) → IsSeen netlist f before seen → latest netlist before ≡ Some n → is_routed_at netlist n ≡ true
    → is_off f seen n a ≡ is_detached f (nodes_in netlist f before n) a
unfolding is_detached
off_same netlist f before seen n a h e routed =
    let nodes = nodes_in netlist f before n in
    let owner = get_or seen.owners.items a no_owner in
    let one : eqb owner n ≡ is_among nodes a = both_ways (eqb owner n) (is_among nodes a) (λ t. h.owned n a (h.opened n e).0 routed (eqb-true owner n t)) (λ t. eq-eqb owner n (h.owns n a e routed t)) in
    ap (λ last. option_map_or (is_sink f) last false && not (eqb owner n)) (h.last n e routed)
    ∙ ap (λ t. option_map_or (is_sink f) (last_or None nodes) false && not t) one

pub judged_same : (netlist : Netlist) (f : Fabric) (before : List Line) (l : Line) (seen : Seen) → IsSeen netlist f before seen → entry_after netlist f seen l.number l.words ≡ judge netlist f before l
unfolding entry_after judge
judged_same netlist f before l seen h =
    let nets = net_same netlist (λ n. get_or seen.had.items n false) (had_line netlist before) l.number l.words h.had in
    let off = is_off f seen in
    let detached = λ (n : ℕ). is_detached f (nodes_in netlist f before n) in
    let sections =
    ap (section_entry netlist f off l.number l.words) h.net
    ∙ section_same netlist f off detached l.number l.words (latest netlist before) (λ n e routed a. off_same netlist f before seen n a h e routed) in
    ap (λ r. cond (is_net_line l) r (section_entry netlist f off l.number l.words seen.net)) nets
    ∙ ap (λ r. cond (is_net_line l) (net_entry netlist (had_line netlist before) l.number l.words) r) sections

-- ---- what a line without a fault is

abbrev same_entry : (e d : FileEntry) → (let r : Result FileEntry RouteFileFault = Ok e in r) ≡ Ok d → d ≡ e
same_entry e d h = cc

twice_is : {P : Type 0} (t : Bool) (line n : ℕ) (e : FileEntry) → cond t (Err (route.NetTwice line)) (Ok (NetLine n)) ≡ Ok e → (t ≡ false → e ≡ NetLine n → P) → P
twice_is true line n e h g = absurd cc
twice_is false line n e h g = g refl (same_entry (NetLine n) e h)

named_is : {P : Type 0} (had : ℕ → Bool) (line : ℕ) (o : Option ℕ) (e : FileEntry) → named_entry had line o ≡ Ok e → ((n : ℕ) → o ≡ Some n → had n ≡ false → e ≡ NetLine n → P) → P
named_is had line None e h g = absurd cc
named_is had line (Some n) e h g = twice_is (had n) line n e h (λ new is. g n refl new is)

form_is : {P : Type 0} (t : Bool) (had : ℕ → Bool) (line : ℕ) (o : Option ℕ) (e : FileEntry) → cond t (named_entry had line o) (Err (route.BadLine line)) ≡ Ok e → ((n : ℕ) → o ≡ Some n → had n ≡ false → e ≡ NetLine n → P) → P
form_is true had line o e h g = named_is had line o e h g
form_is false had line o e h g = absurd cc

pub net_is : {P : Type 0} (netlist : Netlist) (had : ℕ → Bool) (line : ℕ) (words : List (List ℕ)) (e : FileEntry) → net_entry netlist had line words ≡ Ok e → ((n : ℕ) → net_on netlist words ≡ Some n → had n ≡ false → e ≡ NetLine n → P) → P
unfolding net_entry
net_is netlist had line words e h g = form_is (is_plain_form words || is_global_form words) had line (net_on netlist words) e h g

block_is : {P : Type 0} (t : Bool) (line : ℕ) (e : FileEntry) → cond t (Ok BlockLine) (Err (route.BadLine line)) ≡ Ok e → (e ≡ BlockLine → P) → P
block_is true line e h g = g (same_entry BlockLine e h)
block_is false line e h g = absurd cc

off_is : {P : Type 0} (t : Bool) (line a : ℕ) (e : FileEntry) → cond t (Err (route.Detached line)) (Ok (NodeLine a)) ≡ Ok e → (e ≡ NodeLine a → P) → P
off_is true line a e h g = absurd cc
off_is false line a e h g = g (same_entry (NodeLine a) e h)

placed_is : {P : Type 0} (off : ℕ → Bool) (line : ℕ) (o : Option ℕ) (e : FileEntry) → placed_entry off line o ≡ Ok e → ((a : ℕ) → o ≡ Some a → e ≡ NodeLine a → P) → P
placed_is off line None e h g = absurd cc
placed_is off line (Some a) e h g = off_is (off a) line a e h (λ is. g a refl is)

reported_is : {P : Type 0} (f : Fabric) (off : ℕ → Bool) (line : ℕ) (o : Option NodeText) (e : FileEntry) → reported_entry f off line o ≡ Ok e → ((a : ℕ) → option_and_then (node_reported f) o ≡ Some a → a < node_count_of f → e ≡ NodeLine a → P) → P
reported_is f off line None e h g = absurd cc
reported_is f off line (Some text) e h g = placed_is off line (node_reported f text) e h (λ a at is. g a at (node_within f text a at) is)

node_is : {P : Type 0} (f : Fabric) (off : ℕ → Bool) (line : ℕ) (words : List (List ℕ)) (e : FileEntry) → node_entry f off line words ≡ Ok e → ((a : ℕ) → node_on f words ≡ Some a → a < node_count_of f → e ≡ NodeLine a → P) → P
unfolding node_entry node_on
node_is f off line words e h g = reported_is f off line (text_of (node_words words)) e h g

routed_is : {P : Type 0} (f : Fabric) (off : ℕ → Bool) (line : ℕ) (words : List (List ℕ)) (t : Bool) (e : FileEntry) → cond t (node_entry f off line words) (Err (route.BadLine line)) ≡ Ok e
    → ((a : ℕ) → t ≡ true → node_on f words ≡ Some a → a < node_count_of f → e ≡ NodeLine a → P) → P
routed_is f off line words true e h g = node_is f off line words e h (λ a at lt is. g a refl at lt is)
routed_is f off line words false e h g = absurd cc

inner_is : {P : Type 0} (netlist : Netlist) (f : Fabric) (off : ℕ → ℕ → Bool) (line : ℕ) (words : List (List ℕ)) (n : ℕ) (t : Bool) (e : FileEntry)
    → cond t (block_entry line words) (cond (is_routed_at netlist n) (node_entry f (off n) line words) (Err (route.BadLine line))) ≡ Ok e
    → (t ≡ true → e ≡ BlockLine → P) → ((a : ℕ) → is_routed_at netlist n ≡ true → node_on f words ≡ Some a → a < node_count_of f → e ≡ NodeLine a → P) → P
inner_is netlist f off line words n true e h block node = block_is (is_at words 0 (codes "Block")) line e h (λ is. block refl is)
inner_is netlist f off line words n false e h block node = routed_is f (off n) line words (is_routed_at netlist n) e h node

pub section_is : {P : Type 0} (netlist : Netlist) (f : Fabric) (off : ℕ → ℕ → Bool) (line : ℕ) (words : List (List ℕ)) (net : Option ℕ) (e : FileEntry) → section_entry netlist f off line words net ≡ Ok e
    → ((n : ℕ) → net ≡ Some n → is_global_at netlist n ≡ true → e ≡ BlockLine → P)
    → ((n a : ℕ) → net ≡ Some n → is_routed_at netlist n ≡ true → node_on f words ≡ Some a → a < node_count_of f → e ≡ NodeLine a → P) → P
section_is netlist f off line words None e h block node = absurd cc
section_is netlist f off line words (Some n) e h block node =
    inner_is netlist f off line words n (is_global_at netlist n) e h (λ global is. block n refl global is) (λ a routed at lt is. node n a refl routed at lt is)

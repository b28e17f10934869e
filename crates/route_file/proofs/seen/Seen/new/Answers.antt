use Rattle.std.proofs.Common.{◌≡◌, length, false, replicate, map, None, refl, ap, ◌∙◌}
use Rattle.std.specs.List.{range_with_len}
use Rattle.rr_graph.specs.Nodes.{node_count_of}
use Rattle.route_file.specs.kept.LinesSeen.{no_owner}
use Rattle.route_file.proofs.Start.{nothing_seen}
use Rattle.route_file.proofs.seen.Seen.new.Goals as goal

pub returns : goal.returns
returns c =
    let netlist = c.args.netlist.now in
    let f = c.args.device.now in
    let count = ap length c.nets-count.ensures.entry in
    let had : c.in_ok-had.had.items ≡ replicate (length netlist.nets) false = c.in_ok-had.ensures.items_if_clones_equal (λ y e. e) ∙ ap (λ n. replicate n false) count in
    let owners : c.in_ok-owners.owners.items ≡ replicate (node_count_of f) no_owner = c.in_ok-owners.ensures.items_if_clones_equal (λ y e. e) ∙ ap (λ n. replicate n no_owner) c.node_count.ensures.count in
    let lists : c.in_ok-lists.lists.items ≡ map (λ _. None) (range_with_len 0 (length netlist.nets)) = c.in_ok-lists.ensures ∙ ap (λ n. map (λ _. None) (range_with_len 0 n)) count in
    nothing_seen netlist f _ c.nets-count.ensures.facts.few_nets refl had owners lists

use Rattle.std.proofs.Common.{◌≡◌, ◌<◌, All, List, ℕ, length, map, ap, ap₂, sym, subst, ◌∙◌, arith}
use Rattle.std.specs.List.{filter}
use Rattle.std.specs.List.Sorted.{IsStrictlyIncreasing}
use Rattle.std.proofs.lemmas.List.{length-map}
use Rattle.routing_problem.specs.Fabric.{numbers_below}
use Rattle.routing_problem.specs.Nodes.{node_count_of}
use Rattle.route_tree.specs.Usage.{Lists}
use Rattle.route_report.specs.Overused.{is_over, is_overused, overuse_at, overused_nodes}
use Rattle.route_report.specs.kept.Overused.{bare, entry_to}
use Rattle.route_report.proofs.Counting.{written_back}
use Rattle.route_report.proofs.Overusing.{nodes_are, bare_are, over_there, over_ascends}
use Rattle.route_report.proofs.overused.overused_nodes.Goals as goal

pub add_nets-requires-clause-begin : goal.add_nets-requires-clause-begin
add_nets-requires-clause-begin c =
    let p = c.args.problem.now in
    let lists = c.args.routing.now in
    let nodes = c.in_ok-nodes.nodes.items in
    let there = subst (All (λ a. a < node_count_of c.device.result.now)) (sym c.in_ok-nodes.ensures) (over_there c.device.result.now c.args.uses.now) in
    let made : c.in_ok-entries.entries.items ≡ map (bare p.device c.args.uses.now) nodes =
    c.in_ok-entries.ensures ∙ ap (map (bare c.device-2.result.now c.args.uses.now)) c.deref.ensures.value ∙ ap (λ f. map (bare f c.args.uses.now) nodes) c.device-2.ensures.device in
    c.deref_mut.ensures.value ∙ made
    ∙ bare_are p lists c.args.uses.now c.requires nodes (subst (λ f. All (λ a. a < node_count_of f) nodes) c.device.ensures.device there)
    ∙ ap₂ (λ (ls : Lists) (ns : List ℕ). map (entry_to p ls 0) ns) (sym (c.deref-2.ensures.value ∙ c.routing.view_is)) (sym c.deref-3.ensures.value)

pub add_nets-requires-clause-ascending : goal.add_nets-requires-clause-ascending
add_nets-requires-clause-ascending c =
    subst IsStrictlyIncreasing (sym (c.deref-3.ensures.value ∙ c.in_ok-nodes.ensures)) (over_ascends c.device.result.now c.args.uses.now)

pub add_nets-requires-clause-there : goal.add_nets-requires-clause-there
add_nets-requires-clause-there c =
    subst (λ f. All (λ a. a < node_count_of f) c.deref-3.result.now) c.device.ensures.device
    (subst (All (λ a. a < node_count_of c.device.result.now)) (sym (c.deref-3.ensures.value ∙ c.in_ok-nodes.ensures)) (over_there c.device.result.now c.args.uses.now))

pub returns : goal.returns
unfolding overused_nodes
returns c =
    let p = c.args.problem.now in
    let lists = c.args.routing.now in
    let uses = c.args.uses.now in
    let nodes : c.deref-3.result.now ≡ filter (is_overused p lists) (numbers_below (node_count_of p.device)) =
    c.deref-3.ensures.value ∙ c.in_ok-nodes.ensures ∙ ap (λ f. filter (is_over f uses) (numbers_below (node_count_of f))) c.device.ensures.device ∙ nodes_are p lists uses c.requires in
    let found = c.in_ok-add_nets.ensures ∙ ap (λ (ls : Lists). map (entry_to p ls (length p.nets)) c.deref-3.result.now) (c.deref-2.ensures.value ∙ c.routing.view_is) in
    let more : length c.add_nets.new.entries ≡ length c.deref-3.result.now =
    ap length c.in_ok-add_nets.ensures ∙ length-map c.deref-3.result.now (entry_to p c.deref-2.result.now (length p.nets)) in
    let less : length c.in_ok-entries.entries.items ≡ length c.deref.result.now =
    ap length c.in_ok-entries.ensures ∙ length-map c.deref.result.now (bare c.device-2.result.now uses) in
    let same : length c.deref.result.now ≡ length c.deref-3.result.now = ap length (c.deref.ensures.value ∙ sym c.deref-3.ensures.value) in
    let size : length c.add_nets.new.entries ≡ c.in_ok-entries.entries.len = omega (arith, more, less, same, c.in_ok-entries.entries.ok.0) in
    written_back c.add_nets.new.entries _ c.in_ok-entries.entries.len (sym size) ∙ found ∙ ap (map (overuse_at p lists)) nodes

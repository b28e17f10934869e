use Rattle.std.proofs.Common.{◌≡◌, ℕ, ◌<◌, ◌≤◌, length, if◌then◌else◌, get_or, List, sym, ap, subst, ◌∙◌, arith}
use Rattle.net_file.specs.Netlist.{Net}
use Rattle.net_file.specs.Routed.{is_routed_net, is_routed_at}
use Rattle.route_file.specs.Text.{net_lines}
use Rattle.route_file.proofs.Sending.{Lacks, lacks_all, lacks_next, lacks_nothing, lacks_for_good}
use Rattle.route_file.proofs.NetTexts.{nets_text, nets_next, nets_end, net_there, net_text, routed_next, few_routed, none_routed}
use Rattle.route_file.proofs.writing.put_nets.Goals as goal

pub loop-number-init : goal.loop-number-init
loop-number-init g c = (lacks_all _ _, none_routed c.args.placed.now.netlist.now)

pub returns-then-is_broken : goal.returns-then-is_broken
returns-then-is_broken g c =
    let netlist = c.args.placed.now.netlist.now in
    let number = c.loop-number.number in
    let nets : c.nets-nets.result.now ≡ netlist.nets = c.nets-nets.ensures.entry in
    let within : number < length netlist.nets = subst (λ (ns : List Net). number < length ns) nets c.loop-number-test.true in
    let is = subst (λ (ns : List Net). c.index-nets-number.result ≡ get_or ns number c.index-nets-number.result) nets c.index-nets-number.is in
    let there = net_there netlist.nets number c.index-nets-number.result within is in
    let lines = net_lines netlist c.args.placed.now.placement.now c.args.placed.now.device.now c.args.lists.now in
    let text = net_text netlist c.args.placed.now.placement.now c.args.placed.now.device.now c.args.lists.now number c.loop-number.place c.index-nets-number.result there c.loop-number.invariant.1 in
    let sent = rw text at c.put_net.ensures in
    lacks_for_good (lacks_next c.loop-number.invariant.0 (nets_next lines number (length netlist.nets) within) sent) (sym c.is_broken.ensures ∙ c.if-is_broken.true)

pub overflow_add-place : goal.overflow_add-place
overflow_add-place g c =
    let netlist = c.args.placed.now.netlist.now in
    let number = c.loop-number.number in
    let nets : c.nets-nets.result.now ≡ netlist.nets = c.nets-nets.ensures.entry in
    let within : number < length netlist.nets = subst (λ (ns : List Net). number < length ns) nets c.loop-number-test.true in
    let one : c.list_count-place.result ≡ (if is_routed_net c.index-nets-number.result then 1 else 0) = c.list_count-place.ensures in
    let few = few_routed netlist number in
    grind (arith, one, few, within, c.loop-number.invariant.1, c.nets-nets.ensures.facts.few_nets)

pub loop-number-preserved : goal.loop-number-preserved
loop-number-preserved g c =
    let netlist = c.args.placed.now.netlist.now in
    let number = c.loop-number.number in
    let nets : c.nets-nets.result.now ≡ netlist.nets = c.nets-nets.ensures.entry in
    let within : number < length netlist.nets = subst (λ (ns : List Net). number < length ns) nets c.loop-number-test.true in
    let is = subst (λ (ns : List Net). c.index-nets-number.result ≡ get_or ns number c.index-nets-number.result) nets c.index-nets-number.is in
    let there = net_there netlist.nets number c.index-nets-number.result within is in
    let lines = net_lines netlist c.args.placed.now.placement.now c.args.placed.now.device.now c.args.lists.now in
    let text = net_text netlist c.args.placed.now.placement.now c.args.placed.now.device.now c.args.lists.now number c.loop-number.place c.index-nets-number.result there c.loop-number.invariant.1 in
    let sent = rw text at c.put_net.ensures in
    let one : c.list_count-place.result ≡ (if is_routed_at netlist number then 1 else 0) = c.list_count-place.ensures ∙ ap (λ (n : Net). if is_routed_net n then 1 else 0) (sym there) in
    (lacks_next c.loop-number.invariant.0 (nets_next lines number (length netlist.nets) within) sent, omega (arith, one, c.loop-number.invariant.1, routed_next netlist number))

pub returns : goal.returns
returns g c =
    let sink = g.W.ByteSink in
    let netlist = c.args.placed.now.netlist.now in
    let count = length netlist.nets in
    let lines = net_lines netlist c.args.placed.now.placement.now c.args.placed.now.device.now c.args.lists.now in
    let past : count ≤ c.loop-number.number = subst (λ (ns : List Net). length ns ≤ c.loop-number.number) c.nets-nets.ensures.entry c.loop-number-test.false in
    let old = c.args.out.now in
    let now = c.loop-number.out in
    lacks_nothing (subst (λ (rest : List ℕ). Lacks sink old now rest (nets_text lines 0 count)) (nets_end lines c.loop-number.number count past) c.loop-number.invariant.0)

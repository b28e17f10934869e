use Rattle.std.proofs.Common.{length, sym, ap, ◌∙◌, arith}
use Rattle.rr_graph.proofs.Designs.{routed_more, skipped_one, all_routed}
use Rattle.rr_graph.proofs.design.nets_of_design.Goals as goal
use Rattle.rr_graph.proofs.design.nets_of_design.Goals.{then-is_routed+in_ok-net_on_device+in_ok-push, else-is_routed}

pub loop-n-preserved : goal.loop-n-preserved
loop-n-preserved c =
    let f = c.args.device.now in
    let more = routed_more f c.args.netlist.now c.args.placement.now c.nets-nets.result.now c.loop-n.n c.index-nets-n.result c.loop-n.list.items c.nets-nets.ensures.entry c.loop-n-test.true c.index-nets-n.is c.loop-n.invariant in
    let skipped = skipped_one f c.args.netlist.now c.args.placement.now c.nets-nets.result.now c.loop-n.n c.index-nets-n.result c.loop-n.list.items c.nets-nets.ensures.entry c.loop-n-test.true c.index-nets-n.is c.loop-n.invariant in
    elim c.if-is_routed.branch [
      | then-is_routed+in_ok-net_on_device+in_ok-push w ↦
          more (sym w.if-is_routed.ensures) w.in_ok-net_on_device.field-0 w.in_ok-net_on_device.ensures c.if-is_routed.list.items (ap (λ v. v.items) w.list-is ∙ w.in_ok-push.ensures.items)
      | else-is_routed w ↦ ap (λ v. v.items) w.list-is ∙ skipped (sym w.if-is_routed.ensures)
    ]

pub returns-clause-nets : goal.returns-clause-nets
returns-clause-nets c =
    all_routed c.args.device.now c.args.netlist.now c.args.placement.now c.loop-n.n c.loop-n.list.items (omega (arith, c.loop-n-test.false, c.loop-n.auto.n-end, ap length c.nets-nets.ensures.entry)) c.loop-n.invariant

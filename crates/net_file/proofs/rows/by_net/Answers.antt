use Rattle.std.proofs.Common.{◌≡◌, length, flat_map, subst, ◌∙◌, arith}
use Rattle.std.specs.List.{range_with_len}
use Rattle.net_file.specs.Connections.{connections_at, connections}
use Rattle.net_file.specs.kept.Rows.{IsFiled}
use Rattle.net_file.proofs.Filing.{none_filed, block_written, all_filed}
use Rattle.net_file.proofs.rows.by_net.Goals as goal

pub loop-b-init : goal.loop-b-init
loop-b-init c = (c.in_ok-rows.ensures.count, none_filed c.in_ok-rows.rows.items c.in_ok-rows.ensures.empty)

pub loop-b-preserved : goal.loop-b-preserved
loop-b-preserved c =
    let blocks = connections_at c.args.pins.now c.args.numbers.now c.args.blocks.now in
    block_written c.loop-b.rows.items c.file_all.new.rows _ blocks c.loop-b.b c.args.count c.loop-b.rows.len c.deref.result.now
    (c.deref.ensures.value ∙ c.in_ok-connections.ensures)
    (rw c.deref_mut.ensures.value at c.in_ok-file_all.ensures)
    c.loop-b.rows.ok.0 c.loop-b.invariant

pub returns : goal.returns
unfolding connections
returns c =
    let end : c.loop-b.b ≡ length c.args.blocks.now = omega (arith, c.loop-b-test.false, c.loop-b.auto.b-end) in
    let blocks = connections_at c.args.pins.now c.args.numbers.now c.args.blocks.now in
    all_filed (connections c.args.pins.now c.args.numbers.now c.args.blocks.now) c.loop-b.rows.items c.args.count
    (subst (λ n. (length c.loop-b.rows.items ≡ c.args.count) × IsFiled (flat_map blocks (range_with_len 0 n)) c.loop-b.rows.items) end c.loop-b.invariant)

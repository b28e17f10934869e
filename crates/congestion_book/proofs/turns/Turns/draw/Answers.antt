use Rattle.std.proofs.Common.{◌<◌, length, Some, arith, length-set}
use Rattle.congestion_book.specs.kept.Fields.{table_of}
use Rattle.congestion_book.proofs.Turning.{draw_in_order, draw_all}
use Rattle.congestion_book.proofs.turns.Turns.draw.Goals as goal

pub invariant_of-self : goal.invariant_of-self
invariant_of-self c =
    let t = table_of c.self.inside in
    let kept = c.self.invariant in
    let below : t.drawn < length t.holders = omega (arith, c.if-net-len.false, c.len.ensures, kept.order.drawn) in
    let same = length-set t.holders t.drawn (Some c.args.worker) in
    record {
      order = draw_in_order t c.args.worker kept.order below;
      all = draw_all t c.args.worker kept.order below kept.all;
      few_nets = rw same kept.few_nets;
      room = rw same kept.room;
      few = kept.few;
      more = kept.more;
    }

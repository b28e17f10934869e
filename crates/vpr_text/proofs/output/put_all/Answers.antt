use Rattle.std.proofs.Common.{[], false, List, ℕ, sym, subst}
use Rattle.vpr_text.specs.Output.{Prints, stream}
use Rattle.vpr_text.proofs.Printing.{takes_more}
use Rattle.vpr_text.proofs.output.put_all.Goals as goal

pub loop-rest-preserved : goal.loop-rest-preserved
loop-rest-preserved g c =
    let sink = g.W.ByteSink in
    let first = stream (sink.taken c.args.sink.now) (sink.failed c.args.sink.now) (record { held = c.args.bytes.now; broken = false }) in
    let more = takes_more first (sink.taken c.loop-rest.sink) (sink.taken c.put.new.self) (sink.failed c.loop-rest.sink) (sink.failed c.put.new.self) c.loop-rest.rest.now c.in_ok-count.count [] c.loop-rest.invariant c.in_ok-count.ensures.bytes c.in_ok-count.ensures.breaks in
    subst (λ (r : List ℕ). Prints first (stream (sink.taken c.put.new.self) (sink.failed c.put.new.self) (record { held = r; broken = false })) []) (sym c.split_at.ensures.back) more

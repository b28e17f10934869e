use Rattle.std.proofs.Common.{subst}
use Rattle.vpr_text.specs.Output.{Sends, stream}
use Rattle.vpr_text.proofs.Printing.{sends_then}
use Rattle.text_output.proofs.Pieces.{pieces_more}
use Rattle.text_output.proofs.piece.put_pieces.Goals as goal

pub loop-piece-preserved : goal.loop-piece-preserved
loop-piece-preserved g c =
    let sink = g.W.ByteSink in
    let s = stream (sink.taken c.args.sink.now) (sink.failed c.args.sink.now) c.args.out.now in
    let t = stream (sink.taken c.put_piece.new.sink) (sink.failed c.put_piece.new.sink) c.put_piece.new.out in
    let more = pieces_more c.args.pieces.now c.loop-piece.piece-index c.piece-item.result c.loop-piece-test.true c.piece-item.is in
    subst (Sends s t) more (sends_then c.loop-piece.invariant c.put_piece.ensures)

use Rattle.std.proofs.Common.{take}
use Rattle.vpr_text.specs.Output.{SendsTo}
use Rattle.text_output.specs.Pieces.{pieces_text}
use Rattle.text_output.proofs.piece.put_pieces.Given as goal

abbrev pub invariant-loop-piece : goal.invariant-loop-piece
invariant-loop-piece g l =
    SendsTo g.W.ByteSink.taken g.W.ByteSink.failed l.initial.sink l.sink l.initial.out l.out (pieces_text (take l.piece-index l.pieces))

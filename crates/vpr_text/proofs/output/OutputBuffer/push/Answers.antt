use Rattle.vpr_text.proofs.Printing.{sends_held, sends_then}
use Rattle.vpr_text.proofs.output.OutputBuffer.push.Goals as goal

pub returns-then-bytes-gt-ROOM : goal.returns-then-bytes-gt-ROOM
returns-then-bytes-gt-ROOM g c = sends_then c.make_room.ensures.sends c.pass.ensures

pub returns : goal.returns
returns g c =
    let sink = g.W.ByteSink in
    sends_then c.make_room.ensures.sends (sends_held (sink.taken c.make_room.new.sink) (sink.failed c.make_room.new.sink) c.make_room.new.self c.hold.new.self c.args.bytes.now c.hold.ensures.held c.hold.ensures.stays)

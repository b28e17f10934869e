use Rattle.std.proofs.Common.{◌+◌, ◌++◌}
use Rattle.rr_edges.specs.kept.Fanouts.{numbers_of, by_place}
use Rattle.rr_edges.proofs.Pushes.{room_first, room_then}
use Rattle.rr_edges.proofs.Fanouts.{row_room}
use Rattle.rr_edges.proofs.fanout.Fanout.push_along_row.Goals as goal

pub push-requires : goal.push-requires
push-requires c =
    let fanout = c.args.self in
    let beside = numbers_of fanout.beside in
    let crossing = by_place fanout.crossing (c.args.places + 1) in
    room_first _ beside crossing (room_then c.push_with.ensures (beside ++ crossing) (row_room fanout c.args.places c.requires.places c.args.list.now c.requires.room))

pub push_by_place-requires-clause-room : goal.push_by_place-requires-clause-room
push_by_place-requires-clause-room c =
    let fanout = c.args.self in
    let beside = numbers_of fanout.beside in
    let crossing = by_place fanout.crossing (c.args.places + 1) in
    room_then c.push.ensures crossing (room_then c.push_with.ensures (beside ++ crossing) (row_room fanout c.args.places c.requires.places c.args.list.now c.requires.room))

use Rattle.std.proofs.Common.{ℕ, List, length, sym, subst}
use Rattle.smallvec.specs.SmallVec.{HasRoomFor}
use Rattle.rr_edges.specs.kept.Pushes.{Pushes}
use Rattle.rr_edges.proofs.Fanouts.{by_place_one}
use Rattle.rr_edges.proofs.fanout.Meeting.push_by_place.Goals as goal

pub push-requires-clause-room : goal.push-requires-clause-room
push-requires-clause-room c = subst (λ (ns : List ℕ). HasRoomFor c.args.list.now (length ns)) (by_place_one c.args.self c.args.count c.in-None.is) c.requires.room

pub returns-in-None : goal.returns-in-None
returns-in-None c = subst (λ ns. Pushes c.args.list.now ns c.push.new.list) (sym (by_place_one c.args.self c.args.count c.in-None.is)) c.push.ensures

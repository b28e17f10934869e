use Rattle.std.proofs.Common.{Result, Ok, Err, OnErr, sym}
use Rattle.wave_queue.proofs.Bucketed.{bucketed_more, bucketed_same, entries_more, entries_same}
use Rattle.wave_queue.proofs.queue.Queue.push.Goals as goal

always : {T E P : Type 0} (r : Result T E) → P → OnErr r P
always (Ok x) p = tt
always (Err e) p = p

pub returns-in_err-make_room-clause-err : goal.returns-in_err-make_room-clause-err
returns-in_err-make_room-clause-err g c = always c.from_residual.result (entries_same g.K.Key.value c.self.inside.buckets c.make_room.new.self c.args.self.now c.make_room.ensures.same c.self.view_is)

pub invariant_of-self : goal.invariant_of-self
invariant_of-self g c = bucketed_same g.K.Key.value c.self.inside.buckets c.make_room.new.self c.self.inside.low c.self.inside.end c.self.inside.count c.make_room.ensures.same c.make_room.ensures.more c.self.invariant

pub returns-in_err-put-clause-err : goal.returns-in_err-put-clause-err
returns-in_err-put-clause-err g c = always c.from_residual-in_err-put.result (rw c.in_err-put.ensures.err (entries_same g.K.Key.value c.self.inside.buckets c.make_room.new.self c.args.self.now c.make_room.ensures.same c.self.view_is))

pub invariant_of-self-in_err-put : goal.invariant_of-self-in_err-put
invariant_of-self-in_err-put g c = rw c.in_err-put.ensures.err (bucketed_same g.K.Key.value c.self.inside.buckets c.make_room.new.self c.self.inside.low c.self.inside.end c.self.inside.count c.make_room.ensures.same c.make_room.ensures.more c.self.invariant)

pub invariant_of-self-2 : goal.invariant_of-self-2
invariant_of-self-2 g c =
    bucketed_more g.K.Key.value c.make_room.new.self c.put.new.self c.self.inside.low c.self.inside.end _ _ c.self.inside.count c.bucket-at.result c.args.entry
    c.in_ok-put.ensures.ok (sym c.bucket-at.ensures.exact) c.in_ok-make_room.ensures.room c.min-self-inside.ensures c.max-self-inside.ensures
    (bucketed_same g.K.Key.value c.self.inside.buckets c.make_room.new.self c.self.inside.low c.self.inside.end c.self.inside.count c.make_room.ensures.same c.make_room.ensures.more c.self.invariant)

pub returns-clause-ok : goal.returns-clause-ok
returns-clause-ok g c =
    entries_more g.K.Key.value c.make_room.new.self c.put.new.self c.bucket-at.result c.args.entry c.args.self.now c.in_ok-put.ensures.ok c.in_ok-make_room.ensures.room
    (entries_same g.K.Key.value c.self.inside.buckets c.make_room.new.self c.args.self.now c.make_room.ensures.same c.self.view_is)

use Rattle.std.proofs.Common.{arith}
use Rattle.wave_queue.proofs.Rows.{put_back}
use Rattle.wave_queue.proofs.buckets.take_from.Goals as goal

pub returns-clause-taken : goal.returns-clause-taken
returns-clause-taken g c =
    put_back c.args.buckets.now.items c.args.at c.index_mut.result.now c.take_last.new.self c.take_last.result (omega (arith, c.args.buckets.now.ok.0, c.requires.within)) c.index_mut.ensures.value c.take_last.ensures

use Rattle.std.proofs.Common.{◌≡◌, ◌+◌, ◌<◌, min, length, arith}
use Rattle.wave_queue.specs.kept.Buckets.{bucket_of}
use Rattle.wave_queue.proofs.Bucketed.{all_past, is_lowest, bucketed_from, bucketed_less, entries_less}
use Rattle.wave_queue.proofs.queue.Queue.pop_to.Goals as goal

pub invariant_of-self : goal.invariant_of-self
invariant_of-self g c =
    bucketed_from g.K.Key.value c.self.inside.buckets c.self.inside.low c.first_used-self-inside.result c.self.inside.end c.self.inside.count c.first_used-self-inside.ensures.empty c.self.invariant

pub returns-then-end-self-clause-none : goal.returns-then-end-self-clause-none
returns-then-end-self-clause-none g c =
    let rows = c.self.inside.buckets in
    let low = c.first_used-self-inside.result in
    let bucketed = bucketed_from g.K.Key.value rows c.self.inside.low low c.self.inside.end c.self.inside.count c.first_used-self-inside.ensures.empty c.self.invariant in
    let stop : c.min-end.result ≡ min c.self.inside.end (bucket_of (g.K.Key.value c.args.bound) + 1) = omega (arith, c.min-end.ensures, c.bucket.ensures.exact) in
    all_past g.K.Key.value rows low c.self.inside.end c.min-end.result c.self.inside.count c.args.bound c.args.self.now stop c.if-end-self.true bucketed c.self.view_is

pub overflow_sub-self : goal.overflow_sub-self
overflow_sub-self g c =
    let rows = c.self.inside.buckets in
    let low = c.first_used-self-inside.result in
    let took = c.take_from-entry in
    let within : low < length rows = omega (arith, c.if-end-self.false, c.min-end.ensures, c.self.invariant.within) in
    (bucketed_less g.K.Key.value rows took.new.self c.self.inside.low c.self.inside.end c.self.inside.count low took.result took.ensures.taken within took.ensures.count c.self.invariant).0

pub invariant_of-self-2 : goal.invariant_of-self-2
invariant_of-self-2 g c =
    let rows = c.self.inside.buckets in
    let low = c.first_used-self-inside.result in
    let took = c.take_from-entry in
    let bucketed = bucketed_from g.K.Key.value rows c.self.inside.low low c.self.inside.end c.self.inside.count c.first_used-self-inside.ensures.empty c.self.invariant in
    let within : low < length rows = omega (arith, c.if-end-self.false, c.min-end.ensures, c.self.invariant.within) in
    (bucketed_less g.K.Key.value rows took.new.self low c.self.inside.end c.self.inside.count low took.result took.ensures.taken within took.ensures.count bucketed).1

pub returns-clause-some : goal.returns-clause-some
returns-clause-some g c =
    let rows = c.self.inside.buckets in
    let low = c.first_used-self-inside.result in
    let took = c.take_from-entry in
    let within : low < length rows = omega (arith, c.if-end-self.false, c.min-end.ensures, c.self.invariant.within) in
    entries_less g.K.Key.value rows took.new.self low took.result c.args.self.now took.ensures.taken within took.ensures.count c.self.view_is

pub returns-clause-lowest : goal.returns-clause-lowest
returns-clause-lowest g c =
    let rows = c.self.inside.buckets in
    let low = c.first_used-self-inside.result in
    let took = c.take_from-entry in
    let bucketed = bucketed_from g.K.Key.value rows c.self.inside.low low c.self.inside.end c.self.inside.count c.first_used-self-inside.ensures.empty c.self.invariant in
    let stop : c.min-end.result ≡ min c.self.inside.end (bucket_of (g.K.Key.value c.args.bound) + 1) = omega (arith, c.min-end.ensures, c.bucket.ensures.exact) in
    is_lowest g.K.Key.value rows took.new.self low c.self.inside.end c.min-end.result c.self.inside.count c.args.bound took.result c.args.self.now stop c.if-end-self.false took.ensures.taken took.ensures.count bucketed c.self.view_is

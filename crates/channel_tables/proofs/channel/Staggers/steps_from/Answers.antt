use Rattle.std.proofs.Common.{◌+◌, ◌-◌, sym, arith}
use Rattle.channel_tables.proofs.Ranges.{first_in_range}
use Rattle.channel_tables.specs.Wires.{begins, steps_of}
use Rattle.channel_tables.proofs.channel.Staggers.steps_from.Goals as goal

pub returns-then-begins_at-clause-steps : goal.returns-then-begins_at-clause-steps
unfolding steps_of
returns-then-begins_at-clause-steps c =
    let f = c.args.self.now.layout.now in
    let place = c.args.place in
    sym (first_in_range (begins f c.args.self.now.places c.args.track) (place + 1) (c.args.self.now.places - place) c.loop-steps.steps (omega arith) c.loop-steps.invariant
    (λ _. (cc)))

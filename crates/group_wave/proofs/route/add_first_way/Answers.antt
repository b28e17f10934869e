use Rattle.std.proofs.Common.{inr, refl}
use Rattle.group_wave.proofs.FirstWays.{first_shut, only_in, only_kind, only_origins}
use Rattle.group_wave.proofs.route.add_first_way.Goals as goal

pub start_output-requires-clause-pin : goal.start_output-requires-clause-pin
start_output-requires-clause-pin g c = only_kind c.args.ground.now c.requires.ground c.args.pin c.requires.pin

pub start_output-requires-clause-there : goal.start_output-requires-clause-there
start_output-requires-clause-there g c = only_in c.args.ground.now c.requires.ground c.args.pin c.requires.pin

pub returns-in_default-clause-shut : goal.returns-in_default-clause-shut
returns-in_default-clause-shut g c _ all = first_shut c.args.ground.now c.requires.ground c.args.pin c.requires.pin c.take_sink.new.self
    ((c.in_ok-sink.ensures.settles.origins c.args.pin).1 ((c.in_ok-start_output.ensures.starts.origins c.args.pin).1 (inr refl)))
    (only_origins c.args.scratch.now.wave c.start_output.new.self c.take_sink.new.self c.args.pin c.requires.origins c.in_ok-start_output.ensures.starts.origins c.in_ok-sink.ensures.settles.origins)
    (rw all at (rw c.in_default.is at c.in_ok-sink.ensures.spent))

pub attach_first-requires-clause-origins : goal.attach_first-requires-clause-origins
attach_first-requires-clause-origins g c v o = rw (only_origins c.args.scratch.now.wave c.start_output.new.self c.take_sink.new.self c.args.pin c.requires.origins c.in_ok-start_output.ensures.starts.origins c.in_ok-sink.ensures.settles.origins v o) c.requires.pin

pub attach_first-requires-clause-taken : goal.attach_first-requires-clause-taken
attach_first-requires-clause-taken g c = rw c.in-Some.is at c.in_ok-sink.ensures.taken

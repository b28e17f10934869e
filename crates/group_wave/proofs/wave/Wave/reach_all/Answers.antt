use Rattle.std.proofs.Common.{length, slice_index_or, subst, sym, ap, arith}
use Rattle.track_groups.specs.declared.group.Tap.{Tap}
use Rattle.track_groups.specs.Joints.{taps_of}
use Rattle.wave_queue.specs.kept.Queues.{entry_of}
use Rattle.group_wave.specs.kept.Steps.{IsTapOf, TookTap}
use Rattle.group_wave.proofs.Entered.{live_down, spreads_then}
use Rattle.group_wave.proofs.Tapped.{tap_told, took_all, took_more}
use Rattle.track_groups.specs.Groups.{on_track}
use Rattle.track_groups.proofs.OnTracks.{on_within}
use Rattle.wave_ground.specs.kept.Grounds.{groups_of}
use Rattle.group_wave.proofs.wave.Wave.reach_all.Goals as goal

pub group-group-requires : goal.group-group-requires
group-group-requires g c =
    let live = c.requires.entry in
    on_within (groups_of c.args.ground.now) (on_track c.args.entry.group live.some.0) (live.tracks live.some.0 live.some.1)

pub reach-requires-clause-out : goal.reach-requires-clause-out
reach-requires-clause-out g c = record {
  ground = c.requires.ground;
  wave = c.loop-tap.invariant.spreads.wave;
  group = c.group-group.ensures.group;
  small = c.group-group.ensures.small;
  live = live_down c.args.ground.now c.args.self.now c.loop-tap.self (entry_of g.K.Key.value c.args.entry) c.loop-tap.invariant.spreads c.requires.entry;
  fits = c.requires.fits;
}

abbrev none : Tap
none = record { pin = 0; sink = 0; tracks = 0 }

pub reach-requires-clause-tap : goal.reach-requires-clause-tap
reach-requires-clause-tap g c =
    let same = c.taps-tap-items.ensures in
    let size = ap (λ xs. length xs) same in
    subst (λ xs. IsTapOf c.args.ground.now c.args.entry.group (slice_index_or xs c.loop-tap.tap-index none)) (sym same)
    (tap_told c.args.ground.now c.requires.ground c.args.entry.group c.loop-tap.tap-index none (omega (arith, size, c.loop-tap-test.true)))

pub loop-tap-preserved : goal.loop-tap-preserved
loop-tap-preserved g c = record {
  spreads = spreads_then c.args.ground.now c.args.self.now c.loop-tap.self c.reach.new.self c.loop-tap.invariant.spreads c.in_ok-reach.ensures.spreads;
  took = took_more c.args.ground.now c.loop-tap.self c.reach.new.self (entry_of g.K.Key.value c.args.entry) (taps_of c.args.ground.now.tables c.args.entry.group) c.loop-tap.tap-index none c.loop-tap.invariant.took c.in_ok-reach.ensures.spreads
      (subst (λ xs. TookTap c.args.ground.now c.reach.new.self (entry_of g.K.Key.value c.args.entry) (slice_index_or xs c.loop-tap.tap-index none)) c.taps-tap-items.ensures c.in_ok-reach.ensures.took);
}

pub returns-clause-took : goal.returns-clause-took
returns-clause-took g c =
    let size = ap (λ xs. length xs) c.taps-tap-items.ensures in
    took_all c.args.ground.now c.loop-tap.self (entry_of g.K.Key.value c.args.entry) (taps_of c.args.ground.now.tables c.args.entry.group) c.loop-tap.tap-index (omega (arith, size, c.loop-tap-test.false)) c.loop-tap.invariant.took

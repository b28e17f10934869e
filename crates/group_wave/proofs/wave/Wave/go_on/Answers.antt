use Rattle.std.proofs.Common.{ap, refl, rules, w64, arith}
use Rattle.std.proofs.lemmas.Nat.Bits.{bit_at-trailing_zeros}
use Rattle.std.specs.Int.{trailing_zeros}
use Rattle.track_groups.specs.Groups.{node_on, on_track}
use Rattle.track_groups.proofs.OnTracks.{on_within}
use Rattle.wave_ground.specs.kept.Grounds.{groups_of}
use Rattle.wave_queue.specs.kept.Queues.{entry_of}
use Rattle.group_wave.proofs.Grouped.{wire_within}
use Rattle.group_wave.proofs.GoneOn.{left_live, left_owed, none_owed, settles_refl}
use Rattle.group_wave.proofs.wave.Wave.go_on.Goals as goal

pub returns-then-entry-eq0-clause-settles : goal.returns-then-entry-eq0-clause-settles
returns-then-entry-eq0-clause-settles g c = settles_refl c.args.ground.now c.args.self.now c.requires.wave (none_owed c.args.ground.now c.args.self.now (entry_of g.K.Key.value c.args.entry) c.if-entry-eq0.true c.requires.but)

pub group-group-requires : goal.group-group-requires
group-group-requires g c =
    let one = bit_at-trailing_zeros w64 c.args.entry.tracks (omega (arith, c.if-entry-eq0.false)) (search rules) in
    on_within (groups_of c.args.ground.now) (on_track c.args.entry.group (trailing_zeros w64 c.args.entry.tracks)) (c.requires.tracks (trailing_zeros w64 c.args.entry.tracks) one.1)

pub tracks_left-tracks-requires-clause-there : goal.tracks_left-tracks-requires-clause-there
tracks_left-tracks-requires-clause-there g c j one =
    let within = wire_within c.args.ground.now c.requires.ground (on_track c.args.entry.group j) (c.requires.tracks j one) in
    let at = ap (λ is. node_on is j) c.group-group.ensures.group in
    let rows = c.requires.wave.rows in
    omega (arith, within, at, rows)

pub returns-then-tracks-eq0-clause-settles : goal.returns-then-tracks-eq0-clause-settles
returns-then-tracks-eq0-clause-settles g c = settles_refl c.args.ground.now c.args.self.now c.requires.wave
    (none_owed c.args.ground.now c.args.self.now (record { key = g.K.Key.value c.args.entry.key; label = g.K.Key.value c.args.entry.label; group = c.args.entry.group; tracks = c.tracks_left-tracks.result; begun = c.args.entry.is_begun }) c.if-tracks-eq0.true
    (left_owed c.args.ground.now c.args.self.now (entry_of g.K.Key.value c.args.entry) _ c.tracks_left-tracks.result (rw c.group-group.ensures.group at c.tracks_left-tracks.ensures) refl refl refl c.requires.but))

pub go_on_from-requires-clause-out : goal.go_on_from-requires-clause-out
go_on_from-requires-clause-out g c =
    let one = bit_at-trailing_zeros w64 c.tracks_left-tracks.result (omega (arith, c.if-tracks-eq0.false)) (search rules) in
    record {
      ground = c.requires.ground;
      wave = c.requires.wave;
      group = c.group-group.ensures.group;
      small = c.group-group.ensures.small;
      live = left_live c.args.ground.now c.args.self.now (entry_of g.K.Key.value c.args.entry) _ c.tracks_left-tracks.result (rw c.group-group.ensures.group at c.tracks_left-tracks.ensures) c.requires.tracks refl refl refl (trailing_zeros w64 c.tracks_left-tracks.result) one.1;
      fits = c.requires.fits;
    }

pub go_on_from-requires-clause-but : goal.go_on_from-requires-clause-but
go_on_from-requires-clause-but g c = left_owed c.args.ground.now c.args.self.now (entry_of g.K.Key.value c.args.entry) _ c.tracks_left-tracks.result (rw c.group-group.ensures.group at c.tracks_left-tracks.ensures) refl refl refl c.requires.but

use Rattle.std.proofs.Common.{◌≡◌, ◌+◌, ◌*◌, ◌<◌, arith, length, slice_index_or, refl, ap, sym, ◌∙◌}
use Rattle.track_groups.specs.declared.group.Group.{Group}
use Rattle.track_groups.specs.Groups.{group_at, on_track}
use Rattle.track_groups.specs.Joints.{wire_beside}
use Rattle.wave_ground.specs.kept.Grounds.{groups_of}
use Rattle.wave_queue.specs.kept.Queues.{entry_of}
use Rattle.group_wave.specs.kept.WaveState.{FAR, Wave}
use Rattle.group_wave.specs.kept.Wave.{cost_at, unreached}
use Rattle.group_wave.proofs.Beside.{beside_on, beside_step, beside_within}
use Rattle.group_wave.proofs.Costs.{cost_below}
use Rattle.group_wave.proofs.Grouped.{wire_within}
use Rattle.group_wave.proofs.Relaxed.{relaxed_low}
use Rattle.group_wave.proofs.wave.Wave.is_settled.Goals as goal

pub group-beside-requires : goal.group-beside-requires
group-beside-requires g c = beside_within c.args.ground.now (entry_of g.K.Key.value c.args.entry) c.requires.ground c.args.neighbour c.requires.beside c.requires.entry.tracks c.args.self.now c.requires.entry

pub row-row-requires : goal.row-row-requires
row-row-requires g c =
    let ground = c.args.ground.now in
    let on = beside_on ground (entry_of g.K.Key.value c.args.entry) c.requires.ground c.args.neighbour c.requires.beside c.requires.entry.tracks c.args.track c.requires.track.has in
    let at = ap (λ (x : Group). x.base + c.args.track * x.stride) c.group-beside.ensures.group in
    let within = wire_within ground c.requires.ground (on_track c.args.neighbour c.args.track) on in
    let rows = c.requires.wave.rows in
    let same = ap (λ (w : Wave). length w.labels) c.self.view_is in
    omega (arith, at, within, rows, same)

pub returns : goal.returns
returns g c settled j one inside =
    let value = g.K.Key.value in
    let greatest = g.K.Key.greatest in
    let ground = c.args.ground.now in
    let was = c.args.self.now in
    let here = c.requires.track.only j one in
    let wire = wire_beside (groups_of ground) j c.args.neighbour in
    let at : c.group-beside.result.base + c.args.track * c.group-beside.result.stride ≡ wire = ap (λ (x : Group). x.base + c.args.track * x.stride) c.group-beside.ensures.group ∙ ap (λ t. wire_beside (groups_of ground) t c.args.neighbour) (sym here) in
    let less = c.is_below.ensures.0 settled in
    let least = c.plus.ensures in
    let cut = c.cut.ensures in
    let is = c.row-row.ensures.label ∙ ap (λ w. slice_index_or w.labels (c.group-beside.result.base + c.args.track * c.group-beside.result.stride) unreached) c.self.view_is in
    let same = cost_below value greatest c.row-row.result _ is (omega (arith, less, least)) in
    let there = ap (cost_at was) at in
    let near : value c.args.entry.label < FAR = omega (arith, c.requires.fits, g.met.K.Key.narrow) in
    let step = beside_step ground (entry_of value c.args.entry) c.requires.ground c.args.neighbour c.requires.beside c.requires.entry.tracks was (group_at (groups_of ground) c.args.entry.group) refl c.requires.entry near j one inside in
    (relaxed_low ground c.requires.ground was c.requires.wave (value c.args.entry.label) wire _ step (value c.plus.result) (omega (arith, same, there, less)) (omega (arith, least, cut))).went

use Rattle.std.proofs.Common.{◌≡◌, ◌+◌, ◌*◌, ◌<◌, arith, length, slice_index_or, ap, sym, subst, ◌∙◌}
use Rattle.std.proofs.lemmas.Result.{on_ok_weaker}
use Rattle.track_groups.specs.declared.group.Group.{Group}
use Rattle.track_groups.specs.Groups.{on_track}
use Rattle.track_groups.specs.Joints.{wire_beside}
use Rattle.wavefront.specs.Space.{IsInside}
use Rattle.wave_ground.specs.kept.Grounds.{groups_of}
use Rattle.wave_queue.specs.kept.Queues.{entry_of}
use Rattle.group_wave.specs.kept.WaveState.{FAR, Wave}
use Rattle.group_wave.specs.kept.Wave.{WentOn, cost_at, unreached}
use Rattle.group_wave.proofs.Beside.{beside_from, beside_on, beside_step, beside_target, beside_within}
use Rattle.group_wave.proofs.Costs.{cost_below, no_less}
use Rattle.group_wave.proofs.Grouped.{wire_within}
use Rattle.group_wave.proofs.Relaxed.{relaxed_low}
use Rattle.group_wave.proofs.wave.Wave.expand_track_to_one.Goals as goal

pub group-beside-requires : goal.group-beside-requires
group-beside-requires g c = beside_within c.args.ground.now (entry_of g.K.Key.value c.args.entry) c.requires.out.ground c.args.neighbour c.requires.beside c.requires.out.live.tracks c.args.self.now c.requires.out.live

pub row-row-requires : goal.row-row-requires
row-row-requires g c =
    let ground = c.args.ground.now in
    let on = beside_on ground (entry_of g.K.Key.value c.args.entry) c.requires.out.ground c.args.neighbour c.requires.beside c.requires.out.live.tracks c.args.track c.requires.track.has in
    let at = ap (λ (x : Group). x.base + c.args.track * x.stride) c.group-beside.ensures.group in
    let within = wire_within ground c.requires.out.ground (on_track c.args.neighbour c.args.track) on in
    let rows = c.requires.out.wave.rows in
    let same = ap (λ (w : Wave). length w.labels) c.self.view_is in
    omega (arith, at, within, rows, same)

pub returns-then-is_below-clause-took : goal.returns-then-is_below-clause-took
returns-then-is_below-clause-took g c j one inside =
    let value = g.K.Key.value in
    let greatest = g.K.Key.greatest in
    let ground = c.args.ground.now in
    let was = c.args.self.now in
    let here = c.requires.track.only j one in
    let wire = wire_beside (groups_of ground) j c.args.neighbour in
    let at : c.group-beside.result.base + c.args.track * c.group-beside.result.stride ≡ wire = ap (λ (x : Group). x.base + c.args.track * x.stride) c.group-beside.ensures.group ∙ ap (λ t. wire_beside (groups_of ground) t c.args.neighbour) (sym here) in
    let less = c.is_below.ensures.0 c.if-is_below.true in
    let least = c.plus.ensures in
    let cut = c.cut.ensures in
    let is = c.row-row.ensures.label ∙ ap (λ w. slice_index_or w.labels (c.group-beside.result.base + c.args.track * c.group-beside.result.stride) unreached) c.self.view_is in
    let same = cost_below value greatest c.row-row.result _ is (omega (arith, less, least)) in
    let there = ap (cost_at was) at in
    let near : value c.args.entry.label < FAR = omega (arith, c.requires.out.fits, g.met.K.Key.narrow) in
    let step = beside_step ground (entry_of value c.args.entry) c.requires.out.ground c.args.neighbour c.requires.beside c.requires.out.live.tracks was c.args.group.now c.requires.out.group c.requires.out.live near j one inside in
    (relaxed_low ground c.requires.out.ground was c.requires.out.wave (value c.args.entry.label) wire _ step (value c.plus.result) (omega (arith, same, there, less)) (omega (arith, least, cut))).went

pub relax_alone-requires-clause-from : goal.relax_alone-requires-clause-from
relax_alone-requires-clause-from g c =
    let value = g.K.Key.value in
    let at = ap (λ (x : Group). x.base + c.args.track * x.stride) c.group-beside.ensures.group in
    let near : value c.args.entry.label < FAR = omega (arith, c.requires.out.fits, g.met.K.Key.narrow) in
    rw at (beside_from c.args.ground.now (entry_of value c.args.entry) c.requires.out.ground c.args.neighbour c.requires.beside c.requires.out.live.tracks c.args.self.now c.args.group.now c.requires.out.group c.requires.out.live near c.args.track c.requires.track.has)

pub relax_alone-requires-clause-to : goal.relax_alone-requires-clause-to
relax_alone-requires-clause-to g c =
    let at = ap (λ (x : Group). x.base + c.args.track * x.stride) c.group-beside.ensures.group in
    rw at (beside_target c.args.ground.now (entry_of g.K.Key.value c.args.entry) c.requires.out.ground c.args.neighbour c.requires.beside c.requires.out.live.tracks c.args.track c.requires.track.has)

pub relax_alone-requires-clause-span : goal.relax_alone-requires-clause-span
relax_alone-requires-clause-span g c = ap (λ (x : Group). x.span) c.group-beside.ensures.group

pub relax_alone-requires-clause-some : goal.relax_alone-requires-clause-some
relax_alone-requires-clause-some g c =
    let more = no_less c.is_below.result _ _ c.is_below.ensures c.if-is_below.false in
    let least = c.plus.ensures in
    let cut = c.cut.ensures in
    let some = g.met.K.Key.some in
    omega (arith, more, least, cut, some)

pub returns-clause-spreads : goal.returns-clause-spreads
returns-clause-spreads g c = on_ok_weaker c.relax_alone.result (λ enters. enters.spreads) c.relax_alone.ensures

pub returns-clause-took : goal.returns-clause-took
returns-clause-took g c =
    let ground = c.args.ground.now in
    on_ok_weaker c.relax_alone.result
    (λ enters j one inside.
    let at = ap (λ (x : Group). x.base + c.args.track * x.stride) c.group-beside.ensures.group ∙ ap (λ t. wire_beside (groups_of ground) t c.args.neighbour) (sym (c.requires.track.only j one)) in
    subst (WentOn ground c.relax_alone.new.self (g.K.Key.value c.args.entry.label)) at (enters.went (subst (IsInside ground.space) (sym at) inside)))
    c.relax_alone.ensures

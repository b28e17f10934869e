use Rattle.std.proofs.Common.{◌≡◌, ap, arith, get_or, length, refl, sym, ◌∙◌}
use Rattle.std.proofs.lemmas.List.{get_or_default, length-set}
use Rattle.std.proofs.lemmas.List.Sorted.{length_permutation}
use Rattle.wave_ground.specs.kept.Boxes.{boxed}
use Rattle.wave_ground.specs.kept.Nearest.{sink_box}
use Rattle.group_wave.specs.kept.WaveState.{Wave}
use Rattle.group_wave.proofs.Aimed.{narrowed_one, narrowed_put, shared_around, shared_second}
use Rattle.group_wave.proofs.wave.Wave.narrow_box.Goals as goal

pub returns-then-took_all-clause-narrowed : goal.returns-then-took_all-clause-narrowed
returns-then-took_all-clause-narrowed g c =
    let boxes = c.args.self.now.boxes in
    let gone = c.remove_box-gone.result in
    let same : sink_box gone ≡ sink_box c.box_at-around.result = c.remove_box-gone.ensures.gone ∙ get_or_default boxes c.args.at (sink_box gone) (sink_box c.box_at-around.result) c.requires.there ∙ sym (c.box_at-around.ensures ∙ ap (λ (w : Wave). get_or w.boxes c.args.at (sink_box c.box_at-around.result)) c.self.view_is) in
    narrowed_one c.args.ground.now c.args.self.now c.remove_box-gone.new.self (sink_box c.box_at-around.result) (rw same at c.remove_box-gone.ensures.left) c.requires.serves (c.took_all.ensures c.if-took_all.true)

pub returns-then-took_all-clause-boxes : goal.returns-then-took_all-clause-boxes
returns-then-took_all-clause-boxes g c =
    let size = length_permutation _ _ c.remove_box-gone.ensures.left.boxes in
    omega (arith, size, c.requires.there)

pub returns-else-took_all-clause-narrowed : goal.returns-else-took_all-clause-narrowed
returns-else-took_all-clause-narrowed g c =
    let around = c.box_at-around.result in
    let found : sink_box around ≡ get_or c.args.self.now.boxes c.args.at (sink_box around) = c.box_at-around.ensures ∙ ap (λ (w : Wave). get_or w.boxes c.args.at (sink_box around)) c.self.view_is in
    narrowed_put c.args.ground.now c.args.self.now c.put_box.new.self c.args.at (sink_box around) _ (rw c.shared_with.ensures at c.put_box.ensures) c.requires.there found refl refl
    (λ p low high less target there. shared_around c.args.ground.now.space.device (boxed c.box_left-left.result) (boxed around.place) _ (c.box_left-left.ensures p low high less target) there)
    (shared_second (boxed c.box_left-left.result) (boxed around.place)) c.requires.serves

pub returns-else-took_all-clause-boxes : goal.returns-else-took_all-clause-boxes
returns-else-took_all-clause-boxes g c =
    let size = ap length c.put_box.ensures.boxes in
    let same = length-set c.args.self.now.boxes c.args.at (record { place = boxed c.shared_with.result; from = c.box_at-around.result.from; until = c.box_at-around.result.until }) in
    omega (arith, size, same, c.requires.there)

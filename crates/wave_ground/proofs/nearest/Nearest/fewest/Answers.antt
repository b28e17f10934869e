use Rattle.std.proofs.Common.{◌∙◌, ◌<◌, ap, arith, get_or, length, subst, sym}
use Rattle.std.proofs.lemmas.List.{get_or-map, length-map}
use Rattle.std.specs.List.{Contains}
use Rattle.wavefront.specs.kept.Bounds.{wires_to}
use Rattle.wave_ground.specs.declared.nearest.SinkBox.{SinkBox}
use Rattle.wave_ground.specs.kept.Boxes.{boxed, wire_of}
use Rattle.wave_ground.specs.kept.Nearest.{sink_box}
use Rattle.wave_ground.proofs.nearest.Nearest.fewest.Goals as goal

abbrev none : SinkBox
none = record { place = record { left = 0; right = 0; bottom = 0; top = 0 }; from = 0; until = 0; number = 0 }

pub returns : goal.returns
returns c box has =
    let boxes = c.self.inside.boxes.items in
    let side = c.self.invariant.eights in
    let at = subst (λ bs. Contains bs box) (sym (ap (λ s. s.boxes) c.self.view_is)) has in
    let size = length-map boxes sink_box in
    let within : at.0 < length boxes = omega (arith, size, at.1) in
    let told = ap (λ b. wires_to b.place (wire_of c.args.group.now)) (sym (get_or-map sink_box boxes at.0 none box within) ∙ at.2) in
    let fit = side.fit in
    let low = c.fewest_in-fewest.ensures at.0 (boxed (get_or boxes at.0 none).place) (let same = ap length c.deref.ensures.value in omega (arith, fit, within, same)) (rw c.deref.ensures.value (side.stand at.0 none within)) in
    omega (arith, told, low)

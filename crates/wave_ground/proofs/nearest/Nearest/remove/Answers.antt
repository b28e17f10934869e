use Rattle.std.proofs.Common.{◌≡◌, ◌∙◌, ◌<◌, ap, arith, get_or, length, subst}
use Rattle.std.specs.List.{swap_remove}
use Rattle.std.proofs.lemmas.List.{length-map}
use Rattle.wave_ground.specs.kept.Boxes.{boxed}
use Rattle.wave_ground.specs.kept.EightBoxes.{StandsAt}
use Rattle.wave_ground.specs.kept.Nearest.{sink_box}
use Rattle.wave_ground.proofs.SideBySide.{fewer, one_gone}
use Rattle.wave_ground.proofs.SightRows.{box_found, box_gone}
use Rattle.wave_ground.proofs.nearest.Nearest.remove.Goals as goal

pub returns-clause-gone : goal.returns-clause-gone
returns-clause-gone c = box_found c.self.inside.boxes.items c.swap_remove-gone.result c.args.self.now.boxes c.args.at (ap (λ s. s.boxes) c.self.view_is) c.requires c.swap_remove-gone.ensures.value

pub returns-clause-boxes : goal.returns-clause-boxes
returns-clause-boxes c = box_gone c.self.inside.boxes.items c.swap_remove-gone.result c.args.self.now.boxes c.args.at (ap (λ s. s.boxes) c.self.view_is) c.requires c.swap_remove-gone.ensures.value _ c.swap_remove-gone.ensures.items

pub invariant_of-self : goal.invariant_of-self
invariant_of-self c =
    let boxes = c.self.inside.boxes.items in
    let side = c.self.invariant.eights in
    let gone = c.swap_remove-gone.result in
    let items = c.swap_remove-gone.ensures.items in
    let within : c.args.at < length boxes = (let size = length-map boxes sink_box in let same = ap (λ s. length s.boxes) c.self.view_is in omega (arith, size, same, c.requires)) in
    let left = ap length items in
    let less = fewer boxes c.args.at gone in
    let now = c.put_again.new.eights.items in
    let same : c.deref.result.now ≡ swap_remove boxes c.args.at gone = c.deref.ensures.value ∙ items in
    let size = ap length same in
    record {
      stamped = c.self.invariant.stamped;
      eights = rw items (one_gone boxes c.self.inside.eights.items side c.args.at gone now within
          (c.put_again.ensures.count ∙ c.put_box.ensures.count)
          (λ d lt. subst (λ bs. StandsAt now c.args.at (boxed (get_or bs c.args.at d).place)) same (c.put_again.ensures.put d (omega (arith, lt, size))))
          (λ k d ne lt. c.put_again.ensures.others k _ ne (c.put_box.ensures.others k _ (λ same. omega (arith, same, lt, left, c.len-last.ensures)) (side.stand k d (omega (arith, lt, less))))));
    }

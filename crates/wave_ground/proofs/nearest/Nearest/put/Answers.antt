use Rattle.std.proofs.Common.{◌<◌, ap, arith, length}
use Rattle.std.proofs.lemmas.List.{length-map}
use Rattle.wave_ground.specs.kept.Nearest.{sink_box}
use Rattle.wave_ground.proofs.SideBySide.{one_put}
use Rattle.wave_ground.proofs.SightRows.{box_put}
use Rattle.wave_ground.proofs.nearest.Nearest.put.Goals as goal

pub returns-clause-boxes : goal.returns-clause-boxes
returns-clause-boxes c = box_put c.self.inside.boxes.items _ c.args.self.now.boxes c.args.at (ap (λ s. s.boxes) c.self.view_is)

pub invariant_of-self : goal.invariant_of-self
invariant_of-self c =
    let side = c.self.invariant.eights in
    let within : c.args.at < length c.self.inside.boxes.items = (let size = length-map c.self.inside.boxes.items sink_box in let same = ap (λ s. length s.boxes) c.self.view_is in omega (arith, size, same, c.requires)) in
    record {
      stamped = c.self.invariant.stamped;
      eights = one_put c.self.inside.boxes.items c.self.inside.eights.items side c.args.at _ c.put_box.new.eights.items within c.put_box.ensures.count c.put_box.ensures.put
          (λ k d ne lt. c.put_box.ensures.others k _ ne (side.stand k d lt));
    }

use Rattle.std.proofs.Common.{◌≡◌, ap, arith, length, subst}
use Rattle.wave_ground.specs.kept.Boxes.{boxed}
use Rattle.wave_ground.specs.kept.EightBoxes.{StandsAt}
use Rattle.wave_ground.proofs.SightRows.{pushed_box}
use Rattle.wave_ground.proofs.SideBySide.{one_behind, still_there}
use Rattle.wave_ground.proofs.nearest.Nearest.push.Goals as goal

pub returns-clause-boxes : goal.returns-clause-boxes
returns-clause-boxes c = pushed_box c.self.inside.boxes.items _ c.push.new.self.items c.args.self.now.boxes (ap (λ s. s.boxes) c.self.view_is) c.in_ok-push.ensures.items

pub invariant_of-self : goal.invariant_of-self
invariant_of-self c = record {
  stamped = c.self.invariant.stamped;
  eights = still_there c.self.inside.boxes.items c.self.inside.eights.items c.self.invariant.eights c.make_room.new.eights.items (omega (arith, c.len-at.ensures, c.make_room.ensures.fits)) c.make_room.ensures.others;
}

pub invariant_of-self-in_err-push : goal.invariant_of-self-in_err-push
invariant_of-self-in_err-push c = record {
  stamped = c.self.invariant.stamped;
  eights = rw c.in_err-push.ensures.items (still_there c.self.inside.boxes.items c.self.inside.eights.items c.self.invariant.eights c.make_room.new.eights.items (omega (arith, c.len-at.ensures, c.make_room.ensures.fits)) c.make_room.ensures.others);
}

pub invariant_of-self-2 : goal.invariant_of-self-2
invariant_of-self-2 c =
    let boxes = c.self.inside.boxes.items in
    let room = c.make_room.new.eights.items in
    let old = still_there boxes c.self.inside.eights.items c.self.invariant.eights room (omega (arith, c.len-at.ensures, c.make_room.ensures.fits)) c.make_room.ensures.others in
    let same : c.len-at.result ≡ length boxes = omega (arith, c.len-at.ensures) in
    record {
      stamped = c.self.invariant.stamped;
      eights = rw c.in_ok-push.ensures.items (one_behind boxes room old _ c.put_box.new.eights.items
          (omega (arith, c.len-at.ensures, c.in_ok-make_room.ensures.room, c.put_box.ensures.count))
          (subst (λ n. StandsAt c.put_box.new.eights.items n (boxed c.args.place)) same c.put_box.ensures.put)
          (λ k d lt. c.put_box.ensures.others k _ (λ same. omega (arith, same, lt, c.len-at.ensures)) (old.stand k d lt)));
    }

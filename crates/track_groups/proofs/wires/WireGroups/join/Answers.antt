use Rattle.std.proofs.Common.{◌≡◌, Option, length, subst}
use Rattle.std.specs.Prelude.{IfSome}
use Rattle.track_groups.specs.declared.joining.Joints.{Joints}
use Rattle.track_groups.specs.kept.Joining.{AreTold}
use Rattle.track_groups.proofs.Joined.{told_all}
use Rattle.track_groups.proofs.wires.WireGroups.join.Goals as goal

pub returns-in-Some-clause-joined : goal.returns-in-Some-clause-joined
returns-in-Some-clause-joined c =
    let f = c.args.device.now in
    let t = c.args.self in
    let P : Option Joints → Type 0 = λ o. IfSome o (λ j. AreTold (length t.groups) f t j.neighbours j.taps) in
    let Q : Option Joints → Type 0 = λ o. IfSome o (λ j. length j.taps ≡ length t.groups) in
    told_all f _ c.requires (subst Q c.in-Some.is c.in_ok-joints.ensures.count) (subst P c.in-Some.is c.in_ok-joints.ensures.joined)

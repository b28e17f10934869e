use Rattle.std.proofs.Common.{take, All}
use Rattle.track_groups.specs.Joints.{IsTap}
use Rattle.track_groups.specs.kept.Joining.{AddTaps}
use Rattle.track_groups.proofs.joining.put_taps.Given as goal

abbrev pub invariant-loop-id : goal.invariant-loop-id
invariant-loop-id l = record {
  added : AddTaps l.device (take l.id-index l.ids) l.track l.initial.taps.items l.taps.items;
  taps : All (IsTap l.device) l.taps.items;
}

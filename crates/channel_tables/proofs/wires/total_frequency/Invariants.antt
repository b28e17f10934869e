use Rattle.std.proofs.Common.{◌≡◌, ◌*◌, ◌^◌, ◌≤◌, take}
use Rattle.std.specs.List.{sum_by}
use Rattle.channel_tables.proofs.wires.total_frequency.Given as goal

abbrev pub invariant-loop-segment : goal.invariant-loop-segment
invariant-loop-segment l =
    (l.total ≡ sum_by (λ s. s.frequency) (take l.segment-index l.segments)) × (l.total ≤ 2 ^ 64 * l.segment-index)

use Rattle.std.proofs.Common.{◌≡◌, ◌<◌, ◌^◌, true, take, drop}
use Rattle.std.specs.List.{list_all}
use Rattle.vpr_text.specs.Numbers.{is_digit, value_after}
use Rattle.vpr_text.proofs.numbers.value_after.Given as goal

abbrev pub invariant-loop-byte : goal.invariant-loop-byte
invariant-loop-byte l =
    (l.total < 2 ^ 64) × (list_all is_digit (take l.byte-index l.digits) ≡ true) × (value_after l.total (drop l.byte-index l.digits) ≡ value_after l.value l.digits)

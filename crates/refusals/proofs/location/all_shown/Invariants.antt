use Rattle.std.proofs.Common.{◌≡◌, map, string_bytes, take}
use Rattle.refusals.specs.kept.Locations.{shown_byte}
use Rattle.refusals.proofs.location.all_shown.Given as goal

-- what was pushed is what is shown for the bytes gone over
abbrev pub invariant-loop-byte : goal.invariant-loop-byte
invariant-loop-byte l = string_bytes l.text ≡ map shown_byte (take l.byte-index l.bytes)

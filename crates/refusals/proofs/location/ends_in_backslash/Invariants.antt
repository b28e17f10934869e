use Rattle.std.proofs.Common.{◌≡◌, drop, false}
use Rattle.refusals.proofs.Continued.{last_after}
use Rattle.refusals.proofs.location.ends_in_backslash.Given as goal

-- what is to come decides as all of the text does
abbrev pub invariant-loop-byte : goal.invariant-loop-byte
invariant-loop-byte l = last_after l.is_last (drop l.byte-index l.text) ≡ last_after false l.initial.text

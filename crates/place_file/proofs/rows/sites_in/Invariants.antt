use Rattle.std.proofs.Common.{◌≡◌}
use Rattle.place_file.specs.Lines.{rows_of}
use Rattle.place_file.proofs.Steps.{IsSoFar}
use Rattle.place_file.proofs.rows.sites_in.Given as goal

-- the sites so far are those of the rows so far, and none of them is faulty
abbrev pub invariant-loop-row : goal.invariant-loop-row
invariant-loop-row l = (l.sites.array ≡ l.array) × IsSoFar l.array l.netlist.blocks (rows_of l.lines) l.row l.sites.sites

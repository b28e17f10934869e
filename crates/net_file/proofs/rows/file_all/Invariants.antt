use Rattle.std.proofs.Common.{take}
use Rattle.net_file.specs.kept.Rows.{FilesAll}
use Rattle.net_file.proofs.rows.file_all.Given as goal

-- the connections so far were added
abbrev pub invariant-loop-connection : goal.invariant-loop-connection
invariant-loop-connection l = FilesAll l.initial.rows l.rows (take l.connection-index l.connections)

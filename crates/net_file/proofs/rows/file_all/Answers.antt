use Rattle.std.proofs.Common.{take, subst, sym}
use Rattle.net_file.specs.kept.Rows.{FilesAll}
use Rattle.net_file.proofs.Filing.{files_more}
use Rattle.net_file.proofs.Ranges.{take_next}
use Rattle.net_file.proofs.rows.file_all.Goals as goal

pub loop-connection-preserved : goal.loop-connection-preserved
loop-connection-preserved c =
    subst (λ cs. FilesAll c.args.rows.now c.file.new.rows cs)
    (sym (take_next c.args.connections.now c.loop-connection.connection-index _ c.loop-connection-test.true))
    (files_more c.args.rows.now c.loop-connection.rows c.file.new.rows (take c.loop-connection.connection-index c.args.connections.now) _ c.loop-connection.invariant c.in_ok-file.ensures)

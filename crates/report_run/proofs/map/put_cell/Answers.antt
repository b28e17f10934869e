use Rattle.report_run.specs.Map.{cell_text}
use Rattle.report_run.proofs.map.put_cell.Goals as goal

pub returns : goal.returns
unfolding cell_text
returns g c = rw (c.place_code-code.ensures, c.occupied_at-occupied.ensures, c.occupied_at.ensures) at c.push.ensures

use Rattle.route_file.specs.Text.{block_line}
use Rattle.route_file.proofs.blocks.put_terminal.Goals as goal

pub returns : goal.returns
unfolding block_line
returns g c = rw (c.block_name-name.ensures, c.site_of-site.ensures) at c.put_block.ensures

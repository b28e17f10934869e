use Rattle.text_output.proofs.Printing.{prints_then}
use Rattle.runs.specs.Listing.{listing_of}
use Rattle.runs.proofs.listing.put_listing.Goals as goal

pub returns : goal.returns
unfolding listing_of
returns g c =
    let counts = rw (c.node_count.ensures.count, c.edge_count.ensures) at c.put_counts.ensures in
    prints_then counts (prints_then c.put_lines.ensures c.put_edges.ensures)

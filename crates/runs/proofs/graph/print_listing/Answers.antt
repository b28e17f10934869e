use Rattle.std.proofs.Common.{rules, sym}
use Rattle.run_inputs.proofs.Ending.{printed, broken_text}
use Rattle.runs.proofs.Filled.{listing_filled}
use Rattle.runs.proofs.graph.print_listing.Goals as goal

pub returns-in-Ok-clause-printed : goal.returns-in-Ok-clause-printed
returns-in-Ok-clause-printed g c =
    λ _. printed tt c.new-printer.ensures c.put_listing.ensures c.in-Ok.ensures.prints (search rules) (sym c.in-Ok.ensures.broken) c.in-Ok.ensures.empty (listing_filled c.args.is_typed c.args.device.now)

pub returns-clause-printed : goal.returns-clause-printed
returns-clause-printed g c =
    λ _. broken_text tt c.new-printer.ensures c.put_listing.ensures c.in-Err.ensures.prints (search rules) (sym c.in-Err.ensures.broken)

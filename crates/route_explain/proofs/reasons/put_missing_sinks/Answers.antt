use Rattle.text_output.proofs.Printing.{prints_then}
use Rattle.route_explain.specs.Reasons.{missing_sinks_text}
use Rattle.route_explain.proofs.reasons.put_missing_sinks.Goals as goal

pub returns : goal.returns
unfolding missing_sinks_text
returns g c = prints_then c.push.ensures c.put_all_missing.ensures

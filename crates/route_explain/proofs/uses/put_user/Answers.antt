use Rattle.text_output.proofs.Printing.{prints_then}
use Rattle.route_explain.proofs.uses.put_user.Goals as goal

pub returns-in-Some : goal.returns-in-Some
returns-in-Some g c =
    let name = rw c.net_name.ensures at c.push-in-Some.ensures in
    rw c.in-Some.is (prints_then c.push.ensures name)

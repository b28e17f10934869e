use Rattle.node_numbers.proofs.Divisors.{quotient_is}
use Rattle.node_numbers.proofs.divisor.Divisor.quotient.Goals as goal

pub returns : goal.returns
returns c =
    let d = c.self.inside in
    rw (c.from.ensures, c.from-2.ensures, c.from-3.ensures, ← c.self.view_is)
    (quotient_is d.number d.factor c.self.invariant.some c.self.invariant.few c.self.invariant.above c.self.invariant.least c.args.number c.ranges.number.fits)

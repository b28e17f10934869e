use Rattle.std.proofs.Common.{sym, ◌∙◌}
use Rattle.std.proofs.lemmas.Bool.{false≢true}
use Rattle.run_schedule.proofs.Taken.{no_such_line, no_such_number, number_outside, number_within}
use Rattle.run_schedule.proofs.text.Text.take_within.Goals as goal

pub returns-in_err-take : goal.returns-in_err-take
returns-in_err-take c =
    let begun = rw c.again-ahead.ensures at c.in_err-take.ensures in
    rw c.from_residual.ensures (no_such_line c.args.front.now c.args.self.now c.args.least c.args.most c.ranges.most.fits begun)

pub returns-in_err-number : goal.returns-in_err-number
returns-in_err-number c =
    let begun = rw c.again-ahead.ensures at c.in_ok-take.ensures in
    rw c.from_residual-in_err-number.ensures (no_such_number c.args.front.now c.args.self.now c.args.least c.args.most c.ranges.most.fits begun c.in_err-number.ensures)

pub returns-then-not-is_within : goal.returns-then-not-is_within
returns-then-not-is_within c =
    let begun = rw c.again-ahead.ensures at c.in_ok-take.ensures in
    number_outside c.args.front.now c.args.self.now c.args.least c.args.most c.ranges.most.fits begun c.in_ok-number.ensures
    (λ inside. false≢true (sym c.if-not-is_within.true ∙ c.is_within.ensures.1 inside))

pub returns : goal.returns
returns c =
    let begun = rw c.again-ahead.ensures at c.in_ok-take.ensures in
    let inside = c.is_within.ensures.0 c.if-not-is_within.false in
    rw c.rest-self-inside.ensures (number_within c.args.front.now c.args.self.now c.args.least c.args.most c.ranges.most.fits begun c.in_ok-number.ensures inside)

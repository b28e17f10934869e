use Rattle.std.proofs.Common.{◌<◌, ◌≤◌, length, Ok, true, false, sym, ap, ◌∙◌, arith}
use Rattle.vpr_text.specs.Readings.{unless_faulty}
use Rattle.net_file.specs.kept.LinesSeen.{seen_of}
use Rattle.net_file.proofs.Steps.{judged, stepped, refused, ended}
use Rattle.net_file.proofs.reading.seen_in.Goals as goal

pub returns-in-Some : goal.returns-in-Some
returns-in-Some c =
    let ls = c.args.lines.now in
    let i = c.loop-i.i in
    let within : i < length ls = omega (arith, c.len-i-end.ensures, c.loop-i-test.true) in
    let is = sym c.in-Some.is ∙ judged c.args.pins ls i c.loop-i.seen c.judge.new.seen c.new-words.result c.in_ok-fault.fault c.new-words.ensures c.loop-i.invariant.0 c.in_ok-fault.ensures in
    let given = ap (λ f. unless_faulty f (Ok (seen_of ls))) (refused c.args.pins ls i c.in-Some.fault within is c.loop-i.invariant.1) in
    rw (c.at-in-Some.ensures, c.at.ensures) (λ _. given)

pub loop-i-preserved : goal.loop-i-preserved
loop-i-preserved c =
    let within : c.loop-i.i < length c.args.lines.now = omega (arith, c.len-i-end.ensures, c.loop-i-test.true) in
    stepped c.args.pins c.args.lines.now c.loop-i.i c.loop-i.seen c.judge.new.seen c.new-words.result c.in_ok-fault.fault within c.new-words.ensures c.in_ok-fault.ensures c.in_default.is c.loop-i.invariant

pub returns-then-is_some : goal.returns-then-is_some
returns-then-is_some c = λ _.
    let ls = c.args.lines.now in
    let past : length ls ≤ c.loop-i.i = omega (arith, c.len-i-end.ensures, c.loop-i-test.false) in
    let end = ended c.args.pins ls c.loop-i.i c.loop-i.seen true past c.loop-i.invariant (sym c.is_some.ensures ∙ c.if-is_some.true) in
    ap (λ f. unless_faulty f (Ok (seen_of ls))) end.0

pub returns : goal.returns
returns c =
    let ls = c.args.lines.now in
    let past : length ls ≤ c.loop-i.i = omega (arith, c.len-i-end.ensures, c.loop-i-test.false) in
    let end = ended c.args.pins ls c.loop-i.i c.loop-i.seen false past c.loop-i.invariant (sym c.is_some.ensures ∙ c.if-is_some.false) in
    ap (λ f. unless_faulty f (Ok (seen_of ls))) end.0 ∙ ap Ok (sym end.1)

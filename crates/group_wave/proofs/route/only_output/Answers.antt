use Rattle.std.proofs.Common.{◌∙◌, sym}
use Rattle.group_wave.proofs.FirstWays.{only_output}
use Rattle.group_wave.proofs.route.only_output.Goals as goal

pub returns-then-is_inside : goal.returns-then-is_inside
returns-then-is_inside c = only_output c.args.ground.now c.successors.new.list.items c.in-Some.pin (sym c.deref.ensures ∙ rw c.in-Some.is at c.only_of.ensures) (rw c.source-source.ensures at c.in_ok-successors.ensures) (sym c.is_inside.ensures ∙ c.if-is_inside.true)

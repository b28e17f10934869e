use Rattle.std.proofs.Common.{◌<◌, ◌∙◌, reverse, sym}
use Rattle.std.proofs.lemmas.Bool.{false≢true}
use Rattle.wave_ground.specs.kept.Grounds.{Ground}
use Rattle.group_wave.specs.kept.Steps.{HasReached}
use Rattle.group_wave.specs.kept.Wave.{cost_at}
use Rattle.group_wave.proofs.Traced.{IsTracing, reached_in, stepped_first, stepped_more, traced}
use Rattle.group_wave.proofs.wave.Wave.trace_back.Goals as goal
use Rattle.group_wave.proofs.wave.Wave.trace_back.Given.{Over}

pub parent-node-requires : goal.parent-node-requires
parent-node-requires g c = reached_in c.args.self.now c.args.sink c.requires.sink.1.reached

pub loop-way-init : goal.loop-way-init
loop-way-init g c ground has = stepped_first ground c.args.self.now c.args.sink c.parent-node.result c.args.way.now.items c.push.new.self.items has c.requires.empty c.in_ok-push.ensures.items c.parent-node.ensures

pub starts_at-requires : goal.starts_at-requires
starts_at-requires g c = reached_in c.args.self.now c.loop-way.node (c.loop-way.invariant c.requires.sink.0 c.requires.sink.1).reached

pub parent-node-requires-in-loop-way : goal.parent-node-requires-in-loop-way
parent-node-requires-in-loop-way g c = reached_in c.args.self.now c.loop-way.node (c.loop-way.invariant c.requires.sink.0 c.requires.sink.1).reached

more : (g : Over) → (c : goal.After-parent-node-in-loop-way g) → (ground : Ground) → HasReached ground c.args.self.now c.args.sink → IsTracing ground c.args.self.now c.parent-node-in-loop-way.result (reverse c.push-in-loop-way.new.self.items) c.args.sink × (cost_at c.args.self.now c.parent-node-in-loop-way.result < cost_at c.args.self.now c.loop-way.node)
more g c ground has = stepped_more ground c.args.self.now c.loop-way.node c.parent-node-in-loop-way.result c.args.sink c.loop-way.way.items c.push-in-loop-way.new.self.items has (c.loop-way.invariant ground has) (λ o. false≢true (sym c.loop-way-test.true ∙ c.starts_at.ensures.1 o)) c.in_ok-push-2.ensures.items c.parent-node-in-loop-way.ensures

pub loop-way-preserved : goal.loop-way-preserved
loop-way-preserved g c ground has = (more g c ground has).0

pub loop-way-smaller : goal.loop-way-smaller
loop-way-smaller g c = (more g c c.requires.sink.0 c.requires.sink.1).1

pub returns : goal.returns
returns g c = record { on = λ ground has. traced ground c.args.self.now c.loop-way.node (reverse c.loop-way.way.items) c.args.sink (c.loop-way.invariant ground has) (c.starts_at.ensures.0 c.loop-way-test.false) }

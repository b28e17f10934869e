use Rattle.std.proofs.lemmas.Option.{IfSome_then}
use Rattle.wave_queue.specs.kept.Queues.{entry_of}
use Rattle.group_wave.proofs.Fitting.{left_fit, popped_fits}
use Rattle.group_wave.proofs.wave.Wave.pop.Goals as goal

pub invariant_of-self : goal.invariant_of-self
invariant_of-self g c = record {
  best = c.self.invariant.best;
  ceiling = c.self.invariant.ceiling;
  entries = left_fit g.K.Key.value g.K.Key.greatest c.self.inside.queue c.pop_to.new.self c.self.invariant.entries c.pop_to.result (g.K.Key.value c.self.inside.best) c.pop_to.ensures.some c.pop_to.ensures.none;
}

pub returns-clause-fits : goal.returns-clause-fits
returns-clause-fits g c = IfSome_then c.pop_to.result c.pop_to.ensures.some (λ e moved. (popped_fits g.K.Key.value g.K.Key.greatest c.self.inside.queue c.pop_to.new.self c.self.invariant.entries (entry_of g.K.Key.value e) moved).label)

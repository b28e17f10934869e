use Rattle.group_wave.proofs.Waited.{fits_more}
use Rattle.group_wave.proofs.wave.Wave.wait.Goals as goal

pub invariant_of-self : goal.invariant_of-self
invariant_of-self g c = record {
  best = c.self.invariant.best;
  ceiling = c.self.invariant.ceiling;
  entries = fits_more c.push.result g.K.Key.greatest _ c.self.inside.queue c.push.new.self c.push.ensures.ok c.push.ensures.err (record { label = c.requires.label; key = c.requires.key }) c.self.invariant.entries;
}

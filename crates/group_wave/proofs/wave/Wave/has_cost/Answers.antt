use Rattle.std.proofs.Common.{ap, slice_index_or, ◌∙◌}
use Rattle.group_wave.specs.kept.Wave.{unreached}
use Rattle.group_wave.proofs.Costs.{cost_same}
use Rattle.group_wave.proofs.wave.Wave.has_cost.Goals as goal

pub returns : goal.returns
returns g c =
    let is = c.row.ensures.label ∙ ap (λ w. slice_index_or w.labels c.args.node unreached) c.self.view_is in
    let same = cost_same g.K.Key.value g.K.Key.greatest c.row.result _ is (g.K.Key.value c.args.cost) c.requires.fits g.met.K.Key.narrow in
    (λ h. same.0 (c.is_same.ensures.0 h), λ e. c.is_same.ensures.1 (same.1 e))

use Rattle.std.proofs.Common.{◌∙◌, ap, set}
use Rattle.node_cost.specs.Views.{others_in}
use Rattle.node_cost.proofs.Views.{both_set}
use Rattle.node_cost.proofs.view.View.set.Goals as goal

pub returns : goal.returns
returns c =
    c.put_history.ensures
    ∙ (ap (λ v. set v c.args.id (others_in v c.args.id, c.args.history)) c.put_others.ensures
    ∙ both_set c.args.self.now c.args.id c.args.others c.args.history c.requires.there)

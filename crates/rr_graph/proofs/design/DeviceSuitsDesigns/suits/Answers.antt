use Rattle.std.proofs.Common.{◌∙◌}
use Rattle.rr_graph.proofs.DesignsRead.{read_suits}
use Rattle.rr_graph.proofs.design.DeviceSuitsDesigns.suits.Goals as goal

pub returns-clause-read : goal.returns-clause-read
returns-clause-read c = λ bytes read placed columns rows.
    c.suits_design.ensures.suits ∙ read_suits c.args.self.now c.suits_design.ensures.limits c.args.placement.now columns rows bytes c.args.netlist.now read placed

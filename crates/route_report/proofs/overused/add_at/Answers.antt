use Rattle.route_report.proofs.Overusing.{none_added, one_added}
use Rattle.route_report.proofs.overused.add_at.Goals as goal

pub returns-in_ok-add : goal.returns-in_ok-add
returns-in_ok-add c =
    one_added c.args.nodes.now c.args.node c.requires.ascending c.args.entries.now c.args.net c.requires.nodes c.in-Ok.place c.binary_search.result
    c.index-entries-place.result c.add.new.self c.in-Ok.is c.binary_search.ensures.position c.index-entries-place.is c.in_ok-add.ensures

pub returns-in_default : goal.returns-in_default
returns-in_default c =
    none_added c.args.nodes.now c.args.node c.requires.ascending c.args.entries.now c.args.net c.requires.nodes c.in_default.field-0 c.binary_search.result
    c.in_default.is c.binary_search.ensures.position

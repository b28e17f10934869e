use Rattle.std.proofs.Common.{◌==◌, sym, ◌∙◌}
use Rattle.std.proofs.lemmas.Bool.{eq-eqb}
use Rattle.std.proofs.lemmas.List.Folds.{list_any_at}
use Rattle.route_check.proofs.Once.{found_is}
use Rattle.route_check.proofs.ladder.is_one_of.Goals as goal

pub returns-then-sinks-place : goal.returns-then-sinks-place
returns-then-sinks-place c =
    sym (list_any_at (λ s. s == c.args.node) c.args.sinks.now c.args.place 0 c.if-place-sinks.true (eq-eqb _ _ c.if-sinks-place.true))

pub returns : goal.returns
returns c = c.is_ok.ensures.value ∙ found_is c.args.sinks.now c.args.node c.binary_search.result c.requires c.binary_search.ensures.position

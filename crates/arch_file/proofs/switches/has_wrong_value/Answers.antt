use Rattle.std.proofs.Common.{ap, rules, tests}
use Rattle.std.proofs.lemmas.Iterator.Consumers.{YieldsList-from_first}
use Rattle.std.proofs.lemmas.Iterator.Search.{any_from_yields_List}
use Rattle.arch_file.specs.Pairs.{pairs_of}
use Rattle.arch_file.specs.SwitchLine.{is_wrong_value, has_wrong_value}
use Rattle.arch_file.proofs.switches.has_wrong_value.Goals as goal

pub returns : goal.returns
unfolding has_wrong_value
returns c =
    any_from_yields_List is_wrong_value _ _ _ c.any.ensures.ran (YieldsList-from_first (λ p. (p.0.now, p.1.now)) (λ s. pairs_of s.words) (pairs_of c.args.pairs.now) (ap pairs_of c.pairs_in.ensures)) (λ x b q k. search (rules, tests))

use Rattle.std.proofs.Common.{ap, rules, tests}
use Rattle.std.proofs.lemmas.Iterator.Consumers.{YieldsList-from_first}
use Rattle.std.proofs.lemmas.Iterator.Search.{find_from_yields_List}
use Rattle.vpr_text.specs.Word.{is_text}
use Rattle.arch_file.specs.Pairs.{pairs_of, pair_with}
use Rattle.arch_file.proofs.pairs.pair_with.Goals as goal

pub returns : goal.returns
unfolding pair_with
returns c =
    find_from_yields_List (λ pair. is_text pair.0 c.args.key.now) _ _ c.find.result c.find.ensures.ran (YieldsList-from_first (λ p. (p.0.now, p.1.now)) (λ s. pairs_of s.words) (pairs_of c.args.words.now) (ap pairs_of c.pairs_in.ensures)) (λ x b q k. search (rules, tests))

use Rattle.std.proofs.Common.{ap, sym, ◌∙◌}
use Rattle.std.proofs.lemmas.List.{drop_all}
use Rattle.refusals.proofs.Continued.{last_after, words_go_on}
use Rattle.refusals.proofs.location.ends_in_backslash.Goals as goal

-- nothing is to come
pub returns : goal.returns
returns c =
    sym (ap (last_after c.loop-byte.is_last) (drop_all c.loop-byte.byte-index c.args.text.now c.loop-byte-test.false))
    ∙ c.loop-byte.invariant ∙ sym (words_go_on c.args.text.now)

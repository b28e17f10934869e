use Rattle.std.proofs.Common.{sym, ap, take, drop, ◌+◌, ◌∙◌}
use Rattle.std.proofs.lemmas.List.{take_all, take_rest}
use Rattle.vpr_text.specs.Numbers.{is_exponent_sign, is_pointed, is_exponent, is_whole}
use Rattle.vpr_text.proofs.Spelled.{position-some, position-none, is_unsigned-exponent, is_unsigned-plain}
use Rattle.vpr_text.proofs.numbers.is_unsigned.Goals as goal

pub returns-then-is_pointed : goal.returns-then-is_pointed
returns-then-is_pointed c =
    let word = c.args.word.now in
    let at = position-some is_exponent_sign word c.in-Some.i c.in-Some.ensures in
    let pointed = c.if-is_pointed.ensures ∙ ap (λ n. is_pointed (take n word)) (sym at.0) in
    let exponent = c.is_whole.ensures ∙ ap is_whole c.without_sign.ensures ∙ ap is_exponent (take_rest word (c.in-Some.i + 1)) ∙ ap (λ n. is_exponent (drop (n + 1) word)) (sym at.0) in
    is_unsigned-exponent word _ _ at.1 pointed exponent

pub returns-in-None : goal.returns-in-None
returns-in-None c =
    let word = c.args.word.now in
    let at = position-none is_exponent_sign word c.in-None.ensures in
    c.is_pointed-in-None.ensures ∙ ap is_pointed (sym (take_all _ word at.0)) ∙ is_unsigned-plain word at.1

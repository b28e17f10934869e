use Rattle.std.proofs.Common.{◌≡◌, List, ℕ, [], sym, ap, ◌∙◌}
use Rattle.std.specs.Prelude.{slice_get}
use Rattle.vpr_text.specs.Words.{words_at}
use Rattle.vpr_text.proofs.Drops.{drop_next, drop_end}
use Rattle.vpr_text.proofs.words.WordsIterator.next.Goals as goal

pub returns-in-Some-clause-steps : goal.returns-in-Some-clause-steps
returns-in-Some-clause-steps c =
    let w = c.self.inside in
    sym c.self.view_is ∙ (drop_next w.from (words_at w.lines.now w.line) _ (ap (λ (l : List (List ℕ)). slice_get l 0) c.self.view_is ∙ sym c.in-Some.ensures)).1

pub returns-in-None-clause-steps : goal.returns-in-None-clause-steps
returns-in-None-clause-steps c =
    let nothing : c.args.self.now ≡ [] = drop_end c.args.self.now (sym c.in-None.ensures) in
    (nothing, nothing)

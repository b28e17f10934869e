use Rattle.std.proofs.Common.{ℕ, List, Some, None, sym, subst, ◌∙◌}
use Rattle.std.proofs.lemmas.Option.{none-some}
use Rattle.run_schedule.specs.kept.Taking.{ended_text, IsWord, Takes}
use Rattle.run_schedule.proofs.Taken.{no_end, no_number, number_taken, other_end}
use Rattle.run_schedule.proofs.text.Text.take_number.Goals as goal

-- all is said of the slice that the text has
abbrev OfText : (end : ℕ) (new : List ℕ) (old : List ℕ) → Type 0
OfText end new old = Takes IsWord (ended_text end) old new None

pub returns-in_err-length : goal.returns-in_err-length
returns-in_err-length c =
    rw c.from_residual.ensures (subst (OfText c.args.end c.args.self.now) c.self.view_is
    (no_end c.args.end c.requires c.self.inside.rest.now (sym c.in_err-length.ensures)))

pub returns-in_err-number : goal.returns-in_err-number
returns-in_err-number c =
    rw c.from_residual-in_err-number.ensures (subst (OfText c.args.end c.args.self.now) c.self.view_is
    (no_number c.args.end c.requires c.self.inside.rest.now c.in_ok-length.length (sym c.in_ok-length.ensures)
    (λ n small is. none-some n (c.in_err-number.ensures.only n small (c.split_at.ensures.front ∙ is)))))

pub returns-in_err-self-inside : goal.returns-in_err-self-inside
returns-in_err-self-inside c =
    rw c.from_residual-in_err-self-inside.ensures (subst (OfText c.args.end c.args.self.now) c.self.view_is
    (other_end c.args.end c.requires c.self.inside.rest.now c.in_ok-length.length (sym c.in_ok-length.ensures)
    (λ rest is. c.in_err-self-inside.ensures rest (c.split_at.ensures.back ∙ is))))

pub returns : goal.returns
returns c =
    subst (λ (old : List ℕ). Takes IsWord (ended_text c.args.end) old c.in_ok-self-inside.field-0.now (Some c.in_ok-number.number)) c.self.view_is
    (number_taken c.args.end c.requires c.self.inside.rest.now c.in_ok-length.length (sym c.in_ok-length.ensures) c.in_ok-number.number c.in_ok-number.ensures.found.0
    (sym c.split_at.ensures.front ∙ c.in_ok-number.ensures.found.1) (sym c.split_at.ensures.back ∙ c.in_ok-self-inside.ensures))

use Rattle.std.proofs.Common.{◌≡◌, ◌∙◌, length, ap, sym, arith}
use Rattle.std.proofs.lemmas.List.{length-map}
use Rattle.wave_ground.proofs.SightRows.{none_known, off_old}
use Rattle.wave_ground.proofs.nearest.Nearest.clear.Goals as goal
use Rattle.wave_ground.proofs.nearest.Nearest.clear.Goals.{then-self, else-self}

pub returns-clause-known : goal.returns-clause-known
returns-clause-known c =
    let size : length c.self.inside.known.items ≡ length c.args.self.now.known = sym (length-map c.self.inside.known.items _) ∙ ap (λ s. length s.known) c.self.view_is in
    elim c.if-self.branch [
      | then-self w ↦ rw w.self-inside-is (none_known 0 1 _ w.take_stamps_off.new.known.items (omega arith) (off_old 0 w.take_stamps_off.new.known.items w.take_stamps_off.ensures.blank) (w.take_stamps_off.ensures.count ∙ size))
      | else-self w ↦ rw w.self-inside-is (none_known c.self.inside.stamp _ _ c.self.inside.known.items (omega arith) c.self.invariant.stamped size)
    ]

use Rattle.std.proofs.Common.{◌∙◌, arith, sym, inl, inr}
use Rattle.std.proofs.lemmas.Bool.{false≢true}
use Rattle.std.proofs.lemmas.Result.{on_ok_weaker}
use Rattle.group_wave.specs.kept.Starts.{IsEnd}
use Rattle.group_wave.proofs.Starting.{end_starts}
use Rattle.group_wave.proofs.wave.Wave.start.Goals as goal

pub start_wire-requires-clause-place : goal.start_wire-requires-clause-place
start_wire-requires-clause-place g c = c.is_wire.ensures.0 c.if-is_wire.true

pub returns : goal.returns
returns g c =
    let end : IsEnd c.args.ground.now c.args.self.now c.args.node = elim c.requires.may [
      | inl wire ↦ absurd (false≢true (sym c.if-is_wire.false ∙ c.is_wire.ensures.1 (c.requires.ground.tabled.grouped.wires c.args.node wire)))
      | inr other ↦ elim other [
        | inl out ↦ absurd (false≢true (sym c.if-is_output.false ∙ c.is_output.ensures.1 (c.kind.ensures ∙ out)))
        | inr end ↦ end
      ]
    ] in
    on_ok_weaker c.set.result (λ r. end_starts c.args.ground.now c.args.self.now c.set.new.self c.args.node (rw c.zero-label.ensures at r) (omega (arith, c.requires.there, c.requires.wave.rows)) c.requires.wave c.requires.complete end) c.set.ensures.set

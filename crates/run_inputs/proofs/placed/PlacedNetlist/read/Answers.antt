use Rattle.std.proofs.Common.{Ok, ap, sym, ◌∙◌}
use Rattle.std.proofs.lemmas.Result.{err_from_is_err_and}
use Rattle.run_inputs.specs.Inputs.{placed_with}
use Rattle.run_inputs.proofs.Designs.{netlist_fails, placed_read, placement_fails}
use Rattle.run_inputs.proofs.Stages.{meets_any, meets_so}
use Rattle.run_inputs.proofs.placed.PlacedNetlist.read.Goals as goal

pub returns-in_err-netlist-clause-given : goal.returns-in_err-netlist-clause-given
returns-in_err-netlist-clause-given g c =
    let failed = rw (c.arch-arch.ensures, c.bytes.ensures) at c.in_err-netlist.ensures.given in
    let p = err_from_is_err_and c.from_residual.result c.from_residual.ensures.1 in
    rw (p.1, p.2) (meets_any (λ p ne. netlist_fails c.args.text.now p c.in_err-netlist.field-0.0 (failed ne)))

pub returns-in_err-placement-clause-given : goal.returns-in_err-placement-clause-given
returns-in_err-placement-clause-given g c =
    let read = rw (c.arch-arch.ensures, c.bytes.ensures) at c.in_ok-netlist.ensures.given in
    let failed = rw c.arch-arch.ensures at c.in_err-placement.ensures.given in
    let p = err_from_is_err_and c.from_residual-in_err-placement.result c.from_residual-in_err-placement.ensures.1 in
    rw (p.1, p.2) (meets_so failed (λ p k ne. placement_fails c.args.text.now p c.in_ok-netlist.netlist c.in_err-placement.field-0.0 read (k ne)))

pub returns-clause-given : goal.returns-clause-given
returns-clause-given g c =
    let read = rw (c.arch-arch.ensures, c.bytes.ensures) at c.in_ok-netlist.ensures.given in
    let placed = rw c.arch-arch.ensures at c.in_ok-placement.ensures.given in
    meets_so placed (λ p k. placed_read c.args.text.now p c.in_ok-netlist.netlist c.in_ok-placement.placement read k
    ∙ ap (λ a. Ok (placed_with a c.in_ok-netlist.netlist c.in_ok-placement.placement)) (sym c.arch-arch.ensures))

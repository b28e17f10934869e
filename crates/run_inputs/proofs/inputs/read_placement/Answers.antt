use Rattle.std.proofs.lemmas.Result.{err_from_is_err_and}
use Rattle.run_inputs.specs.declared.fault.InputFile.TheVariants as file
use Rattle.run_inputs.specs.Runs.{bytes_in}
use Rattle.run_inputs.specs.Inputs.{placement_from, placement_in}
use Rattle.run_inputs.proofs.Stages.{fails_by, given_by, meets_so}
use Rattle.run_inputs.proofs.inputs.read_placement.Goals as goal

pub returns-in_err-bytes-clause-given : goal.returns-in_err-bytes-clause-given
unfolding placement_in
returns-in_err-bytes-clause-given g c =
    let p = err_from_is_err_and c.from_residual.result c.from_residual.ensures.1 in
    rw (p.1, p.2) (meets_so c.in_err-bytes.ensures.read (λ input h ne. fails_by (placement_from c.args.arch.now c.args.netlist.now) (bytes_in file.Place input) c.in_err-bytes.field-0.0 (h ne)))

pub returns-clause-given : goal.returns-clause-given
unfolding placement_in
returns-clause-given g c =
    meets_so c.in_ok-bytes.ensures.read (λ input h.
    given_by (placement_from c.args.arch.now c.args.netlist.now) (bytes_in file.Place input) c.deref.result.now c.parse_placement.result (rw c.deref.ensures.value h) c.parse_placement.ensures.given)

use Rattle.std.proofs.lemmas.Result.{err_from_is_err_and}
use Rattle.run_inputs.specs.declared.fault.InputFile.TheVariants as file
use Rattle.run_inputs.specs.Runs.{bytes_in}
use Rattle.run_inputs.specs.Inputs.{arch_from, arch_in}
use Rattle.run_inputs.proofs.Stages.{fails_by, given_by, meets_so}
use Rattle.run_inputs.proofs.inputs.read_arch.Goals as goal

pub returns-in_err-bytes : goal.returns-in_err-bytes
unfolding arch_in
returns-in_err-bytes g c =
    let p = err_from_is_err_and c.from_residual.result c.from_residual.ensures.1 in
    rw (p.1, p.2) (meets_so c.in_err-bytes.ensures.read (λ input h ne. fails_by arch_from (bytes_in file.Arch input) c.in_err-bytes.field-0.0 (h ne)))

pub returns : goal.returns
unfolding arch_in
returns g c =
    meets_so c.in_ok-bytes.ensures.read (λ input h.
    given_by arch_from (bytes_in file.Arch input) c.deref.result.now c.parse_arch.result (rw c.deref.ensures.value h) c.parse_arch.ensures)

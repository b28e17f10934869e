use Rattle.std.proofs.lemmas.Result.{err_from_is_err_and}
use Rattle.run_inputs.proofs.Designs.{arch_fails, bytes_fail, text_read}
use Rattle.run_inputs.proofs.Stages.{meets_any, meets_so}
use Rattle.run_inputs.proofs.netlist_text.NetlistText.read.Goals as goal

pub returns-in_err-arch-clause-given : goal.returns-in_err-arch-clause-given
returns-in_err-arch-clause-given g c =
    let p = err_from_is_err_and c.from_residual.result c.from_residual.ensures.1 in
    rw (p.1, p.2) (meets_so c.in_err-arch.ensures (λ a h. meets_any (λ n ne. arch_fails a n c.in_err-arch.field-0.0 (h ne))))

pub returns-in_err-bytes-clause-given : goal.returns-in_err-bytes-clause-given
returns-in_err-bytes-clause-given g c =
    let p = err_from_is_err_and c.from_residual-in_err-bytes.result c.from_residual-in_err-bytes.ensures.1 in
    rw (p.1, p.2) (meets_so c.in_ok-arch.ensures (λ a h. meets_so c.in_err-bytes.ensures.read
    (λ n k ne. bytes_fail a n c.in_ok-arch.arch c.in_err-bytes.field-0.0 h (k ne))))

pub returns-clause-given : goal.returns-clause-given
returns-clause-given g c =
    meets_so c.in_ok-arch.ensures (λ a h. meets_so c.in_ok-bytes.ensures.read (λ n k. text_read a n c.in_ok-arch.arch c.in_ok-bytes.bytes.items h k))

use Rattle.std.proofs.Common.{Err, ap, refl}
use Rattle.run_inputs.proofs.Stages.{meets_any, meets_so, not_failed, unread, was_read}
use Rattle.run_inputs.proofs.inputs.read_input.Goals as goal

pub returns-in-Ok-clause-read : goal.returns-in-Ok-clause-read
returns-in-Ok-clause-read g c =
    let source = g.S.ByteSource in
    let sound = not_failed (source.failed c.read_all.new.source) (λ e. let h = c.in-Ok.ensures.failed.1 e in absurd cc) in
    was_read c.args.file (source.remaining c.args.source.now) (source.remaining c.read_all.new.source) (source.failed c.read_all.new.source) c.in-Ok.bytes.items c.in-Ok.ensures.bytes sound

pub returns-in-Err-Failed-clause-read : goal.returns-in-Err-Failed-clause-read
returns-in-Err-Failed-clause-read g c =
    let source = g.S.ByteSource in
    let failed = source.failed c.read_all.new.source in
    meets_so (unread c.args.file (source.remaining c.args.source.now) failed (c.in-Err-Failed.ensures.failed.0 (ap Err c.in-Err-Failed.field-0-is))) (λ input h _. h)

pub returns-in-Err-Memory-clause-read : goal.returns-in-Err-Memory-clause-read
returns-in-Err-Memory-clause-read g c = meets_any (λ input ne. absurd (ne refl))

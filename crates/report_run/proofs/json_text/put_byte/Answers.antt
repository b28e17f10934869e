use Rattle.report_run.specs.Json.{byte_text}
use Rattle.report_run.proofs.json_text.put_byte.Goals as goal

pub returns : goal.returns
unfolding byte_text
returns g c =
    let escaped = rw (c.is_in_character-is_in.ensures, c.byte_at.ensures) at c.put_escaped.ensures in
    escaped

-- What an adapted reader or writer is, and whether it has failed.
use Rattle.std.specs.Prelude.{Bool}
use Rattle.vpr_text.specs.declared.std_streams.Adapted.{Adapted}

abbrev pub inner_of : {T : Type 0} → Adapted T → T
inner_of a = a.inner

abbrev pub has_failed : {T : Type 0} → Adapted T → Bool
has_failed a = a.failed

use Rattle.std.proofs.Common.{sym, ap, subst, ◌∙◌}
use Rattle.net_file.specs.Facts.{names_of_nets, IsNetlist}
use Rattle.net_file.proofs.Facts.{net_names_are}
use Rattle.net_file.proofs.reading.completed.Goals as goal

pub invariant_of-result : goal.invariant_of-result
invariant_of-result c =
    let seen = c.args.seen in
    record {
      netlist = subst (λ nets. IsNetlist (record { blocks = c.args.blocks.items; nets = nets })) (sym c.in_ok-nets.ensures) (c.requires.facts (sym c.whole_fault.ensures ∙ c.in_default.is));
      block_names = c.requires.names;
      net_names = sym (ap names_of_nets c.in_ok-nets.ensures ∙ net_names_are seen.nets seen.globals c.args.rows.now);
    }

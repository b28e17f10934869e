use Rattle.std.proofs.Common.{ap, ◌∙◌}
use Rattle.net_file.specs.Connections.{connections, by_net}
use Rattle.net_file.proofs.Facts.{names_read, facts_read}
use Rattle.net_file.proofs.reading.read.Goals as goal

pub completed-requires-clause-names : goal.completed-requires-clause-names
completed-requires-clause-names c = names_read c.args.pins.now c.args.lines.now c.in_ok-seen.seen c.in_ok-seen.ensures _ c.in_ok-blocks.ensures

pub completed-requires-clause-facts : goal.completed-requires-clause-facts
completed-requires-clause-facts c =
    let pins = c.args.pins.now in
    let numbers = c.in_ok-numbers.numbers.items in
    let filed =
    c.deref-5.ensures.value ∙ c.in_ok-rows.ensures ∙ ap (λ ns. by_net (connections pins ns c.deref-4.result.now) c.len.result) c.deref-3.ensures.value
    ∙ ap (λ bs. by_net (connections pins numbers bs) c.len.result) c.deref-4.ensures.value ∙ ap (by_net (connections pins numbers _)) c.len.ensures in
    facts_read pins c.args.lines.now c.in_ok-seen.seen c.in_ok-seen.ensures _ numbers c.deref-5.result.now c.requires.words c.in_ok-blocks.ensures c.in_ok-numbers.ensures filed

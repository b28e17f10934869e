use Rattle.std.proofs.Common.{◌∙◌, ap, arith, length, set}
use Rattle.std.specs.List.{zip}
use Rattle.std.specs.Vec.{with_items}
use Rattle.std.proofs.lemmas.List.{with_items_is}
use Rattle.node_cost.specs.Views.{history_in}
use Rattle.node_cost.specs.kept.Packed.{counts_of}
use Rattle.node_cost.proofs.Packing.{length_counts}
use Rattle.node_cost.proofs.Views.{left_out}
use Rattle.node_cost.proofs.view.View.put_others.Goals as goal

pub returns : goal.returns
returns c =
    let old = c.self.inside.words.items in
    let wide = c.self.inside.wide.items in
    let histories = c.self.inside.histories in
    let new = c.put_count.new in
    let long = length_counts old wide in
    let old_words = ap length c.deref_mut.ensures.value in
    let old_wide = ap length c.deref_mut-2.ensures.value in
    let words_are = with_items_is c.self.inside.words new.words (omega (arith, old_words, c.put_count.auto.words, c.self.inside.words.ok.0)) in
    let wide_are = with_items_is c.self.inside.wide new.wide (omega (arith, old_wide, c.put_count.auto.wide, c.self.inside.wide.ok.0)) in
    let counts = rw (c.deref_mut.ensures.value, c.deref_mut-2.ensures.value) at c.put_count.ensures.counts in
    ap (λ ws. zip (counts_of ws (with_items c.self.inside.wide new.wide).items) histories) words_are
    ∙ (ap (λ ds. zip (counts_of new.words ds) histories) wide_are
    ∙ (ap (λ cs. zip cs histories) counts
    ∙ (left_out (counts_of old wide) histories c.args.id c.args.others (omega (arith, c.self.invariant.size, long))
    ∙ ap (λ v. set v c.args.id (c.args.others, history_in v c.args.id)) c.self.view_is)))

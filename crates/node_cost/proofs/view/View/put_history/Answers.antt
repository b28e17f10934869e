use Rattle.std.proofs.Common.{◌∙◌, ◌≤◌, All, ap, arith, length, set, subst, sym}
use Rattle.std.specs.List.{zip}
use Rattle.std.proofs.lemmas.List.{length-set, with_items_is}
use Rattle.node_cost.specs.Views.{others_in}
use Rattle.node_cost.specs.kept.Fields.{AreSeen}
use Rattle.node_cost.specs.kept.Packed.{counts_of}
use Rattle.node_cost.proofs.Noting.{flagged_set}
use Rattle.node_cost.proofs.Packing.{counts_kept, length_counts, numbers_kept}
use Rattle.node_cost.proofs.Views.{history_set, length_seen}
use Rattle.node_cost.proofs.view.View.put_history.Goals as goal

pub put_flag-requires-clause-there : goal.put_flag-requires-clause-there
put_flag-requires-clause-there c =
    let long = length_counts c.self.inside.words.items c.self.inside.wide.items in
    let seen = length_seen (counts_of c.self.inside.words.items c.self.inside.wide.items) c.self.inside.histories (omega (arith, c.self.invariant.size, long)) in
    let same = ap length c.self.view_is in
    let words = ap length c.deref_mut.ensures.value in
    omega (arith, c.requires.there, c.self.invariant.each, long, seen, same, words)

pub set-requires-clause-there : goal.set-requires-clause-there
set-requires-clause-there c =
    let long = length_counts c.self.inside.words.items c.self.inside.wide.items in
    let seen = length_seen (counts_of c.self.inside.words.items c.self.inside.wide.items) c.self.inside.histories (omega (arith, c.self.invariant.size, long)) in
    let same = ap length c.self.view_is in
    omega (arith, c.requires.there, c.self.invariant.size, long, seen, same)

pub invariant_of-self : goal.invariant_of-self
invariant_of-self c =
    let long = length_counts c.self.inside.words.items c.self.inside.wide.items in
    let seen = length_seen (counts_of c.self.inside.words.items c.self.inside.wide.items) c.self.inside.histories (omega (arith, c.self.invariant.size, long)) in
    let same = ap length c.self.view_is in
    let old = c.self.inside.words.items in
    let new = c.put_flag.new.words in
    let wide = c.self.inside.wide.items in
    let marks = c.self.inside.marks.items in
    let histories = c.self.inside.histories in
    let put = rw c.deref_mut.ensures.value at c.put_flag.ensures in
    let kept = numbers_kept old new c.args.id c.min.result put in
    let words = ap length c.deref_mut.ensures.value in
    let words_are = with_items_is c.self.inside.words new (omega (arith, words, c.put_flag.auto.words, c.self.inside.words.ok.0)) in
    subst (λ ws. AreSeen ws wide marks c.set.new.self) (sym words_are)
    (subst (λ hs. AreSeen new wide marks hs) (sym c.set.ensures) (record {
      each = omega (arith, c.self.invariant.each, words, c.put_flag.auto.words);
      blocks = c.self.invariant.blocks;
      marked = λ id seven. c.self.invariant.marked id (sym (kept id) ∙ seven);
      full = λ id seven. c.self.invariant.full id (sym (kept id) ∙ seven);
      size = let more = length-set histories c.args.id c.args.history in omega (arith, c.self.invariant.size, more);
      flagged = flagged_set histories old new c.args.id c.min.result c.args.history (omega (arith, c.requires.there, c.self.invariant.size, long, seen, same)) c.self.invariant.flagged put (omega (arith, c.min.ensures));
      bounded = subst (All (λ n. n ≤ 65535)) (sym (counts_kept old new wide kept)) c.self.invariant.bounded;
    }))

pub returns : goal.returns
returns c =
    let old = c.self.inside.words.items in
    let new = c.put_flag.new.words in
    let wide = c.self.inside.wide.items in
    let histories = c.self.inside.histories in
    let put = rw c.deref_mut.ensures.value at c.put_flag.ensures in
    let counts = counts_kept old new wide (numbers_kept old new c.args.id c.min.result put) in
    let long = length_counts old wide in
    let words = ap length c.deref_mut.ensures.value in
    let words_are = with_items_is c.self.inside.words new (omega (arith, words, c.put_flag.auto.words, c.self.inside.words.ok.0)) in
    ap (λ ws. zip (counts_of ws wide) c.set.new.self) words_are
    ∙ (ap (λ cs. zip cs c.set.new.self) counts
    ∙ (ap (λ hs. zip (counts_of old wide) hs) c.set.ensures
    ∙ (history_set (counts_of old wide) histories c.args.id c.args.history (omega (arith, c.self.invariant.size, long))
    ∙ ap (λ v. set v c.args.id (others_in v c.args.id, c.args.history)) c.self.view_is)))

use Rattle.std.proofs.Common.{◌≤◌, All, ap, arith, length, subst, sym}
use Rattle.std.specs.Vec.{with_items}
use Rattle.std.proofs.lemmas.List.{with_items_is}
use Rattle.node_cost.specs.kept.Fields.{AreSeen}
use Rattle.node_cost.specs.kept.Noted.{IsFlagged}
use Rattle.node_cost.specs.kept.Packed.{counts_of}
use Rattle.node_cost.proofs.Noting.{flagged_as}
use Rattle.node_cost.proofs.Packing.{length_counts}
use Rattle.node_cost.proofs.Views.{length_seen}
use Rattle.node_cost.proofs.view.View.look_at.Goals as goal

pub write_with_flags-requires-clause-wide : goal.write_with_flags-requires-clause-wide
write_with_flags-requires-clause-wide c =
    let long = length_counts c.self.inside.words.items c.self.inside.wide.items in
    let seen = length_seen (counts_of c.self.inside.words.items c.self.inside.wide.items) c.self.inside.histories (omega (arith, c.self.invariant.size, long)) in
    let same = ap length c.self.view_is in
    let wide = ap length c.deref_mut-2.ensures.value in
    omega (arith, c.requires.counts, long, seen, same, wide)

pub write_with_flags-requires-clause-words : goal.write_with_flags-requires-clause-words
write_with_flags-requires-clause-words c =
    let long = length_counts c.self.inside.words.items c.self.inside.wide.items in
    let seen = length_seen (counts_of c.self.inside.words.items c.self.inside.wide.items) c.self.inside.histories (omega (arith, c.self.invariant.size, long)) in
    let same = ap length c.self.view_is in
    let words = ap length c.deref_mut.ensures.value in
    omega (arith, c.requires.counts, c.self.invariant.each, long, seen, same, words)

pub write_with_flags-requires-clause-marks : goal.write_with_flags-requires-clause-marks
write_with_flags-requires-clause-marks c =
    let long = length_counts c.self.inside.words.items c.self.inside.wide.items in
    let seen = length_seen (counts_of c.self.inside.words.items c.self.inside.wide.items) c.self.inside.histories (omega (arith, c.self.invariant.size, long)) in
    let same = ap length c.self.view_is in
    let marks = ap length c.deref_mut-3.ensures.value in
    omega (arith, c.requires.counts, c.self.invariant.blocks, long, seen, same, marks)

pub share-requires : goal.share-requires
share-requires c =
    let long = length_counts c.self.inside.words.items c.self.inside.wide.items in
    let seen = length_seen (counts_of c.self.inside.words.items c.self.inside.wide.items) c.self.inside.histories (omega (arith, c.self.invariant.size, long)) in
    let same = ap length c.self.view_is in
    omega (arith, c.requires.histories, c.self.invariant.size, long, seen, same)

pub invariant_of-self : goal.invariant_of-self
invariant_of-self c =
    let long = length_counts c.self.inside.words.items c.self.inside.wide.items in
    let seen = length_seen (counts_of c.self.inside.words.items c.self.inside.wide.items) c.self.inside.histories (omega (arith, c.self.invariant.size, long)) in
    let same = ap length c.self.view_is in
    let new = c.write_with_flags.new in
    let words = ap length c.deref_mut.ensures.value in
    let wide = ap length c.deref_mut-2.ensures.value in
    let marks = ap length c.deref_mut-3.ensures.value in
    let words_are = with_items_is c.self.inside.words new.words (omega (arith, words, c.write_with_flags.auto.words, c.self.inside.words.ok.0)) in
    let wide_are = with_items_is c.self.inside.wide new.wide (omega (arith, wide, c.write_with_flags.auto.wide, c.self.inside.wide.ok.0)) in
    let marks_are = with_items_is c.self.inside.marks new.marks (omega (arith, marks, c.write_with_flags.auto.marks, c.self.inside.marks.ok.0)) in
    let flagged = flagged_as c.deref.result.now c.flags.result.now new.words c.flags.ensures.noted c.write_with_flags.ensures.flags in
    subst (λ ws. AreSeen ws (with_items c.self.inside.wide new.wide).items (with_items c.self.inside.marks new.marks).items c.share.new.self) (sym words_are)
    (subst (λ ds. AreSeen new.words ds (with_items c.self.inside.marks new.marks).items c.share.new.self) (sym wide_are)
    (subst (λ ms. AreSeen new.words new.wide ms c.share.new.self) (sym marks_are)
    (subst (λ hs. AreSeen new.words new.wide new.marks hs) (sym c.share.ensures) (record {
      each = omega (arith, c.self.invariant.each, words, wide, c.write_with_flags.auto.words, c.write_with_flags.auto.wide);
      blocks = omega (arith, c.self.invariant.blocks, marks, wide, c.write_with_flags.auto.marks, c.write_with_flags.auto.wide);
      marked = c.write_with_flags.ensures.marked;
      full = c.write_with_flags.ensures.full;
      size = omega (arith, c.requires.histories, long, seen, same, wide, c.self.invariant.size, c.write_with_flags.auto.wide);
      flagged = subst (λ hs. IsFlagged hs new.words) c.deref.ensures flagged;
      bounded = subst (All (λ n. n ≤ 65535)) (sym c.write_with_flags.ensures.counts) c.write_with_flags.ensures.bounded;
    }))))

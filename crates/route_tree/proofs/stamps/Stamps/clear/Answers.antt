use Rattle.std.proofs.Common.{◌==◌, length, replicate, false, sym, ap, ◌∙◌}
use Rattle.std.proofs.lemmas.List.{length-map}
use Rattle.route_tree.proofs.Marking.{cleared}
use Rattle.route_tree.proofs.stamps.Stamps.clear.Goals as goal

-- src/stamps.rt:59:5
pub returns : goal.returns
returns c =
    let count = c.next_stamp-self-inside.ensures.length ∙ sym (length-map c.self.inside.marks.items (λ m. m == c.self.inside.stamp)) ∙ ap length c.self.view_is in
    cleared c.next_stamp-self-inside.result c.next_stamp-self-inside.new.marks.items c.next_stamp-self-inside.ensures.above ∙ ap (λ n. replicate n false) count

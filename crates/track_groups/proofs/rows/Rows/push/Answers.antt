use Rattle.std.proofs.Common.{◌++◌, ◌∷◌, [], List, length, map, ap, ◌∙◌}
use Rattle.track_groups.specs.kept.ListParts.{part_of}
use Rattle.track_groups.proofs.PushedRows.{row_pushed}
use Rattle.track_groups.proofs.rows.Rows.push.Goals as goal

-- the row stands behind the others
pub returns : goal.returns
returns g c =
    let old = c.self.inside.items.items in
    let row = c.args.row.now in
    let pushed = c.in_ok-extend_from_slice.ensures.items in
    ap (λ (xs : List _). map (part_of xs) c.push.new.self.items) pushed
    ∙ ap (map (part_of (old ++ row))) c.in_ok-push.ensures.items
    ∙ row_pushed old row c.self.inside.parts.items _ c.self.invariant (c.in_ok-start.ensures ∙ (c.len.ensures ∙ c.self.inside.items.ok.0)) (c.in_ok-end.ensures ∙ (c.len-2.ensures ∙ c.extend_from_slice.new.self.ok.0 ∙ ap (λ (xs : List _). length xs) pushed))
    ∙ ap (λ (rs : List (List _)). rs ++ row ∷ []) c.self.view_is

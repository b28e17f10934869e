use Rattle.std.proofs.Common.{◌≡◌, ◌<◌, All, is_none, set, ap, sym, subst, ◌∙◌, arith}
use Rattle.std.specs.Prelude.{map}
use Rattle.std.proofs.lemmas.List.{map-set}
use Rattle.routing_problem.specs.Nodes.{node_count_of}
use Rattle.route_tree.specs.TreeLists.{list_of_tree}
use Rattle.congestion_book.specs.Recorded.{occupancies_of}
use Rattle.congestion_book.specs.kept.Usage.{overused_by}
use Rattle.congestion_book.proofs.Recording.{own_there, own_used, next_there, room, none_less, few_without, replaced, occupied_by, one_at_most, listed, kept_lists}
use Rattle.congestion_book.proofs.routes.Routes.exchange.Goals as goal

pub replace_each-requires-clause-before : goal.replace_each-requires-clause-before
replace_each-requires-clause-before c =
    subst (λ f. All (λ r. r.node < node_count_of f) c.rows_of-old_rows.result.now) (sym c.device-device.ensures.device)
    (own_there c.args.self.now.trees.items c.requires.there c.requires.recorded c.index-before.ensures c.rows_of-old_rows.ensures.rows c.rows_of-old_rows.ensures.tree)

pub replace_each-requires-clause-after : goal.replace_each-requires-clause-after
replace_each-requires-clause-after c =
    subst (λ f. All (λ r. r.node < node_count_of f) c.rows_of-new_rows.result.now) (sym c.device-device.ensures.device)
    (next_there c.args.self.now.trees.items c.requires.there c.requires.recorded c.index-before.ensures c.rows_of-old_rows.ensures.rows c.rows_of-old_rows.ensures.tree
    c.args.tree.now c.rows_of-new_rows.ensures.rows c.rows_of-new_rows.ensures.tree c.requires.routes)

pub replace_each-requires-clause-used : goal.replace_each-requires-clause-used
replace_each-requires-clause-used c = own_used c.args.self.now.trees.items c.requires.there c.requires.recorded c.index-before.ensures c.rows_of-old_rows.ensures.rows c.rows_of-old_rows.ensures.tree

pub replace_each-requires-clause-room : goal.replace_each-requires-clause-room
replace_each-requires-clause-room c =
    room c.args.self.now.trees.items c.requires.there c.requires.recorded c.index-before.ensures c.rows_of-old_rows.ensures.rows c.rows_of-old_rows.ensures.tree
    c.args.tree.now c.rows_of-new_rows.ensures.rows c.rows_of-new_rows.ensures.tree c.requires.routes

pub overflow_sub-self : goal.overflow_sub-self
overflow_sub-self c = none_less c.args.self.now.trees.items c.requires.there c.requires.recorded c.index-before.ensures c.count_none.result c.count_none.ensures

pub overflow_add-self : goal.overflow_add-self
overflow_add-self c =
    let few = few_without c.args.self.now.trees.items c.requires.there c.requires.recorded c.index-before.ensures in
    omega (arith, few, c.count_none-2.ensures, one_at_most (is_none c.args.tree.now))

pub returns-clause-lists : goal.returns-clause-lists
returns-clause-lists c =
    ap (λ t. map list_of_tree (set c.args.self.now.trees.items c.args.net t)) c.swap.ensures.x_after ∙ map-set list_of_tree c.args.self.now.trees.items c.args.net c.args.tree.now

pub returns-clause-recorded : goal.returns-clause-recorded
returns-clause-recorded c =
    let over : c.replace_each.new.self.overused ≡ overused_by c.args.problem.now.device c.replace_each.new.self.counts =
    subst (λ f. c.replace_each.new.self.overused ≡ overused_by f c.replace_each.new.self.counts) c.device-device.ensures.device c.replace_each.ensures.counted in
    rw c.swap.ensures.x_after (
    replaced c.args.self.now.trees.items c.requires.there c.requires.recorded c.index-before.ensures c.rows_of-old_rows.ensures.rows c.rows_of-old_rows.ensures.tree
    c.args.tree.now c.rows_of-new_rows.ensures.rows c.rows_of-new_rows.ensures.tree c.requires.routes c.replace_each.ensures.counts over
    c.count_none.ensures c.count_none-2.ensures
    )

pub returns-clause-counts : goal.returns-clause-counts
returns-clause-counts c = occupied_by c.args.problem.now _ _ _ _ (returns-clause-recorded c) ∙ ap (occupancies_of c.args.problem.now) (returns-clause-lists c)

pub returns-clause-back : goal.returns-clause-back
returns-clause-back c =
    ap list_of_tree c.swap.ensures.y_after ∙ sym (listed c.args.self.now.trees.items c.requires.there c.requires.recorded c.index_mut.ensures.value)

pub returns-then-are_same-clause-lists : goal.returns-then-are_same-clause-lists
returns-then-are_same-clause-lists c =
    kept_lists c.args.self.now.trees.items c.requires.there c.requires.recorded c.index-before.ensures c.args.tree.now (c.are_same.ensures c.if-are_same.true)

pub returns-then-are_same-clause-counts : goal.returns-then-are_same-clause-counts
returns-then-are_same-clause-counts c =
    occupied_by c.args.problem.now _ _ _ _ c.requires.recorded
    ∙ ap (occupancies_of c.args.problem.now) (kept_lists c.args.self.now.trees.items c.requires.there c.requires.recorded c.index-before.ensures c.args.tree.now (c.are_same.ensures c.if-are_same.true))

-- Whether the others have filled a node of a tree since its net looked.
use Rattle.std.proofs.Common.{◌≡◌, ℕ, ◌-◌, ◌<◌, ◌≤◌, ◌==◌, true, false, nat_le, List, [], ◌∷◌, length, get_or, Some, None, refl, sym, ap, ap₂, arith}
use Rattle.std.specs.Prelude.{not, ◌&&◌, ◌||◌}
use Rattle.std.specs.Option.{option_map}
use Rattle.std.specs.List.{list_any}
use Rattle.std.proofs.lemmas.Bool.{eq-eqb}
use Rattle.std.proofs.lemmas.Bool.Decides.{nat_tests}
use Rattle.std.proofs.lemmas.List.Elements.{Contains-get_or}
use Rattle.std.proofs.lemmas.Option.{slice_get_past}
use Rattle.routing_problem.specs.Fabric.{Fabric}
use Rattle.routing_problem.specs.Nodes.{node_at, nodes_of, node_count_of, capacity_of}
use Rattle.routing_problem.specs.Problems.{RoutingProblem, net_in}
use Rattle.route_tree.specs.declared.tree.Row.{Row}
use Rattle.route_tree.specs.Usage.{use_by, use_by_others, Lists, list_in}
use Rattle.route_tree.proofs.Uses.{others_and_own}
use Rattle.route_tree.proofs.Members.{one_passes}
use Rattle.node_cost.specs.Views.{NetView, others_in}
use Rattle.congestion_book.specs.Turns.{one_if}
use Rattle.congestion_book.specs.Looks.{fills, has_filled}
use Rattle.congestion_book.specs.kept.Counts.{AreRecorded}
use Rattle.congestion_book.specs.kept.Views.{stands_in, others_by, is_newly_full, filled_by}
use Rattle.route_report.proofs.Overusing.{room_is, no_room}

pub stands_there : (rows : List Row) (row a : ℕ) (d : Row) → row < length rows → (get_or rows row d).node ≡ a → stands_in rows a ≡ true
stands_there rows row a d l e = one_passes (λ (r : Row). r.node == a) rows (get_or rows row d) (Contains-get_or rows row d l) (eq-eqb (get_or rows row d).node a e)

module _ (room : ℕ) where
  pub few_there : (count own before : ℕ) → count < room → false ≡ is_newly_full room (count - own) before
  few_there count own before few = grind (arith, nat_tests, few)

  pub was_filled : (others before : ℕ) → room ≤ before → false ≡ is_newly_full room others before
  was_filled others before full = grind (arith, nat_tests, full)

  pub filled_now : (others before : ℕ) → before < room → nat_le room others ≡ is_newly_full room others before
  filled_now others before low = grind (arith, nat_tests, low)

module _ (f : Fabric) (own : List Row) (counts : List ℕ) (view : NetView) (a : ℕ) where
  pub not_filled : None ≡ option_map (capacity_of f) (node_at f a) → false ≡ filled_by f own counts view a
  unfolding filled_by
  not_filled e =
      let none = no_room f (node_at f a) e in
      grind (arith, nat_tests, none)

  pub outside : node_count_of f ≤ a → false ≡ filled_by f own counts view a
  outside past = not_filled (sym (ap (option_map (capacity_of f)) (slice_get_past (nodes_of f) a past)))

  -- where no more others use the node than the view shows
  pub none_came : others_by own counts a ≤ others_in view a → false ≡ filled_by f own counts view a
  unfolding filled_by
  none_came few = grind (arith, nat_tests, few)

  pub by_room : (room : ℕ) → Some room ≡ option_map (capacity_of f) (node_at f a) →
      is_newly_full room (others_by own counts a) (others_in view a) ≡ filled_by f own counts view a
  unfolding filled_by
  by_room room is = ap (λ r. is_newly_full r (others_by own counts a) (others_in view a)) (sym (room_is f (node_at f a) room is))

-- ---- by exact counts
module _ {p : RoutingProblem} {lists : Lists} {counts : List ℕ} {overused unrouted i : ℕ} (own : List Row) (view : NetView) (low : i < length p.nets)
    (kept : AreRecorded p lists counts overused unrouted) (uses : (a : ℕ) → use_by (net_in p.nets i) (list_in lists i) a ≡ one_if (stands_in own a)) where
  filled_at : (a : ℕ) → filled_by p.device own counts view a ≡ has_filled p lists i view a
  unfolding filled_by has_filled
  filled_at a =
      let all = others_and_own p.nets lists i a low (omega (arith, low, kept.one_each)) in
      let same : others_by own counts a ≡ use_by_others p.nets lists i a = omega (arith, all, kept.uses a, uses a) in
      ap (λ n. fills p a n && not (fills p a (others_in view a))) same

  pub filled_is : (rows : List Row) → list_any (λ r. filled_by p.device own counts view r.node) rows ≡ list_any (λ r. has_filled p lists i view r.node) rows
  filled_is [] = refl
  filled_is (r ∷ rs) = ap₂ (λ b c. b || c) (filled_at r.node) (filled_is rs)

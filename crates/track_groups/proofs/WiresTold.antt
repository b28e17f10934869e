-- What is told of a wire tells that it is one, and no pin.
use Rattle.std.proofs.Common.{◌≡◌, ℕ, true, false, Option, Some, None, inl, inr, sym, ap, ◌∙◌}
use Rattle.std.specs.Prelude.{if◌then◌else◌}
use Rattle.std.specs.Option.{option_map, option_map_or}
use Rattle.std.proofs.lemmas.Bool.{false≢true, cases_Bool}
use Rattle.std.proofs.lemmas.Option.{none-some}
use Rattle.routing_problem.specs.node.Kind.TheVariants.{Ipin}
use Rattle.routing_problem.specs.node.Node.{Node}
use Rattle.routing_problem.specs.Fabric.{Fabric}
use Rattle.routing_problem.specs.Wires.{reach_of}
use Rattle.routing_problem.specs.Nodes.{node_at, kind_of_node, is_wire, is_wire_at, span_of, wire_in}
use Rattle.track_groups.specs.declared.group.Group.{Group}
use Rattle.track_groups.specs.declared.group.GroupTrack.{GroupTrack}
use Rattle.track_groups.specs.Groups.{Grouping, group_at, IsOn, wire_on, wire_told, IsGrouped}

told_wire : (f : Fabric) (o : Option Node) (g : Group) → wire_in f o ≡ wire_told g → option_map_or is_wire (option_map (λ n. n.kind) o) false ≡ true
unfolding wire_in
told_wire f None g e = absurd (none-some (g.kind, g.span, g.reach) e)
told_wire f (Some a) g e = elim (cases_Bool (is_wire a.kind)) [
  | inl h ↦ h
  | inr h ↦ absurd (none-some (g.kind, g.span, g.reach) (sym (ap (λ b. if b then Some (a.kind, span_of f a, reach_of f a.number) else None) h) ∙ e))
]

pub wire_is_told : (f : Fabric) (w : ℕ) (g : Group) → wire_in f (node_at f w) ≡ wire_told g → is_wire_at f w ≡ true
wire_is_told f w g e = told_wire f (node_at f w) g e

-- the wire of a track is one
pub track_is_wire : (f : Fabric) (t : Grouping) → IsGrouped f t → (p : GroupTrack) → IsOn t.groups p → is_wire_at f (wire_on t.groups p) ≡ true
track_is_wire f t h p on = wire_is_told f (wire_on t.groups p) (group_at t.groups p.group) (h.tracks p on).wire

-- an input pin is no wire
pub no_pin_and_wire : (f : Fabric) (i : ℕ) → kind_of_node f i ≡ Some Ipin → is_wire_at f i ≡ true → ⊥
no_pin_and_wire f i pin wire = false≢true (sym (ap (λ o. option_map_or is_wire o false) pin) ∙ wire)

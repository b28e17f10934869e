-- What kinds of nodes edges lead from, and to.
use Rattle.std.proofs.Common.{◌≡◌, ℕ, true, false, Option, Some, None, refl, subst}
use Rattle.std.specs.Option.{option_map}
use Rattle.std.proofs.lemmas.Bool.{false≢true}
use Rattle.std.proofs.lemmas.Option.{none-some, same_Some}
use Rattle.channel_tables.specs.declared.node.Kind.{Kind}
use Rattle.channel_tables.specs.declared.node.Kind.TheVariants.{Source, Sink, Opin, Ipin, Chanx, Chany}
use Rattle.channel_tables.specs.declared.node.Node.{Node}
use Rattle.channel_tables.specs.Fabric.{Fabric}
use Rattle.node_numbers.specs.Nodes.{node_at, kind_of_node, is_source_kind, is_sink_kind, any_node, is_source, is_sink}
use Rattle.rr_edges.specs.Edges.{edge_by, edge_between_nodes, is_edge, edge_between}

from_sink : (a b : Kind) (f : Fabric) (m n : Node) → edge_by a b f m n ≡ true → is_sink_kind a ≡ false
from_sink Source b f m n e = refl
from_sink Sink b f m n e = absurd (false≢true e)
from_sink Opin b f m n e = refl
from_sink Ipin b f m n e = refl
from_sink Chanx b f m n e = refl
from_sink Chany b f m n e = refl

to_source : (a b : Kind) (f : Fabric) (m n : Node) → edge_by a b f m n ≡ true → is_source_kind b ≡ false
to_source Source Source f m n e = absurd (false≢true e)
to_source Sink Source f m n e = absurd (false≢true e)
to_source Opin Source f m n e = absurd (false≢true e)
to_source Ipin Source f m n e = absurd (false≢true e)
to_source Chanx Source f m n e = absurd (false≢true e)
to_source Chany Source f m n e = absurd (false≢true e)
to_source a Sink f m n e = refl
to_source a Opin f m n e = refl
to_source a Ipin f m n e = refl
to_source a Chanx f m n e = refl
to_source a Chany f m n e = refl

from_pin : (b : Kind) (f : Fabric) (m n : Node) → edge_by Ipin b f m n ≡ true → is_sink_kind b ≡ true
from_pin Source f m n e = absurd (false≢true e)
from_pin Sink f m n e = refl
from_pin Opin f m n e = absurd (false≢true e)
from_pin Ipin f m n e = absurd (false≢true e)
from_pin Chanx f m n e = absurd (false≢true e)
from_pin Chany f m n e = absurd (false≢true e)

no_edge_from : (f : Fabric) (a b : Option Node) → edge_between_nodes f a b ≡ true → any_node is_sink_kind a ≡ false
unfolding is_edge
no_edge_from f None b e = refl
no_edge_from f (Some m) None e = absurd (false≢true e)
no_edge_from f (Some m) (Some n) e = from_sink m.kind n.kind f m n e

no_edge_to : (f : Fabric) (a b : Option Node) → edge_between_nodes f a b ≡ true → any_node is_source_kind b ≡ false
unfolding is_edge
no_edge_to f a None e = refl
no_edge_to f None (Some n) e = absurd (false≢true e)
no_edge_to f (Some m) (Some n) e = to_source m.kind n.kind f m n e

pin_enters : (f : Fabric) (a b : Option Node) → option_map (λ n. n.kind) a ≡ Some Ipin → edge_between_nodes f a b ≡ true → any_node is_sink_kind b ≡ true
unfolding is_edge
pin_enters f None b pin e = absurd (none-some _ pin)
pin_enters f (Some m) None pin e = absurd (false≢true e)
pin_enters f (Some m) (Some n) pin e = from_pin n.kind f m n (subst (λ k. edge_by k n.kind f m n ≡ true) (same_Some m.kind Ipin pin) e)

-- no edge leads from a sink
pub leaves_no_sink : (f : Fabric) (a b : ℕ) → edge_between f a b ≡ true → is_sink f a ≡ false
unfolding edge_between is_sink
leaves_no_sink f a b e = no_edge_from f (node_at f a) (node_at f b) e

-- or to a source
pub enters_no_source : (f : Fabric) (a b : ℕ) → edge_between f a b ≡ true → is_source f b ≡ false
unfolding edge_between is_source
enters_no_source f a b e = no_edge_to f (node_at f a) (node_at f b) e

-- an edge from an input pin leads to a sink
pub pin_enters_sink : (f : Fabric) (a b : ℕ) → kind_of_node f a ≡ Some Ipin → edge_between f a b ≡ true → is_sink f b ≡ true
unfolding edge_between is_sink
pin_enters_sink f a b pin e = pin_enters f (node_at f a) (node_at f b) pin e

one_kind : (o : Option Node) → any_node is_source_kind o ≡ true → any_node is_sink_kind o ≡ true → ⊥
one_kind None e g = false≢true e
one_kind (Some n) e g = by_kind n.kind e g
  where
    by_kind : (k : Kind) → is_source_kind k ≡ true → is_sink_kind k ≡ true → ⊥
    by_kind Source e g = false≢true g
    by_kind Sink e g = false≢true e
    by_kind Opin e g = false≢true e
    by_kind Ipin e g = false≢true e
    by_kind Chanx e g = false≢true e
    by_kind Chany e g = false≢true e

-- no node is both a source and a sink
pub source_or_sink : (f : Fabric) (a : ℕ) → is_source f a ≡ true → is_sink f a ≡ true → ⊥
unfolding is_source is_sink
source_or_sink f a e g = one_kind (node_at f a) e g

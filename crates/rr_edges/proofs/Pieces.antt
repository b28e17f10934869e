-- The successors of a node, kind by kind and place by place.
use Rattle.std.proofs.Common.{◌≡◌, ℕ, ◌+◌, false, List, [], ◌∷◌, ◌++◌, length, Some, refl, sym, ap, ◌∙◌, append-nil}
use Rattle.std.specs.List.{flat_map, filter}
use Rattle.channel_tables.specs.declared.node.Kind.{Kind}
use Rattle.channel_tables.specs.declared.node.Kind.TheVariants.{Source, Sink, Opin, Ipin, Chanx, Chany}
use Rattle.channel_tables.specs.declared.node.Node.{Node}
use Rattle.channel_tables.specs.Fabric.{Fabric, numbers_below}
use Rattle.node_numbers.specs.Nodes.{numbers_at, node_of, nodes_at, nodes_of_column, nodes_of_kind, nodes_of, kinds, node_count_of, node_at}
use Rattle.rr_edges.specs.Edges.{edge_by, edge_between_nodes, edge_between, is_edge, successors_of}
use Rattle.channel_tables.specs.Picks.{picks}
use Rattle.node_numbers.specs.Starts.{kind_start, column_start, place_start}
use Rattle.rr_edges.specs.kept.Pieces.{pieces_at, pieces_of_kind}
use Rattle.channel_tables.proofs.Windows.{flat_map_same, flat_map_none}
use Rattle.channel_tables.proofs.Picks.{picks-append, picks-flat_map, picks-map, picks_none, filter_by_index}
use Rattle.node_numbers.proofs.NodesByPlace.{Follow, kinds-follow}

module _ (f : Fabric) where
  -- ---- the successors of a node
  module _ (a : Node) where
    picks_of_place : (k : Kind) (x y : ℕ) → picks (is_edge f a) (place_start f k x y) (nodes_at f k x y) ≡ pieces_at f a k x y
    unfolding pieces_at
    picks_of_place k x y = picks-map (is_edge f a) (node_of k x y) (place_start f k x y) (numbers_at f k x y)

    picks_of_column : (k : Kind) (x : ℕ) → picks (is_edge f a) (column_start f k x) (nodes_of_column f k x) ≡ flat_map (λ y. pieces_at f a k x y) (numbers_below (f.ny + 2))
    unfolding place_start
    picks_of_column k x =
        picks-flat_map (is_edge f a) (nodes_at f k x) (column_start f k x) (f.ny + 2) ∙ flat_map_same _ _ (picks_of_place k x) (numbers_below (f.ny + 2))

    picks_of_kind : (k : Kind) → picks (is_edge f a) (kind_start f k) (nodes_of_kind f k) ≡ pieces_of_kind f a k
    unfolding column_start pieces_of_kind
    picks_of_kind k =
        picks-flat_map (is_edge f a) (nodes_of_column f k) (kind_start f k) (f.nx + 2) ∙ flat_map_same _ _ (picks_of_column k) (numbers_below (f.nx + 2))

    picks_of_kinds : (n : ℕ) (ks : List Kind) → Follow f n ks → picks (is_edge f a) n (flat_map (nodes_of_kind f) ks) ≡ flat_map (pieces_of_kind f a) ks
    picks_of_kinds n [] s = refl
    picks_of_kinds n (k ∷ ks) s =
        let rest = flat_map (nodes_of_kind f) ks in
        picks-append (is_edge f a) n (nodes_of_kind f k) rest
        ∙ ap (λ m. picks (is_edge f a) m (nodes_of_kind f k) ++ picks (is_edge f a) (n + length (nodes_of_kind f k)) rest) (sym s.0)
        ∙ ap (λ ns. ns ++ picks (is_edge f a) (n + length (nodes_of_kind f k)) rest) (picks_of_kind k)
        ∙ ap (λ ns. pieces_of_kind f a k ++ ns) (picks_of_kinds (n + length (nodes_of_kind f k)) ks s.1)

  pub successors_by_kinds : (i : ℕ) (a : Node) → node_at f i ≡ Some a → successors_of f i ≡ flat_map (λ k. pieces_of_kind f a k) kinds
  unfolding successors_of edge_between nodes_of
  successors_by_kinds i a h =
      ap (λ o. filter (λ j. edge_between_nodes f o (node_at f j)) (numbers_below (node_count_of f))) h
      ∙ filter_by_index (edge_between_nodes f (Some a)) (nodes_of f) ∙ picks_of_kinds a 0 kinds (kinds-follow f)

  -- no edge leads to a node of the kind
  no_pieces : (a : Node) (s k : Kind) → a.kind ≡ s → ((b : Node) → edge_by s k f a b ≡ false) → pieces_of_kind f a k ≡ []
  unfolding pieces_of_kind pieces_at is_edge
  no_pieces a s k e h =
      flat_map_none _ (f.nx + 2) (λ x l. flat_map_none _ (f.ny + 2)
      (λ y m. picks_none _ (λ n. ap (λ r. edge_by r k f a (node_of k x y n)) e ∙ h (node_of k x y n)) (place_start f k x y) (numbers_at f k x y)))

  module _ (i : ℕ) (a : Node) (h : node_at f i ≡ Some a) where
    pub successors_of_source : a.kind ≡ Source → successors_of f i ≡ pieces_of_kind f a Opin
    successors_of_source e =
        let none : (k : Kind) → ((b : Node) → edge_by Source k f a b ≡ false) → pieces_of_kind f a k ≡ [] = λ k. no_pieces a Source k e in
        successors_by_kinds i a h
        ∙ rw (none Source (λ b. refl), none Sink (λ b. refl), none Ipin (λ b. refl), none Chanx (λ b. refl), none Chany (λ b. refl))
        (append-nil (pieces_of_kind f a Opin))

    pub successors_of_sink : a.kind ≡ Sink → successors_of f i ≡ []
    successors_of_sink e =
        let none : (k : Kind) → ((b : Node) → edge_by Sink k f a b ≡ false) → pieces_of_kind f a k ≡ [] = λ k. no_pieces a Sink k e in
        successors_by_kinds i a h
        ∙ rw (none Source (λ b. refl), none Sink (λ b. refl), none Opin (λ b. refl), none Ipin (λ b. refl), none Chanx (λ b. refl), none Chany (λ b. refl)) refl

    pub successors_of_opin : a.kind ≡ Opin → successors_of f i ≡ pieces_of_kind f a Chanx ++ pieces_of_kind f a Chany
    successors_of_opin e =
        let none : (k : Kind) → ((b : Node) → edge_by Opin k f a b ≡ false) → pieces_of_kind f a k ≡ [] = λ k. no_pieces a Opin k e in
        successors_by_kinds i a h
        ∙ rw (none Source (λ b. refl), none Sink (λ b. refl), none Opin (λ b. refl), none Ipin (λ b. refl), append-nil (pieces_of_kind f a Chany)) refl

    pub successors_of_ipin : a.kind ≡ Ipin → successors_of f i ≡ pieces_of_kind f a Sink
    successors_of_ipin e =
        let none : (k : Kind) → ((b : Node) → edge_by Ipin k f a b ≡ false) → pieces_of_kind f a k ≡ [] = λ k. no_pieces a Ipin k e in
        successors_by_kinds i a h
        ∙ rw (none Source (λ b. refl), none Opin (λ b. refl), none Ipin (λ b. refl), none Chanx (λ b. refl), none Chany (λ b. refl))
        (append-nil (pieces_of_kind f a Sink))

    pub successors_of_chanx : a.kind ≡ Chanx → successors_of f i ≡ pieces_of_kind f a Ipin ++ (pieces_of_kind f a Chanx ++ pieces_of_kind f a Chany)
    successors_of_chanx e =
        let none : (k : Kind) → ((b : Node) → edge_by Chanx k f a b ≡ false) → pieces_of_kind f a k ≡ [] = λ k. no_pieces a Chanx k e in
        successors_by_kinds i a h ∙ rw (none Source (λ b. refl), none Sink (λ b. refl), none Opin (λ b. refl), append-nil (pieces_of_kind f a Chany)) refl

    pub successors_of_chany : a.kind ≡ Chany → successors_of f i ≡ pieces_of_kind f a Ipin ++ (pieces_of_kind f a Chanx ++ pieces_of_kind f a Chany)
    successors_of_chany e =
        let none : (k : Kind) → ((b : Node) → edge_by Chany k f a b ≡ false) → pieces_of_kind f a k ≡ [] = λ k. no_pieces a Chany k e in
        successors_by_kinds i a h ∙ rw (none Source (λ b. refl), none Sink (λ b. refl), none Opin (λ b. refl), append-nil (pieces_of_kind f a Chany)) refl

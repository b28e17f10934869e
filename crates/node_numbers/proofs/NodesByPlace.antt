-- The nodes by number, kind by kind and place by place.
use Rattle.std.proofs.Common.{◌≡◌, ℕ, ◌+◌, ◌-◌, ◌<◌, ◌≤◌, inl, inr, List, [], ◌∷◌, ◌++◌, length, get_or, Some, refl, sym, ap, ◌∙◌, subst, arith, length-append}
use Rattle.std.specs.Prelude.{slice_get}
use Rattle.std.specs.List.{flat_map}
use Rattle.std.specs.Option.{option_map}
use Rattle.std.proofs.lemmas.Option.{none-some, slice_get-map, slice_get-get_or}
use Rattle.std.proofs.lemmas.List.Concat.{flat_map-append}
use Rattle.channel_tables.specs.declared.node.Kind.{Kind}
use Rattle.channel_tables.specs.declared.node.Kind.TheVariants.{Source, Sink, Opin, Ipin, Chanx, Chany}
use Rattle.channel_tables.specs.declared.node.Node.{Node}
use Rattle.channel_tables.specs.Fabric.{Fabric, numbers_below}
use Rattle.node_numbers.specs.Nodes.{numbers_at, node_of, nodes_at, nodes_of_column, nodes_of_kind, nodes_of, kinds, node_count_of, node_at}
use Rattle.node_numbers.specs.Starts.{kind_start, column_start, place_start}
use Rattle.channel_tables.proofs.Windows.{slice_get-append_left, slice_get-append_right, slice_get-append_cases, slice_get-flat_map, slice_get_from_flat_map, slice_get_from_map}

module _ (f : Fabric) where
  -- the kinds of a list begin one after another, from a number on
  abbrev pub Follow : ℕ → List Kind → Type 0
  Follow n [] = Unit {0}
  Follow n (k ∷ ks) = (kind_start f k ≡ n) × Follow (n + length (nodes_of_kind f k)) ks

  pub kinds-follow : Follow 0 kinds
  unfolding kind_start
  kinds-follow = (refl, (omega arith, (omega arith, (omega arith, (omega arith, (omega arith, tt))))))

  start-follow :
      (n : ℕ) (before after : List Kind) (k : Kind) → Follow n (before ++ k ∷ after)
      → kind_start f k ≡ n + length (flat_map (nodes_of_kind f) before)
  start-follow n [] after k h = omega (arith, h.0)
  start-follow n (b ∷ before) after k h =
      omega (arith, start-follow (n + length (nodes_of_kind f b)) before after k h.1, length-append (nodes_of_kind f b) (flat_map (nodes_of_kind f) before))

  at-follow :
      (before after : List Kind) (k : Kind) (i : ℕ) (a : Node) → Follow 0 (before ++ k ∷ after) → slice_get (nodes_of_kind f k) i ≡ Some a
      → slice_get (flat_map (nodes_of_kind f) (before ++ k ∷ after)) (kind_start f k + i) ≡ Some a
  at-follow before after k i a s h =
      let front = flat_map (nodes_of_kind f) before in
      let rest = flat_map (nodes_of_kind f) after in
      let e : kind_start f k + i ≡ length front + i = omega (arith, start-follow 0 before after k s) in
      ap (slice_get (flat_map (nodes_of_kind f) (before ++ k ∷ after))) e
      ∙ ap (λ ns. slice_get ns (length front + i)) (flat_map-append (nodes_of_kind f) before (k ∷ after))
      ∙ slice_get-append_right front (nodes_of_kind f k ++ rest) i ∙ slice_get-append_left (nodes_of_kind f k) rest i a h

  kind_at : (k : Kind) (i : ℕ) (a : Node) → slice_get (nodes_of_kind f k) i ≡ Some a → node_at f (kind_start f k + i) ≡ Some a
  unfolding nodes_of
  kind_at Source i a h = at-follow [] (Sink ∷ Opin ∷ Ipin ∷ Chanx ∷ Chany ∷ []) Source i a kinds-follow h
  kind_at Sink i a h = at-follow (Source ∷ []) (Opin ∷ Ipin ∷ Chanx ∷ Chany ∷ []) Sink i a kinds-follow h
  kind_at Opin i a h = at-follow (Source ∷ Sink ∷ []) (Ipin ∷ Chanx ∷ Chany ∷ []) Opin i a kinds-follow h
  kind_at Ipin i a h = at-follow (Source ∷ Sink ∷ Opin ∷ []) (Chanx ∷ Chany ∷ []) Ipin i a kinds-follow h
  kind_at Chanx i a h = at-follow (Source ∷ Sink ∷ Opin ∷ Ipin ∷ []) (Chany ∷ []) Chanx i a kinds-follow h
  kind_at Chany i a h = at-follow (Source ∷ Sink ∷ Opin ∷ Ipin ∷ Chanx ∷ []) [] Chany i a kinds-follow h

  -- the node of the j-th number at a place
  pub node_at_place :
      (k : Kind) (x y j n : ℕ) → slice_get (numbers_at f k x y) j ≡ Some n → x < f.nx + 2 → y < f.ny + 2
      → node_at f (place_start f k x y + j) ≡ Some (node_of k x y n)
  unfolding place_start column_start
  node_at_place k x y j n h in_columns in_rows =
      let before = length (flat_map (nodes_of_column f k) (numbers_below x)) in
      let below = length (flat_map (nodes_at f k x) (numbers_below y)) in
      let e : kind_start f k + before + below + j ≡ kind_start f k + (before + (below + j)) = omega arith in
      let a = node_of k x y n in
      let here : slice_get (nodes_at f k x y) j ≡ Some a = slice_get-map (node_of k x y) (numbers_at f k x y) j ∙ ap (option_map (node_of k x y)) h in
      ap (node_at f) e
      ∙ kind_at k (before + (below + j)) a (slice_get-flat_map (nodes_of_column f k) (f.nx + 2) x (below + j) a in_columns
      (slice_get-flat_map (nodes_at f k x) (f.ny + 2) y j a in_rows here))

  pub node_count_by_kinds : node_count_of f ≡ kind_start f Chany + length (nodes_of_kind f Chany)
  unfolding nodes_of
  node_count_by_kinds =
      let before = Source ∷ Sink ∷ Opin ∷ Ipin ∷ Chanx ∷ [] in
      let joined = ap length (flat_map-append (nodes_of_kind f) before (Chany ∷ [])) in
      let front = flat_map (nodes_of_kind f) before in
      let last = nodes_of_kind f Chany in
      omega (arith, start-follow 0 before [] Chany kinds-follow, joined, length-append front (last ++ []), length-append last [])

  kind_found :
      (n : ℕ) (ks : List Kind) (i : ℕ) (a : Node) → Follow n ks → slice_get (flat_map (nodes_of_kind f) ks) i ≡ Some a
      → (k : Kind) × (j : ℕ) × (slice_get (nodes_of_kind f k) j ≡ Some a) × (n + i ≡ kind_start f k + j)
  kind_found n [] i a s h = absurd (none-some a h)
  kind_found n (k ∷ ks) i a s h = elim (slice_get-append_cases (nodes_of_kind f k) (flat_map (nodes_of_kind f) ks) i a h) [
    | inl here ↦ (k, i, here, omega (arith, s.0))
    | inr later ↦ (let r = kind_found (n + length (nodes_of_kind f k)) ks later.0 a s.1 later.1 in (r.0, r.1, r.2, omega (arith, r.3, later.2)))
  ]

  kind_of_member : (k : Kind) (i : ℕ) (a : Node) → slice_get (nodes_of_kind f k) i ≡ Some a → k ≡ a.kind
  kind_of_member k i a h =
      let column = slice_get_from_flat_map (nodes_of_column f k) (f.nx + 2) i a h in
      let place = slice_get_from_flat_map (nodes_at f k column.0) (f.ny + 2) column.1 a column.3 in
      let number = slice_get_from_map (node_of k column.0 place.0) (numbers_at f k column.0 place.0) place.1 a place.3 in
      ap (λ n. n.kind) number.2

  -- the nodes from a kind's start on, as many as it has, are of that kind
  pub kind_within :
      (k : Kind) (i : ℕ) → kind_start f k ≤ i → i < kind_start f k + length (nodes_of_kind f k) → option_map (λ n. n.kind) (node_at f i) ≡ Some k
  kind_within k i from within =
      let rest = i - kind_start f k in
      let nodes = nodes_of_kind f k in
      let a = get_or nodes rest (node_of k 0 0 0) in
      let here = slice_get-get_or nodes rest (node_of k 0 0 0) (omega (arith, from, within)) in
      let e : i ≡ kind_start f k + rest = omega (arith, from) in
      ap (λ j. option_map (λ n. n.kind) (node_at f j)) e ∙ ap (option_map (λ n. n.kind)) (kind_at k rest a here) ∙ ap Some (sym (kind_of_member k rest a here))

  -- the node is the j-th at the place that its fields name, and i is its number
  abbrev pub IsNumbered : ℕ → Node → Type 0
  IsNumbered i a =
      (j : ℕ) × (a.x < f.nx + 2) × (a.y < f.ny + 2) × (slice_get (numbers_at f a.kind a.x a.y) j ≡ Some a.number)
      × (i ≡ place_start f a.kind a.x a.y + j)

  -- a node stands where its own fields say
  pub place_of_node : (i : ℕ) (a : Node) → node_at f i ≡ Some a → IsNumbered i a
  unfolding nodes_of place_start column_start
  place_of_node i a h =
      let of_kind = kind_found 0 kinds i a kinds-follow h in
      let k = of_kind.0 in
      let column = slice_get_from_flat_map (nodes_of_column f k) (f.nx + 2) of_kind.1 a of_kind.2 in
      let x = column.0 in
      let place = slice_get_from_flat_map (nodes_at f k x) (f.ny + 2) column.1 a column.3 in
      let y = place.0 in
      let number = slice_get_from_map (node_of k x y) (numbers_at f k x y) place.1 a place.3 in
      let e : i ≡ place_start f k x y + place.1 = omega (arith, of_kind.3, column.4, place.4) in
      subst (IsNumbered i) {x = node_of k x y number.0} number.2 (place.1, column.2, place.2, number.1, e)

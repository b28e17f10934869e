-- The nodes of a device stand in a strict order: none stands twice, and there are fewer than 2^23.
use Rattle.std.proofs.Common.{◌≡◌, ℕ, ◌+◌, ◌*◌, ◌^◌, ◌<◌, ◌≤◌, zero, suc, true, cond, List, [], ◌∷◌, ◌++◌, length, map, get_or, Option, Some, None, refl, sym, ap, ◌∙◌, subst, arith, length-append, if◌then◌else◌}
use Rattle.std.specs.Prelude.{◌==◌, ◌&&◌, slice_get, nat_lt, IfSome}
use Rattle.std.specs.List.{range_with_len, flat_map, position, position_or_len}
use Rattle.std.proofs.lemmas.Bool.{eqb-true, eq-eqb, and_parts, and_from, false_from_ne_true, lt-ltb}
use Rattle.std.proofs.lemmas.List.Sums.{position_or_len_is}
use Rattle.std.proofs.lemmas.List.Quantifiers.{position-Some}
use Rattle.std.proofs.lemmas.Option.{slice_get_within, get_or_from_slice_get, slice_get-get_or}
use Rattle.std.proofs.lemmas.List.{length-map}
use Rattle.std.proofs.lemmas.Nat.{mul-le}
use Rattle.channel_tables.specs.declared.node.Kind.{Kind}
use Rattle.channel_tables.specs.declared.node.Kind.TheVariants.{Source, Sink, Opin, Ipin, Chanx, Chany}
use Rattle.channel_tables.specs.declared.node.Node.{Node}
use Rattle.channel_tables.specs.Fabric.{Fabric, IsFabric, numbers_below, is_block, is_pad}
use Rattle.channel_tables.specs.Wires.{beginnings_at}
use Rattle.node_numbers.specs.Nodes.{numbers_at, terminals_at, node_of, nodes_at, nodes_of_column, nodes_of_kind, nodes_of, node_count_of, node_at, number_of, rank_of_kind, is_same}
use Rattle.channel_tables.proofs.Rising.{Rises, beginnings-rise, classes-rise, length-joined, length-rises, pins-rise, rises-below, rises-if}

-- ---- a node's place in the order, as one number
abbrev pub code_of : Node → ℕ
code_of n = rank_of_kind n.kind * 2663424 + n.x * 26112 + n.y * 256 + n.number

abbrev pub Ascends : ℕ → ℕ → List Node → Type 0
Ascends lo hi [] = lo ≤ hi
Ascends lo hi (n ∷ ns) = (lo ≤ code_of n) × Ascends (code_of n + 1) hi ns

ascends-lower : (low lo hi : ℕ) (ns : List Node) → low ≤ lo → Ascends lo hi ns → Ascends low hi ns
ascends-lower low lo hi [] l h = omega arith
ascends-lower low lo hi (n ∷ ns) l h = (omega (arith, h.0), h.1)

ascends-higher : (lo hi high : ℕ) (ns : List Node) → hi ≤ high → Ascends lo hi ns → Ascends lo high ns
ascends-higher lo hi high [] l h = omega arith
ascends-higher lo hi high (n ∷ ns) l h = (h.0, ascends-higher (code_of n + 1) hi high ns l h.1)

ascends-append : (lo mid hi : ℕ) (ms ns : List Node) → Ascends lo mid ms → Ascends mid hi ns → Ascends lo hi (ms ++ ns)
ascends-append lo mid hi [] ns g h = ascends-lower lo mid hi ns g h
ascends-append lo mid hi (m ∷ ms) ns g h = (g.0, ascends-append (code_of m + 1) mid hi ms ns g.1 h)

ascends-map : (k : Kind) (x y lo hi base : ℕ) (ns : List ℕ) → base ≡ rank_of_kind k * 2663424 + x * 26112 + y * 256 → Rises lo hi ns → Ascends (base + lo) (base + hi) (map (node_of k x y) ns)
ascends-map k x y lo hi base [] e h = omega arith
ascends-map k x y lo hi base (n ∷ ns) e h =
    let code : base + n ≡ code_of (node_of k x y n) = omega arith in
    let rest = ascends-map k x y (n + 1) hi base ns e h.1 in
    (omega (arith, h.0), ascends-lower (code_of (node_of k x y n) + 1) (base + (n + 1)) (base + hi) (map (node_of k x y) ns) (omega arith) rest)

-- blocks of codes, one after another
ascends-joined : (g : ℕ → List Node) (base step : ℕ) → ((i : ℕ) → Ascends (base + i * step) (base + i * step + step) (g i)) → (a n : ℕ) → Ascends (base + a * step) (base + (a + n) * step) (flat_map g (range_with_len a n))
ascends-joined g base step each a zero = omega arith
ascends-joined g base step each a (suc n) =
    let next : base + a * step + step ≡ base + (a + 1) * step = omega arith in
    let last : base + (a + 1 + n) * step ≡ base + (a + suc n) * step = omega arith in
    let F : ℕ → Type 0 = λ l. Ascends l (base + (a + suc n) * step) (flat_map g (range_with_len (a + 1) n)) in
    let H : ℕ → Type 0 = λ h. Ascends (base + (a + 1) * step) h (flat_map g (range_with_len (a + 1) n)) in
    ascends-append (base + a * step) (base + a * step + step) (base + (a + suc n) * step) (g a) (flat_map g (range_with_len (a + 1) n)) (each a)
    (subst F (sym next) (subst H last (ascends-joined g base step each (a + 1) n)))

-- the numbers of a kind's nodes are below this
abbrev pub number_limit : Kind → ℕ
number_limit Source = 64
number_limit Sink = 64
number_limit Opin = 64
number_limit Ipin = 64
number_limit Chanx = 256
number_limit Chany = 256

pub number_limit_small : (k : Kind) → number_limit k ≤ 256
number_limit_small Source = omega arith
number_limit_small Sink = omega arith
number_limit_small Opin = omega arith
number_limit_small Ipin = omega arith
number_limit_small Chanx = omega arith
number_limit_small Chany = omega arith

terminals-rise : (f : Fabric) (x y : ℕ) (ns : List ℕ) → IsFabric f → Rises 0 64 ns → Rises 0 64 (terminals_at f x y ns)
terminals-rise f x y ns l r =
    let pads : f.architecture.io_rat ≤ 64 = omega (arith, l.limits.few_pads) in
    rises-if (is_block f x y) 64 ns (if is_pad f x y then numbers_below f.architecture.io_rat else []) r
    (rises-if (is_pad f x y) 64 (numbers_below f.architecture.io_rat) [] (rises-below f.architecture.io_rat 64 pads) (omega arith))

pub numbers-rise : (f : Fabric) → IsFabric f → (k : Kind) (x y : ℕ) → Rises 0 (number_limit k) (numbers_at f k x y)
unfolding numbers_at
numbers-rise f l Source x y = terminals-rise f x y _ l (classes-rise f.architecture _ l.limits)
numbers-rise f l Sink x y = terminals-rise f x y _ l (classes-rise f.architecture _ l.limits)
numbers-rise f l Opin x y = terminals-rise f x y _ l (pins-rise f.architecture _ l.limits)
numbers-rise f l Ipin x y = terminals-rise f x y _ l (pins-rise f.architecture _ l.limits)
numbers-rise f l Chanx x y = rises-if _ 256 (beginnings_at f f.nx x) [] (beginnings-rise f f.nx x l) (omega arith)
numbers-rise f l Chany x y = rises-if _ 256 (beginnings_at f f.ny y) [] (beginnings-rise f f.ny y l) (omega arith)

-- ---- the whole list
module _ (f : Fabric) (l : IsFabric f) where
  at-ascends : (k : Kind) (x y : ℕ) → Ascends (rank_of_kind k * 2663424 + x * 26112 + y * 256) (rank_of_kind k * 2663424 + x * 26112 + y * 256 + 256) (nodes_at f k x y)
  at-ascends k x y =
      let base = rank_of_kind k * 2663424 + x * 26112 + y * 256 in
      ascends-lower base (base + 0) (base + 256) (nodes_at f k x y) (omega arith)
      (ascends-higher (base + 0) (base + number_limit k) (base + 256) (nodes_at f k x y) (omega (arith, number_limit_small k))
      (ascends-map k x y 0 (number_limit k) base (numbers_at f k x y) refl (numbers-rise f l k x y)))

  column-ascends : (k : Kind) (x : ℕ) → Ascends (rank_of_kind k * 2663424 + x * 26112) (rank_of_kind k * 2663424 + x * 26112 + 26112) (nodes_of_column f k x)
  column-ascends k x =
      let base = rank_of_kind k * 2663424 + x * 26112 in
      ascends-lower base (base + 0 * 256) (base + 26112) (nodes_of_column f k x) (omega arith)
      (ascends-higher (base + 0 * 256) (base + (0 + (f.ny + 2)) * 256) (base + 26112) (nodes_of_column f k x) (omega (arith, l.few_rows))
      (ascends-joined (nodes_at f k x) base 256 (at-ascends k x) 0 (f.ny + 2)))

  kind-ascends : (k : Kind) → Ascends (rank_of_kind k * 2663424) (rank_of_kind k * 2663424 + 2663424) (nodes_of_kind f k)
  kind-ascends k =
      let base = rank_of_kind k * 2663424 in
      ascends-lower base (base + 0 * 26112) (base + 2663424) (nodes_of_kind f k) (omega arith)
      (ascends-higher (base + 0 * 26112) (base + (0 + (f.nx + 2)) * 26112) (base + 2663424) (nodes_of_kind f k) (omega (arith, l.few_columns))
      (ascends-joined (nodes_of_column f k) base 26112 (column-ascends k) 0 (f.nx + 2)))

  pub nodes-ascend : Ascends 0 15980544 (nodes_of f)
  unfolding nodes_of
  nodes-ascend =
      ascends-append 0 2663424 15980544 (nodes_of_kind f Source) _ (kind-ascends Source)
      (ascends-append 2663424 5326848 15980544 (nodes_of_kind f Sink) _ (kind-ascends Sink)
      (ascends-append 5326848 7990272 15980544 (nodes_of_kind f Opin) _ (kind-ascends Opin)
      (ascends-append 7990272 10653696 15980544 (nodes_of_kind f Ipin) _ (kind-ascends Ipin)
      (ascends-append 10653696 13317120 15980544 (nodes_of_kind f Chanx) _ (kind-ascends Chanx)
      (ascends-append 13317120 15980544 15980544 (nodes_of_kind f Chany) [] (kind-ascends Chany) (omega arith))))))

  at-length : (k : Kind) (x y : ℕ) → length (nodes_at f k x y) ≤ number_limit k
  at-length k x y = omega (arith, length-map (numbers_at f k x y) (node_of k x y), length-rises 0 (number_limit k) (numbers_at f k x y) (numbers-rise f l k x y))

  kind-length : (k : Kind) → length (nodes_of_kind f k) ≤ 102 * (102 * number_limit k)
  kind-length k =
      let column : (x : ℕ) → length (nodes_of_column f k x) ≤ (f.ny + 2) * number_limit k = λ x. length-joined (nodes_at f k x) (number_limit k) (at-length k x) 0 (f.ny + 2) in
      let all = length-joined (nodes_of_column f k) ((f.ny + 2) * number_limit k) column 0 (f.nx + 2) in
      let rows = mul-le (f.ny + 2) (number_limit k) 102 (number_limit k) (omega (arith, l.few_rows)) (omega arith) in
      let columns = mul-le (f.nx + 2) ((f.ny + 2) * number_limit k) 102 (102 * number_limit k) (omega (arith, l.few_columns)) rows in
      omega (arith, all, columns)

  pub node_count_small : node_count_of f < 8388608
  unfolding nodes_of
  node_count_small =
      let a = nodes_of_kind f Source in
      let b = nodes_of_kind f Sink in
      let c = nodes_of_kind f Opin in
      let d = nodes_of_kind f Ipin in
      let e = nodes_of_kind f Chanx in
      let g = nodes_of_kind f Chany in
      omega (arith, length-append a (b ++ (c ++ (d ++ (e ++ (g ++ []))))), length-append b (c ++ (d ++ (e ++ (g ++ [])))), length-append c (d ++ (e ++ (g ++ []))), length-append d (e ++ (g ++ [])), length-append e (g ++ []), length-append g [], kind-length Source, kind-length Sink, kind-length Opin, kind-length Ipin, kind-length Chanx, kind-length Chany)

pub node_count_below : (f : Fabric) → IsFabric f → node_count_of f < 2 ^ 23
node_count_below f l = node_count_small f l

-- ---- a node stands once
kind_of_rank : ℕ → Kind
kind_of_rank n = if n == 0 then Source else (if n == 1 then Sink else (if n == 2 then Opin else (if n == 3 then Ipin else (if n == 4 then Chanx else Chany))))

kind_of_rank-rank : (k : Kind) → kind_of_rank (rank_of_kind k) ≡ k
unfolding kind_of_rank
kind_of_rank-rank Source = refl
kind_of_rank-rank Sink = refl
kind_of_rank-rank Opin = refl
kind_of_rank-rank Ipin = refl
kind_of_rank-rank Chanx = refl
kind_of_rank-rank Chany = refl

same_kind : (j k : Kind) → rank_of_kind j ≡ rank_of_kind k → j ≡ k
same_kind j k e = sym (kind_of_rank-rank j) ∙ ap kind_of_rank e ∙ kind_of_rank-rank k

record SameParts (m n : Node) : Type 0 where
  rank : rank_of_kind m.kind ≡ rank_of_kind n.kind
  x : m.x ≡ n.x
  y : m.y ≡ n.y
  number : m.number ≡ n.number

parts-same : (m n : Node) → is_same m n ≡ true → SameParts m n
unfolding is_same
parts-same m n e =
    let both = and_parts (rank_of_kind m.kind == rank_of_kind n.kind && m.x == n.x) (m.y == n.y && m.number == n.number) e in
    let front = and_parts (rank_of_kind m.kind == rank_of_kind n.kind) (m.x == n.x) both.0 in
    let back = and_parts (m.y == n.y) (m.number == n.number) both.1 in
    record { rank = eqb-true _ _ front.0; x = eqb-true _ _ front.1; y = eqb-true _ _ back.0; number = eqb-true _ _ back.1 }

pub is_same-true : (m n : Node) → is_same m n ≡ true → m ≡ n
is_same-true m n e =
    let p = parts-same m n e in
    let k = same_kind m.kind n.kind p.rank in
    rebuilt m.kind n.kind m.x n.x m.y n.y m.number n.number k p.x p.y p.number
  where
    rebuilt : (j k : Kind) (x x' y y' i i' : ℕ) → j ≡ k → x ≡ x' → y ≡ y' → i ≡ i' → node_of j x y i ≡ node_of k x' y' i'
    rebuilt j k x x' y y' i i' a b c d = rw (a, b, c, d) refl

pub is_same-refl : (n : Node) → is_same n n ≡ true
unfolding is_same
is_same-refl n =
    and_from (rank_of_kind n.kind == rank_of_kind n.kind && n.x == n.x) (n.y == n.y && n.number == n.number)
    (and_from (rank_of_kind n.kind == rank_of_kind n.kind) (n.x == n.x) (eq-eqb (rank_of_kind n.kind) (rank_of_kind n.kind) refl) (eq-eqb n.x n.x refl))
    (and_from (n.y == n.y) (n.number == n.number) (eq-eqb n.y n.y refl) (eq-eqb n.number n.number refl))

same-code : (m n : Node) → is_same m n ≡ true → code_of m ≡ code_of n
same-code m n e = ap code_of (is_same-true m n e)

low-code : (lo hi : ℕ) (ns : List Node) (k : ℕ) (d : Node) → Ascends lo hi ns → k < length ns → lo ≤ code_of (get_or ns k d)
low-code lo hi [] k d h l = absurd (omega arith)
low-code lo hi (n ∷ ns) zero d h l = h.0
low-code lo hi (n ∷ ns) (suc k) d h l = omega (arith, low-code (code_of n + 1) hi ns k d h.1 (omega arith), h.0)

less-code : (lo hi : ℕ) (ns : List Node) (k i : ℕ) (d : Node) → Ascends lo hi ns → k < i → i < length ns → code_of (get_or ns k d) < code_of (get_or ns i d)
less-code lo hi [] k i d h l m = absurd (omega arith)
less-code lo hi (n ∷ ns) k zero d h l m = absurd (omega arith)
less-code lo hi (n ∷ ns) zero (suc i) d h l m = omega (arith, low-code (code_of n + 1) hi ns i d h.1 (omega arith))
less-code lo hi (n ∷ ns) (suc k) (suc i) d h l m = less-code (code_of n + 1) hi ns k i d h.1 (omega arith) (omega arith)

-- the place of the node at i is i
place-of : (lo hi : ℕ) (ns : List Node) (i : ℕ) (n : Node) → Ascends lo hi ns → slice_get ns i ≡ Some n → position (λ m. is_same m n) ns ≡ Some i
place-of lo hi ns i n h e =
    let within = slice_get_within ns i n e in
    let here : get_or ns i n ≡ n = get_or_from_slice_get ns i n n e in
    let at : position_or_len (λ m. is_same m n) ns ≡ i = position_or_len_is (λ m. is_same m n) ns i n (omega arith)
    (λ k l. false_from_ne_true (is_same (get_or ns k n) n) (λ t. let c = same-code (get_or ns k n) n t in let d = ap code_of here in omega (arith, less-code lo hi ns k i n h l within, c, d)))
    (λ _. subst (λ (m : Node). is_same m n ≡ true) (sym here) (is_same-refl n)) in
    ap (λ p. cond (nat_lt p (length ns)) (Some p) None) at ∙ ap (λ b. cond b (Some i) None) (lt-ltb i (length ns) within)

pub number_of_node : (f : Fabric) → IsFabric f → (i : ℕ) (n : Node) → node_at f i ≡ Some n → number_of f n ≡ Some i
number_of_node f l i n e = place-of 0 15980544 (nodes_of f) i n (nodes-ascend f l) e

pub node_of_number : (f : Fabric) (i : ℕ) (n : Node) → number_of f n ≡ Some i → node_at f i ≡ Some n
node_of_number f i n e =
    let p = position-Some (λ m. is_same m n) (nodes_of f) i n e in
    slice_get-get_or (nodes_of f) i n p.0 ∙ ap Some (is_same-true (get_or (nodes_of f) i n) n p.1)

pub node_inverse : (f : Fabric) → IsFabric f → (i : ℕ) (r : Option Node) → r ≡ node_at f i → IfSome r (λ n. number_of f n ≡ Some i)
node_inverse f l i None e = tt
node_inverse f l i (Some n) e = number_of_node f l i n (sym e)

pub number_inverse : (f : Fabric) (n : Node) (r : Option ℕ) → r ≡ number_of f n → IfSome r (λ i. node_at f i ≡ Some n)
number_inverse f n None e = tt
number_inverse f n (Some i) e = node_of_number f i n (sym e)

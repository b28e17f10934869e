-- Counting the nodes that nets cover.
use Rattle.std.proofs.Common.{◌≡◌, ℕ, ◌+◌, ◌<◌, ◌≤◌, ◌==◌, zero, suc, Bool, true, false, cond, inl, inr, List, [], ◌∷◌, ◌++◌, length, get_or, replicate, All, refl, sym, ap, ◌∙◌, subst, arith, add-one, add_assoc, drop}
use Rattle.std.specs.Prelude.{take, count_by, map}
use Rattle.std.specs.List.{filter}
use Rattle.std.proofs.lemmas.Bool.{cases_eq, cases_lt, eq-eqb, ne_eqb}
use Rattle.std.proofs.lemmas.List.{length-take-le, take_more, take_all, get_or_default, take-append-drop, same_lists, length-replicate}
use Rattle.std.proofs.lemmas.List.Sums.{sum_by-append}
use Rattle.routing_problem.specs.Fabric.{numbers_below}
use Rattle.routing_problem.specs.Nodes.{node_count_of}
use Rattle.routing_problem.specs.Problems.{Net, RoutingProblem, net_in, IsProblem}
use Rattle.std.proofs.lemmas.List.FromFn.{length-range_with_len, get_or-range_with_len}
use Rattle.routing_problem.proofs.Ascending.{all_kept}
use Rattle.routing_problem.proofs.Ranges.{filter_next, length_below, get_below}
use Rattle.route_tree.specs.Usage.{covers_by, use_by, use_of, Lists, list_in}
use Rattle.route_tree.proofs.Uses.{few_uses}
use Rattle.route_report.specs.Covered.{nodes_covered, uses_of}
use Rattle.route_tree.specs.kept.Counting.{Counts}
use Rattle.route_tree.proofs.Counting.{one_more, counts_then}
use Rattle.route_report.specs.kept.Counting.{AreUses}

-- ---- a list of nodes, one by one
module _ (nodes old counts : List ℕ) (i : ℕ) where
  pub counts_next : (new : List ℕ) → i < length nodes → Counts old (take i nodes) counts → Counts counts (get_or nodes i 0 ∷ []) new → Counts old (take (i + 1) nodes) new
  counts_next new l so_far more = subst (λ xs. Counts old xs new) (sym (take_more nodes i 0 l)) (counts_then old counts new (take i nodes) (get_or nodes i 0 ∷ []) so_far more)

  pub counts_all : length nodes ≤ i → Counts old (take i nodes) counts → Counts old nodes counts
  counts_all all so_far = subst (λ ns. Counts old ns counts) (take_all i nodes all) so_far

  pub node_there : i < length nodes → All (λ a. a < length old) nodes → Counts old (take i nodes) counts → get_or nodes i 0 < length counts
  node_there l there so_far =
      let below = there i 0 l in
      let size = so_far.size in
      omega (arith, below, size)

  pub node_room : i < length nodes → ((a : ℕ) → get_or old a 0 + count_by (λ b. b == a) nodes ≤ 65535) → Counts old (take i nodes) counts → get_or counts (get_or nodes i 0) 0 < 65535
  node_room l room so_far =
      let e = get_or nodes i 0 in
      let most = room e in
      let each = so_far.each e in
      let parts : count_by (λ b. b == e) nodes ≡ count_by (λ b. b == e) (take (i + 1) nodes) + count_by (λ b. b == e) (drop (i + 1) nodes) =
      ap (count_by (λ b. b == e)) (sym (take-append-drop (i + 1) nodes)) ∙ sum_by-append (λ b. cond (b == e) 1 0) (take (i + 1) nodes) (drop (i + 1) nodes) in
      let next : count_by (λ b. b == e) (take (i + 1) nodes) ≡ count_by (λ b. b == e) (take i nodes) + count_by (λ b. b == e) (e ∷ []) =
      ap (count_by (λ b. b == e)) (take_more nodes i 0 l) ∙ sum_by-append (λ b. cond (b == e) 1 0) (take i nodes) (e ∷ []) in
      let one = one_more e e true (eq-eqb e e refl) in
      omega (arith, most, each, parts, next, one)

-- ---- a number that is kept is counted once
counted_next : (p : ℕ → Bool) (n a : ℕ) → count_by (λ b. b == a) (filter p (numbers_below (suc n)))
    ≡ count_by (λ b. b == a) (filter p (numbers_below n)) + count_by (λ b. b == a) (cond (p n) (n ∷ []) [])
counted_next p n a =
    ap (λ k. count_by (λ b. b == a) (filter p (numbers_below k))) (sym (add-one n))
    ∙ ap (count_by (λ b. b == a)) (filter_next p n)
    ∙ sum_by-append (λ b. cond (b == a) 1 0) (filter p (numbers_below n)) (cond (p n) (n ∷ []) [])

last_apart : (n a : ℕ) (t : Bool) → (n == a) ≡ false → count_by (λ b. b == a) (cond t (n ∷ []) []) ≡ 0
last_apart n a true e = one_more a n false e
last_apart n a false e = refl

last_same : (n : ℕ) (t : Bool) → count_by (λ b. b == n) (cond t (n ∷ []) []) ≡ cond t 1 0
last_same n true = one_more n n true (eq-eqb n n refl)
last_same n false = refl

pub past_counted : (p : ℕ → Bool) (n a : ℕ) → n ≤ a → count_by (λ b. b == a) (filter p (numbers_below n)) ≡ 0
past_counted p zero a l = refl
past_counted p (suc n) a l =
    let next = counted_next p n a in
    let rest = past_counted p n a (omega (arith, l)) in
    let none = last_apart n a (p n) (ne_eqb n a (λ e. absurd (omega (arith, l, e)))) in
    omega (arith, next, rest, none)

pub kept_counted : (p : ℕ → Bool) (n a : ℕ) → a < n → count_by (λ b. b == a) (filter p (numbers_below n)) ≡ cond (p a) 1 0
kept_counted p zero a l = absurd (omega (arith, l))
kept_counted p (suc n) a l = elim (cases_eq a n) [
  | inl same ↦ (
      let next = counted_next p n a in
      let rest = past_counted p n a (omega (arith, same)) in
      let one : count_by (λ b. b == a) (cond (p n) (n ∷ []) []) ≡ cond (p a) 1 0 = subst (λ k. count_by (λ b. b == a) (cond (p k) (k ∷ []) []) ≡ cond (p a) 1 0) same (last_same a (p a)) in
      omega (arith, next, rest, one))
  | inr apart ↦ (
      let next = counted_next p n a in
      let rest = kept_counted p n a (omega (arith, l, apart)) in
      let none = last_apart n a (p n) (ne_eqb n a (λ e. apart (sym e))) in
      omega (arith, next, rest, none))
]

-- ---- one net more
nothing : (nets : List Net) (a : ℕ) → use_of nets [] a ≡ 0
nothing [] a = refl
nothing (n ∷ ns) a = refl

pub use_next : (nets : List Net) (lists : Lists) (i a : ℕ) → i < length nets →
    use_of (take (i + 1) nets) lists a ≡ use_of (take i nets) lists a + use_by (net_in nets i) (list_in lists i) a
use_next [] lists i a l = absurd (omega (arith, l))
use_next (n ∷ ns) [] i a l =
    let more = nothing (take (i + 1) (n ∷ ns)) a in
    let less = nothing (take i (n ∷ ns)) a in
    omega (arith, more, less)
use_next (n ∷ ns) (x ∷ xs) zero a l = omega arith
use_next (n ∷ ns) (x ∷ xs) (suc i) a l =
    let next : suc i + 1 ≡ suc (i + 1) = omega arith in
    ap (λ k. use_of (take k (n ∷ ns)) (x ∷ xs) a) next
    ∙ ap (λ k. use_by n x a + k) (use_next ns xs i a (omega (arith, l)))
    ∙ sym (add_assoc (use_by n x a) (use_of (take i ns) xs a) (use_by (net_in ns i) (list_in xs i) a))

pub zeros : (nodes a : ℕ) → get_or (replicate nodes zero) a zero ≡ zero
zeros zero a = refl
zeros (suc n) zero = refl
zeros (suc n) (suc a) = zeros n a

-- ---- the nodes of one net more
net_counted : (p : RoutingProblem) (lists : Lists) (i a : ℕ) → a < node_count_of p.device →
    count_by (λ b. b == a) (nodes_covered p lists i) ≡ use_by (net_in p.nets i) (list_in lists i) a
unfolding nodes_covered
net_counted p lists i a l = kept_counted (covers_by (net_in p.nets i) (list_in lists i)) (node_count_of p.device) a l

past_net : (p : RoutingProblem) (lists : Lists) (i a : ℕ) → node_count_of p.device ≤ a → count_by (λ b. b == a) (nodes_covered p lists i) ≡ 0
unfolding nodes_covered
past_net p lists i a l = past_counted (covers_by (net_in p.nets i) (list_in lists i)) (node_count_of p.device) a l

one_at_most : (b : Bool) → cond b 1 0 ≤ 1
one_at_most true = omega arith
one_at_most false = omega arith

past_get : (xs : List ℕ) (a : ℕ) → length xs ≤ a → get_or xs a 0 ≡ 0
past_get [] a l = refl
past_get (x ∷ xs) zero l = absurd (omega (arith, l))
past_get (x ∷ xs) (suc a) l = past_get xs a (omega (arith, l))

module _ (p : RoutingProblem) (lists : Lists) (i : ℕ) (there : i < length p.nets) (counts : List ℕ) (uses : AreUses p lists i counts) where
  pub covered_there : All (λ a. a < length counts) (nodes_covered p lists i)
  unfolding nodes_covered
  covered_there =
      all_kept (covers_by (net_in p.nets i) (list_in lists i)) (λ a. a < length counts) (numbers_below (node_count_of p.device))
      (λ k d l e.
      let low : k < node_count_of p.device = omega (arith, l, length-range_with_len 0 (node_count_of p.device)) in
      let is = get_or-range_with_len 0 (node_count_of p.device) k d low in
      let size = uses.size in
      omega (arith, is, low, size))

  pub covered_room : IsProblem p → (a : ℕ) → get_or counts a 0 + count_by (λ b. b == a) (nodes_covered p lists i) ≤ 65535
  covered_room keeps a = elim (cases_lt a (node_count_of p.device)) [
    | inl low ↦ (
        let each = uses.each a low in
        let few = few_uses (take i p.nets) lists a in
        let size = length-take-le i p.nets (let l : i < length p.nets = there in omega arith) in
        let one = net_counted p lists i a low in
        let most = one_at_most (covers_by (net_in p.nets i) (list_in lists i) a) in
        let limit = keeps.few in
        omega (arith, each, few, size, one, most, limit))
    | inr past ↦ (
        let size = uses.size in
        let none = past_get counts a (omega (arith, past, size)) in
        let nobody = past_net p lists i a past in
        omega (arith, none, nobody))
  ]

  pub uses_more : (new : List ℕ) → Counts counts (nodes_covered p lists i) new → AreUses p lists (i + 1) new
  uses_more new counted = record {
    size = counted.size ∙ uses.size;
    each = λ a low.
        let more = counted.each a in
        let each = uses.each a low in
        let one = net_counted p lists i a low in
        let next = use_next p.nets lists i a there in
        omega (arith, more, each, one, next);
  }

-- ---- from no net to all
pub no_uses : (p : RoutingProblem) (lists : Lists) (counts : List ℕ) → counts ≡ replicate (node_count_of p.device) 0 → AreUses p lists 0 counts
no_uses p lists counts e = record {
  size = ap length e ∙ length-replicate (node_count_of p.device) 0;
  each = λ a low. ap (λ cs. get_or cs a 0) e ∙ zeros (node_count_of p.device) a;
}

-- a list that has the value of f at each place below n
pub listed_below : (f : ℕ → ℕ) (n : ℕ) (xs : List ℕ) → length xs ≡ n → ((a : ℕ) → a < n → get_or xs a 0 ≡ f a) → xs ≡ map f (numbers_below n)
listed_below f n xs size at =
    same_lists xs (map f (numbers_below n)) (size ∙ sym (length_below f n))
    (λ k d l.
    let within : k < n = omega (arith, l, size) in
    get_or_default xs k d 0 l ∙ (at k within ∙ sym (get_below f n k d within)))

pub all_used : (p : RoutingProblem) (lists : Lists) (counts : List ℕ) (i : ℕ) → i ≡ length p.nets → AreUses p lists i counts → counts ≡ uses_of p lists
unfolding uses_of
all_used p lists counts i all uses =
    listed_below (use_of p.nets lists) (node_count_of p.device) counts uses.size
    (λ a low. uses.each a low ∙ ap (λ nets. use_of nets lists a) (take_all i p.nets (omega (arith, all))))

-- what was written over the whole of a list
pub written_back : {X : Type 0} (new rest : List X) (len : ℕ) → len ≡ length new → take len (new ++ rest) ≡ new
written_back {X} new rest len e = ap (λ k. take k (new ++ rest)) e ∙ front new
  where
    front : (xs : List X) → take (length xs) (xs ++ rest) ≡ xs
    front [] = refl
    front (x ∷ xs) = ap (λ ys. x ∷ ys) (front xs)

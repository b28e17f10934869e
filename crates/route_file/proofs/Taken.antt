-- Lists that are taken in the order of the nets of a problem.
use Rattle.std.proofs.Common.{◌≡◌, ◌≢◌, ℕ, ◌+◌, ◌-◌, ◌<◌, ◌≤◌, List, [], ◌∷◌, ◌++◌, length, map, take, get_or, set, Option, None, refl, sym, ap, subst, ◌∙◌, arith}
use Rattle.std.specs.List.Sorted.{IsStrictlyIncreasing}
use Rattle.std.proofs.lemmas.List.{length-map, get_or-map, get_or-set_other, map_more, take_all}
use Rattle.rr_graph.specs.Problems.{Net, no_net, net_in}
use Rattle.route_tree.specs.Paths.{Pair}

abbrev Lists : Type 0
Lists = List (Option (List Pair))

-- the list of a net among these
abbrev list_of : Lists → Net → Option (List Pair)
list_of lists net = get_or lists net.number None

pub record IsTaken (nets : List Net) (initial lists ordered : Lists) (i : ℕ) : Type 0 where
  pub taken : ordered ≡ map (λ net. get_or initial net.number None) (take i nets)
  pub left : (k : ℕ) → (0 < i → (net_in nets (i - 1)).number < k) → get_or lists k None ≡ get_or initial k None

pub none_taken : (nets : List Net) (lists ordered : Lists) → ordered ≡ [] → IsTaken nets lists lists ordered 0
none_taken nets lists ordered none = record { taken = none; left = λ k h. refl }

ascends_at : (nets : List Net) (i : ℕ) → IsStrictlyIncreasing (map (λ n. n.number) nets) → i < length nets → 0 < i → (net_in nets (i - 1)).number < (net_in nets i).number
ascends_at nets i rises lt some =
    let next : i - 1 + 1 ≡ i = omega (arith, some) in
    let within : i - 1 + 1 < length (map (λ n. n.number) nets) = omega (arith, next, lt, length-map nets (λ n. n.number)) in
    let low = get_or-map (λ n. n.number) nets (i - 1) no_net 0 (omega (arith, lt)) in
    let high = ap (λ j. get_or (map (λ n. n.number) nets) j 0) next ∙ get_or-map (λ n. n.number) nets i no_net 0 lt in
    omega (arith, rises (i - 1) within, low, high)

pub one_taken : (nets : List Net) (initial old new ordered more : Lists) (i number : ℕ) (list : Option (List Pair)) → IsStrictlyIncreasing (map (λ n. n.number) nets) → i < length nets → number ≡ (net_in nets i).number
    → list ≡ get_or old number None → new ≡ set old number None → more ≡ ordered ++ list ∷ [] → IsTaken nets initial old ordered i → IsTaken nets initial new more (i + 1)
one_taken nets initial old new ordered more i number list rises lt is gave left pushed h =
    let here : list ≡ get_or initial (net_in nets i).number None = gave ∙ h.left number (λ some. subst (λ n. (net_in nets (i - 1)).number < n) (sym is) (ascends_at nets i rises lt some)) ∙ ap (λ n. get_or initial n None) is in
    record {
      taken = pushed ∙ ap (λ ls. ls ++ list ∷ []) h.taken ∙ ap (λ l. map (list_of initial) (take i nets) ++ l ∷ []) here ∙ sym (map_more (list_of initial) nets i no_net lt);
      left = λ k above.
          let back : i + 1 - 1 ≡ i = omega arith in
          let below : (net_in nets i).number < k = subst (λ j. (net_in nets j).number < k) back (above (omega arith)) in
          let apart : k ≢ number = λ e. absurd (omega (arith, e, is, below)) in
          ap (λ ls. get_or ls k None) left ∙ get_or-set_other old number k None None apart ∙ h.left k (λ some. let low = ascends_at nets i rises lt some in omega (arith, low, below));
    }

pub all_taken : (nets : List Net) (initial lists ordered : Lists) (i : ℕ) → length nets ≤ i → IsTaken nets initial lists ordered i → ordered ≡ map (λ net. get_or initial net.number None) nets
all_taken nets initial lists ordered i past h = h.taken ∙ ap (map (list_of initial)) (take_all i nets past)

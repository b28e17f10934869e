-- Parts without a fault are a problem.
use Rattle.std.proofs.Common.{◌≡◌, ℕ, ◌+◌, ◌-◌, ◌<◌, Bool, true, false, not, ◌&&◌, nat_lt, if◌then◌else◌, List, length, map, get_or, Option, Some, None, refl, sym, ◌∙◌, subst, arith, zero-add}
use Rattle.std.specs.List.{list_all}
use Rattle.std.specs.List.Sorted.{IsStrictlyIncreasing}
use Rattle.std.proofs.lemmas.Bool.{and_parts, ltb-true}
use Rattle.std.proofs.lemmas.Bool.Decides.{nat_tests}
use Rattle.std.proofs.lemmas.List.{length-map, get_or-map}
use Rattle.std.proofs.lemmas.List.Elements.{All-get_or, All-from_get_or}
use Rattle.std.proofs.lemmas.List.Sums.{AllPass-from_list_all}
use Rattle.std.proofs.lemmas.List.FromFn.{length-range_with_len, get_or-range_with_len}
use Rattle.routing_problem.specs.declared.parts_fault.PartsFault.{PartsFault}
use Rattle.routing_problem.specs.declared.parts_fault.PartsFault.TheVariants.{TooMany}
use Rattle.std.proofs.lemmas.Option.{none-some}
use Rattle.channel_tables.specs.Fabric.{Fabric, numbers_below}
use Rattle.routing_problem.specs.Problems.{Net, IsNet, IsProblem, no_net, net_in, rises_at, ascends, are_sinks, is_out_of_order, net_fault, parts_fault}
use Rattle.node_numbers.specs.Nodes.{is_source, is_sink}
use Rattle.routing_problem.proofs.FirstFaults.{none_at}

first_test : (a : Bool) (x : PartsFault) (y : Option PartsFault) → None ≡ (if a then Some x else y) → (a ≡ false) × (y ≡ None)
first_test true x y e = absurd (none-some x e)
first_test false x y e = (refl, sym e)

first_want : (a : Bool) (x : PartsFault) (y : Option PartsFault) → None ≡ (if not a then Some x else y) → (a ≡ true) × (y ≡ None)
first_want true x y e = (refl, sym e)
first_want false x y e = absurd (none-some x e)

-- numbers that ascend by the test do
pub ascending : (xs : List ℕ) → ascends xs ≡ true → IsStrictlyIncreasing xs
unfolding ascends
ascending xs e = λ k l.
    let within : k < length xs - 1 = omega arith in
    let each = All-get_or (λ i. rises_at xs i ≡ true) (numbers_below (length xs - 1)) k 0 (omega (arith, length-range_with_len 0 (length xs - 1))) (AllPass-from_list_all (rises_at xs) (numbers_below (length xs - 1)) e) in
    ltb-true _ _ (subst (λ i. rises_at xs i ≡ true) (get_or-range_with_len 0 (length xs - 1) k 0 within ∙ zero-add k) each)

module _ (f : Fabric) (nets : List Net) where
  -- what the tests of a net without a fault answer
  record Passes (i : ℕ) : Type 0 where
    order : is_out_of_order nets i ≡ false
    source : is_source f (net_in nets i).source ≡ true
    sinks : are_sinks f (net_in nets i).sinks ≡ true

  passes : (i : ℕ) → net_fault f nets i ≡ None → Passes i
  unfolding net_fault
  passes i e =
      let order = first_test (is_out_of_order nets i) _ _ (sym e) in
      let source = first_want (is_source f (net_in nets i).source) _ _ (sym order.1) in
      let sinks = first_want (are_sinks f (net_in nets i).sinks) _ _ (sym source.1) in
      record { order = order.0; source = source.0; sinks = sinks.0 }

  right : (i : ℕ) → Passes i → IsNet f (net_in nets i)
  right i p =
      let n = net_in nets i in
      let outer = and_parts (nat_lt 0 (length n.sinks) && list_all (is_sink f) n.sinks) (ascends n.sinks) p.sinks in
      let inner = and_parts (nat_lt 0 (length n.sinks)) (list_all (is_sink f) n.sinks) outer.0 in
      record { source = p.source; some_sinks = ltb-true _ _ inner.0; sinks = AllPass-from_list_all (is_sink f) n.sinks inner.1; ascending = ascending n.sinks outer.1 }

  in_order : (i : ℕ) → Passes (i + 1) → (net_in nets i).number < (net_in nets (i + 1)).number
  in_order i p = let e = p.order in grind (arith, nat_tests, e)

numbers_ascend : (f : Fabric) (nets : List Net) → ((i : ℕ) → i < length nets → Passes f nets i) → IsStrictlyIncreasing (map (λ n. n.number) nets)
numbers_ascend f nets each = λ k l.
    let within : k + 1 < length nets = omega (arith, l, length-map nets (λ (n : Net). n.number)) in
    let low : get_or (map (λ (n : Net). n.number) nets) k 0 ≡ (net_in nets k).number = get_or-map (λ (n : Net). n.number) nets k no_net 0 (omega arith) in
    let high : get_or (map (λ (n : Net). n.number) nets) (k + 1) 0 ≡ (net_in nets (k + 1)).number = get_or-map (λ (n : Net). n.number) nets (k + 1) no_net 0 within in
    let order = in_order f nets k (each (k + 1) within) in
    omega (arith, low, high, order)

pub faultless : (f : Fabric) (nets : List Net) → None ≡ parts_fault f nets → IsProblem (record { device = f; nets = nets })
unfolding parts_fault
faultless f nets e =
    let n = length nets in
    let few = first_test (nat_lt 65535 n) TooMany _ e in
    let each : (i : ℕ) → i < n → Passes f nets i = λ i l. passes f nets i (subst (λ k. net_fault f nets k ≡ None) (zero-add i) (none_at (net_fault f nets) 0 n few.1 i l)) in
    record {
      few = grind (arith, nat_tests, few.0);
      ascending = numbers_ascend f nets (λ i l. each i l);
      nets = All-from_get_or (IsNet f) nets no_net (λ i l. right f nets i (each i l));
    }

-- Where the map marks a place.
use Rattle.std.proofs.Common.{◌≡◌, ℕ, ◌+◌, ◌<◌, ◌≤◌, zero, suc, Bool, true, false, if◌then◌else◌, List, [], ◌∷◌, refl, sym, ap, ap₂, ◌∙◌, arith, add-one}
use Rattle.std.specs.Prelude.{◌&&◌, ◌||◌, nat_lt}
use Rattle.std.specs.List.{list_any, sum_by}
use Rattle.std.proofs.lemmas.Bool.Decides.{nat_tests}
use Rattle.std.proofs.lemmas.List.Folds.{list_any-append}
use Rattle.rr_graph.specs.node.Mode.{Mode}
use Rattle.rr_graph.specs.node.Mode.TheVariants.{Detailed, Global}
use Rattle.rr_graph.specs.node.Kind.TheVariants.{Chanx, Chany}
use Rattle.rr_graph.specs.Fabric.{Fabric, numbers_below}
use Rattle.rr_graph.specs.Nodes.{node_count_of}
use Rattle.rr_graph.specs.Wires.{Place}
use Rattle.rr_graph.proofs.Ranges.{below_next, get_below, sum_next}
use Rattle.route_report.specs.Channels.{occupancy_at, occupied_by, occupies, place_in, runs_at}
use Rattle.route_report.specs.Overused.{is_over}
use Rattle.report_run.specs.Map.{is_over_at, occupied_at, over_flags, overused_channels, right_of}
use Rattle.report_run.proofs.Places.{above_is, right_is}

or_false : (b : Bool) → (b || false) ≡ b
or_false true = refl
or_false false = refl

-- one of the first n + 1 numbers passes a test
pub any_next : (t : ℕ → Bool) (n : ℕ) → list_any t (numbers_below (n + 1)) ≡ (list_any t (numbers_below n) || t n)
any_next t n =
    ap (list_any t) (below_next n) ∙ list_any-append t (numbers_below n) (n ∷ [])
    ∙ ap (λ b. list_any t (numbers_below n) || b) (or_false (t n))

some_sum : (s k : ℕ) → nat_lt 0 (s + k) ≡ (nat_lt 0 s || nat_lt 0 k)
some_sum s k = grind (arith, nat_tests)

-- a sum is above 0 where one of its numbers is
some_of_sum : (g : ℕ → ℕ) (t : ℕ → Bool) (n : ℕ) → ((a : ℕ) → a < n → nat_lt 0 (g a) ≡ t a) → nat_lt 0 (sum_by g (numbers_below n)) ≡ list_any t (numbers_below n)
some_of_sum g t zero each = refl
some_of_sum g t (suc n) each =
    ap (λ k. nat_lt 0 (sum_by g (numbers_below k))) (sym (add-one n)) ∙ ap (nat_lt 0) (sum_next g n)
    ∙ some_sum (sum_by g (numbers_below n)) (g n)
    ∙ ap₂ (λ a b. a || b) (some_of_sum g t n (λ a l. each a (omega (arith, l)))) (each n (omega arith))
    ∙ sym (ap (λ k. list_any t (numbers_below k)) (sym (add-one n)) ∙ any_next t n)

one_place : (r o : Bool) (m : Mode) → nat_lt 0 (if r then occupied_by m (if o then 1 else 0) else 0) ≡ (r && o)
one_place true true Detailed = refl
one_place true true Global = refl
one_place true false Detailed = refl
one_place true false Global = refl
one_place false true m = refl
one_place false false m = refl

module _ (f : Fabric) (uses : List ℕ) where
  place_marked : (q : Place) → nat_lt 0 (occupancy_at f (over_flags f uses) q) ≡ list_any (is_over_at f uses q) (numbers_below (node_count_of f))
  unfolding occupancy_at over_flags
  place_marked q =
      some_of_sum (occupies f (over_flags f uses) q) (is_over_at f uses q) (node_count_of f) (λ a l.
      ap (λ u. nat_lt 0 (if runs_at f q a then occupied_by f.mode u else 0)) (get_below (λ a. if is_over f uses a then 1 else 0) (node_count_of f) a 0 l)
      ∙ one_place (runs_at f q a) (is_over f uses a) f.mode)

  pub above_marked : (row m : ℕ) → row ≤ f.ny → m < f.nx
      → nat_lt 0 (occupied_at (overused_channels f uses) row m) ≡ list_any (is_over_at f uses (place_in Chanx row m)) (numbers_below (node_count_of f))
  above_marked row m within there =
      ap (nat_lt 0) (above_is f (over_flags f uses) row m within there) ∙ place_marked (place_in Chanx row m)

  pub right_marked : (column m : ℕ) → column ≤ f.nx → m < f.ny
      → nat_lt 0 (occupied_at (overused_channels f uses) (right_of f column) m) ≡ list_any (is_over_at f uses (place_in Chany column m)) (numbers_below (node_count_of f))
  right_marked column m within there =
      ap (nat_lt 0) (right_is f (over_flags f uses) column m within there) ∙ place_marked (place_in Chany column m)

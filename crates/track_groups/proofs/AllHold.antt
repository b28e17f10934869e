-- From the tests of each wire and each track to what holds of all.
use Rattle.std.proofs.Common.{◌≡◌, ℕ, ◌<◌, ◌≤◌, true, false, inl, inr, sym, ap, ◌∙◌, arith}
use Rattle.std.specs.Prelude.{nat_le}
use Rattle.std.specs.Option.{option_map, option_map_or}
use Rattle.std.proofs.lemmas.Bool.{cases_lt, false≢true}
use Rattle.std.proofs.lemmas.Bool.Decides.{nat_tests}
use Rattle.std.proofs.lemmas.Option.{slice_get_past}
use Rattle.routing_problem.specs.Fabric.{Fabric}
use Rattle.routing_problem.specs.Nodes.{nodes_of, node_count_of, is_wire, is_wire_at}
use Rattle.track_groups.specs.Groups.{Grouping, HasPlace}

-- ---- wires
no_wire_past : (f : Fabric) (w : ℕ) → node_count_of f ≤ w → is_wire_at f w ≡ false
no_wire_past f w past = ap (λ o. option_map_or is_wire (option_map (λ n. n.kind) o) false) (slice_get_past (nodes_of f) w past)

pub all_listed : (f : Fabric) (t : Grouping) → ((i : ℕ) → i < node_count_of f → is_wire_at f i ≡ nat_le t.first_wire i)
    → ((w : ℕ) → t.first_wire ≤ w → w < node_count_of f → HasPlace t w) → (w : ℕ) → is_wire_at f w ≡ true → HasPlace t w
all_listed f t wires each w wire = elim (cases_lt w (node_count_of f)) [
  | inl below ↦ (
      let test : nat_le t.first_wire w ≡ true = sym (wires w below) ∙ wire in
      let from : t.first_wire ≤ w = grind (arith, nat_tests) in
      each w from below)
  | inr past ↦ absurd (false≢true (sym (no_wire_past f w past) ∙ wire))
]

-- From what is listed of each node of a kind to what is of all.
use Rattle.std.proofs.Common.{◌≡◌, ℕ, ◌+◌, ◌<◌, false, List, [], ◌∷◌, ◌++◌, length, get_or, Some, inl, inr, refl, sym, ap, ◌∙◌, subst, arith}
use Rattle.std.specs.Prelude.{nat_le}
use Rattle.std.specs.Option.{option_map, option_map_or}
use Rattle.std.proofs.lemmas.Bool.{cases_lt}
use Rattle.std.proofs.lemmas.Bool.Decides.{nat_tests}
use Rattle.std.proofs.lemmas.Option.{none-some, slice_get_past}
use Rattle.std.proofs.lemmas.List.{get_or_append_left, get_or_push, get_or_past}
use Rattle.routing_problem.specs.node.Kind.{Kind}
use Rattle.routing_problem.specs.node.Kind.TheVariants.{Opin}
use Rattle.routing_problem.specs.Fabric.{Fabric}
use Rattle.routing_problem.specs.Nodes.{nodes_of, node_count_of, kind_of_node, is_wire, is_wire_at}
use Rattle.track_groups.specs.declared.group.Drive.{Drive}
use Rattle.track_groups.specs.Groups.{Grouping}
use Rattle.track_groups.specs.Drives.{AreDrivenBy, AreDrives, OnlyPinsDrive}
use Rattle.track_groups.specs.kept.Merging.{AreDrivesBefore, OnlyPinsDriveBefore}

rows_next : {X : Type 0} (C : ℕ → Type 0) (P : ℕ → List X → Type 0) (rows : List (List X)) (row : List X) (id : ℕ)
    → ((i : ℕ) → i < id → C i → P i (get_or rows i [])) → length rows ≡ id → (C id → P id row)
    → (i : ℕ) → i < id + 1 → C i → P i (get_or (rows ++ row ∷ []) i [])
rows_next C P rows row id before count here i below is = elim (cases_lt i id) [
  | inl l ↦ (
      let within : i < length rows = omega (arith, l, count) in
      subst (P i) (sym (get_or_append_left rows (row ∷ []) [] i within)) (before i l is))
  | inr past ↦ (
      let e : i ≡ length rows = omega (arith, past, below, count) in
      let same : i ≡ id = omega (arith, e, count) in
      let Q : ℕ → Type 0 = λ o. P o row in
      subst (P i) (sym (get_or_push rows row [] i (sym e))) (subst Q (sym same) (here (subst C same is))))
]

pin_before : (f : Fabric) (kind : Kind) (first : ℕ) → is_wire kind ≡ false → ((i : ℕ) → i < node_count_of f → is_wire_at f i ≡ nat_le first i)
    → (i : ℕ) → kind_of_node f i ≡ Some kind → i < first
pin_before f kind first none wires i is =
    let no_wire : is_wire_at f i ≡ false = ap (λ o. option_map_or is_wire o false) is ∙ none in
    elim (cases_lt i (node_count_of f)) [
      | inl within ↦ (
          let test : nat_le first i ≡ false = sym (wires i within) ∙ no_wire in
          grind (arith, nat_tests))
      | inr past ↦ absurd (none-some kind (sym (ap (λ o. option_map (λ n. n.kind) o) (slice_get_past (nodes_of f) i past)) ∙ is))
    ]

pub drives_next : (f : Fabric) (t : Grouping) (rows : List (List Drive)) (row : List Drive) (id : ℕ) → AreDrivesBefore id f t rows → length rows ≡ id
    → (kind_of_node f id ≡ Some Opin → AreDrivenBy f t id row) → AreDrivesBefore (id + 1) f t (rows ++ row ∷ [])
drives_next f t rows row id before count here = rows_next (λ i. kind_of_node f i ≡ Some Opin) (AreDrivenBy f t) rows row id before count here

pub drives_all : (f : Fabric) (t : Grouping) (rows : List (List Drive)) (first : ℕ) → ((i : ℕ) → i < node_count_of f → is_wire_at f i ≡ nat_le first i)
    → AreDrivesBefore first f t rows → AreDrives f t rows
drives_all f t rows first wires before pin is = before pin (pin_before f Opin first refl wires pin is) is

pub others_next : (f : Fabric) (rows : List (List Drive)) (row : List Drive) (id : ℕ) → OnlyPinsDriveBefore id f rows → length rows ≡ id
    → ((kind_of_node f id ≡ Some Opin → ⊥) → row ≡ []) → OnlyPinsDriveBefore (id + 1) f (rows ++ row ∷ [])
others_next f rows row id before count here = rows_next (λ i. kind_of_node f i ≡ Some Opin → ⊥) (λ i row. row ≡ []) rows row id before count here

-- no row is kept of a wire, nor past the last node
pub others_all : (f : Fabric) (rows : List (List Drive)) (first : ℕ) → length rows ≡ first → OnlyPinsDriveBefore first f rows → OnlyPinsDrive f rows
others_all f rows first count before id other = elim (cases_lt id first) [
  | inl l ↦ before id l other
  | inr past ↦ get_or_past rows id [] (omega (arith, past, count))
]

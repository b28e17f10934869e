-- Groups of one wire each are the groups of a device.
use Rattle.std.proofs.Common.{◌≡◌, ℕ, ◌+◌, ◌-◌, ◌*◌, ◌^◌, ◌<◌, ◌≤◌, true, false, lit≤, List, map, get_or, Option, Some, None, refl, sym, ap, ◌∙◌, subst, arith}
use Rattle.std.specs.Prelude.{All, nat_le, is_some, unwrap_or, if◌then◌else◌}
use Rattle.std.specs.Option.{option_map, option_map_or}
use Rattle.std.proofs.lemmas.Bool.{false≢true}
use Rattle.std.proofs.lemmas.Bool.Decides.{nat_tests}
use Rattle.routing_problem.specs.node.Kind.{Kind}
use Rattle.routing_problem.specs.node.Node.{Node}
use Rattle.routing_problem.specs.node.Span.{Span}
use Rattle.routing_problem.specs.Fabric.{Fabric, numbers_below}
use Rattle.routing_problem.specs.Wires.{reach_of}
use Rattle.routing_problem.specs.Nodes.{node_count_of, node_at, is_wire, is_wire_at, span_of, wire_in}
use Rattle.routing_problem.proofs.Ranges.{length_below, get_below}
use Rattle.track_groups.specs.declared.group.Group.{Group}
use Rattle.track_groups.specs.declared.group.GroupTrack.{GroupTrack}
use Rattle.track_groups.specs.Groups.{no_group, group_at, on_track, IsOn, node_on, wire_on, place_of, wire_told, IsTrack, HasPlace, IsGrouped}
use Rattle.track_groups.specs.kept.Fields.{IsSmall}
use Rattle.track_groups.specs.kept.Lone.{no_wire, lone_by, lone_wire, lone_at, first_track, lone_grouping, AreLone}
use Rattle.track_groups.proofs.OnTracks.{on_within}
use Rattle.track_groups.proofs.AllHold.{all_listed}

pub lone_small : (f : Fabric) (first n : ℕ) → first + n < 2 ^ 23 → All IsSmall (map (lone_at f first) (numbers_below n))
lone_small f first n few k d l =
    let within : k < n = omega (arith, l, length_below (lone_at f first) n) in
    subst IsSmall (sym (get_below (lone_at f first) n k d within)) (record { tracks = lit≤ tt; base = omega arith; stride = lit≤ tt })

-- ---- what is told of a wire
told_some : (w : ℕ) (o : Option (Kind × Span × ℕ)) → is_some o ≡ true → o ≡ wire_told (lone_by w (unwrap_or o no_wire))
told_some w None e = absurd (false≢true e)
told_some w (Some x) e = refl

some_told : (f : Fabric) (o : Option Node) → option_map_or is_wire (option_map (λ n. n.kind) o) false ≡ true → is_some (wire_in f o) ≡ true
unfolding wire_in
some_told f None e = absurd (false≢true e)
some_told f (Some a) e = ap (λ b. is_some {T = Kind × Span × ℕ} (if b then Some (a.kind, span_of f a, reach_of f a.number) else None)) e

lone_told : (f : Fabric) (w : ℕ) → is_wire_at f w ≡ true → wire_in f (node_at f w) ≡ wire_told (lone_wire f w)
lone_told f w e = told_some w (wire_in f (node_at f w)) (some_told f (node_at f w) e)

module _ (f : Fabric) (first n : ℕ) (wires : (i : ℕ) → i < node_count_of f → is_wire_at f i ≡ nat_le first i) (count : n + first ≡ node_count_of f) where
  abbrev groups : List Group
  groups = map (lone_at f first) (numbers_below n)

  wires_is : (g : ℕ) → g < n → group_at groups g ≡ lone_wire f (first + g)
  unfolding group_at
  wires_is g l = get_below (lone_at f first) n g no_group l

  wire_is : (g : ℕ) → g < n → wire_on groups (first_track g) ≡ first + g
  wire_is g l = (let e : first + g + 0 * 1 ≡ first + g = omega arith in ap (λ (w : Group). node_on w 0) (wires_is g l) ∙ e)

  on_is : (g : ℕ) → g < n → IsOn groups (first_track g)
  on_is g l = (let P = λ (w : Group). 0 < w.tracks in let one : 0 < 1 = omega arith in subst P (sym (wires_is g l)) one)

  place_is : (g : ℕ) → g < n → place_of (lone_grouping f first n) (first + g) ≡ first_track g
  unfolding place_of
  place_is g l =
      let e : first + g - first ≡ g = omega arith in
      ap (λ i. get_or (map first_track (numbers_below n)) i (on_track 0 0)) e ∙ get_below first_track n g (on_track 0 0) l

  -- ---- wires
  has : (g : ℕ) → g < n → HasPlace (lone_grouping f first n) (first + g)
  has g l = record {
    from = omega arith;
    below = omega (arith, length_below first_track n);
    on = subst (IsOn groups) (sym (place_is g l)) (on_is g l);
    is = ap (wire_on groups) (place_is g l) ∙ wire_is g l;
  }

  each_has : (w : ℕ) → first ≤ w → w < node_count_of f → HasPlace (lone_grouping f first n) w
  each_has w from below =
      let e : first + (w - first) ≡ w = omega arith in
      let P : ℕ → Type 0 = λ v. HasPlace (lone_grouping f first n) v in
      subst P e (has (w - first) (omega arith))

  -- ---- tracks
  is_wire_here : (g : ℕ) → g < n → is_wire_at f (first + g) ≡ true
  is_wire_here g l = (let test : nat_le first (first + g) ≡ true = grind (arith, nat_tests) in wires (first + g) (omega arith) ∙ test)

  track_is : (g : ℕ) → g < n → IsTrack f (lone_grouping f first n) (first_track g)
  track_is g l = record {
    place = ap (place_of (lone_grouping f first n)) (wire_is g l) ∙ place_is g l;
    wire = ap (λ w. wire_in f (node_at f w)) (wire_is g l) ∙ lone_told f (first + g) (is_wire_here g l) ∙ sym (ap wire_told (wires_is g l));
  }

  group_within : (p : GroupTrack) → IsOn groups p → p.group < n
  group_within p on = omega (arith, on_within groups p on, length_below (lone_at f first) n)

  pub lone_single : AreLone (lone_grouping f first n)
  lone_single p on = (let one : (group_at groups p.group).tracks ≡ 1 = ap (λ (w : Group). w.tracks) (wires_is p.group (group_within p on)) in omega arith)

  each_track : (p : GroupTrack) → IsOn groups p → IsTrack f (lone_grouping f first n) p
  each_track p on =
      let P : ℕ → Type 0 = λ j. IsTrack f (lone_grouping f first n) (on_track p.group j) in
      subst P (sym (lone_single p on)) (track_is p.group (group_within p on))

  pub lone_grouped : IsGrouped f (lone_grouping f first n)
  lone_grouped = record { wires = all_listed f (lone_grouping f first n) wires each_has; tracks = each_track }

-- The wires that an output pin taps, track by track.
use Rattle.std.proofs.Common.{◌≡◌, ℕ, ◌+◌, ◌-◌, ◌≤◌, zero, suc, Bool, true, false, cond, List, [], ◌∷◌, ◌++◌, length, refl, sym, ap, ◌∙◌, arith, inl, inr}
use Rattle.std.specs.Prelude.{◌==◌, ◌&&◌, nat_le}
use Rattle.std.specs.List.{range_with_len, filter, flat_map}
use Rattle.std.proofs.lemmas.Bool.{cases_eq, eq-eqb, ne_eqb}
use Rattle.std.proofs.lemmas.List.Concat.{flat_map-append}
use Rattle.std.proofs.lemmas.Bool.Decides.{nat_tests}
use Rattle.arch_file.specs.declared.entries.Sides.{Sides}
use Rattle.channel_tables.specs.declared.axis.Axis.TheVariants.{Row, Column}
use Rattle.channel_tables.specs.declared.node.Kind.TheVariants.{Chanx, Chany}
use Rattle.channel_tables.specs.Fabric.{Fabric, numbers_below, is_between}
use Rattle.channel_tables.specs.Wires.{tracks_in, begins, last_of}
use Rattle.channel_tables.specs.Pins.{when}
use Rattle.channel_tables.specs.Picks.{picks}
use Rattle.channel_tables.specs.Channels.{first_of, tracks_from, tracks_through}
use Rattle.node_numbers.specs.kept.WireIds.{wire_id}
use Rattle.rr_edges.specs.kept.PinSuccessors.{taps_track, tapped_chanx, tapped_chany, tapped_rows, tapped_column}
use Rattle.rr_edges.specs.kept.Terminals.{tapped_wire, all_tracks, rows_piece, rows_of_tracks}
use Rattle.channel_tables.proofs.Ranges.{filter_next}
use Rattle.channel_tables.proofs.TrackOrder.{through_all}
use Rattle.channel_tables.proofs.Windows.{flat_map_next, flat_map_same, flat_map_agree, flat_map_empty}
use Rattle.channel_tables.proofs.Picks.{picks-append, picks_one}
use Rattle.channel_tables.proofs.TrackWires.{is_first_of}

picks_by_number :
    (p q : ℕ → Bool) (s m : ℕ)
    → picks p s (filter q (numbers_below m)) ≡ flat_map (λ t. when (q t && p t) (s + length (filter q (numbers_below t)))) (numbers_below m)
picks_by_number p q s zero = refl
picks_by_number p q s (suc m) =
    let e : suc m ≡ m + 1 = omega arith in
    let piece : ℕ → List ℕ = λ t. when (q t && p t) (s + length (filter q (numbers_below t))) in
    ap (λ n. picks p s (filter q (numbers_below n))) e ∙ ap (picks p s) (filter_next q m)
    ∙ picks-append p s (filter q (numbers_below m)) (cond (q m) (m ∷ []) [])
    ∙ ap (λ ns. ns ++ picks p (s + length (filter q (numbers_below m))) (cond (q m) (m ∷ []) [])) (picks_by_number p q s m)
    ∙ ap (λ ns. flat_map piece (numbers_below m) ++ ns) (picks_one p (q m) (s + length (filter q (numbers_below m))) m)
    ∙ sym (flat_map_next piece m) ∙ ap (λ n. flat_map piece (numbers_below n)) (sym e)

runs_on : (w b i l t u : Bool) → w ≡ true → i ≡ true → u ≡ ((w && b) && (i && l)) → (b && (l && t)) ≡ (u && t)
runs_on w b i l t u h k e = grind arith

-- a wire by the place where it begins, or by the place where the one of its track through another
-- place does
moved : (g : ℕ → ℕ) (q a : ℕ) (t : Bool) → when (q == a && t) (g q) ≡ cond (a == q) (when t (g a)) []
moved g q a t = elim (cases_eq q a) [
  | inl same ↦ rw (eq-eqb q a same, eq-eqb a q (sym same)) (ap (λ k. when t (g k)) same)
  | inr differ ↦ rw (ne_eqb q a differ, ne_eqb a q (λ e. differ (sym e))) refl
]

joined_kept : {X : Type 0} (g : ℕ → List X) (p : ℕ → Bool) (ns : List ℕ) → flat_map (λ n. cond (p n) (g n) []) ns ≡ flat_map g (filter p ns)
joined_kept g p [] = refl
joined_kept g p (n ∷ ns) = by_test (p n) (joined_kept g p ns)
  where
    by_test : (b : Bool) → flat_map (λ n. cond (p n) (g n) []) ns ≡ flat_map g (filter p ns)
        → cond b (g n) [] ++ flat_map (λ n. cond (p n) (g n) []) ns ≡ flat_map g (cond b (n ∷ filter p ns) (filter p ns))
    by_test true rest = ap (λ xs. g n ++ xs) rest
    by_test false rest = rest

pub joined_twice : {X : Type 0} (g : ℕ → List X) (h : ℕ → List ℕ) (ns : List ℕ) → flat_map (λ n. flat_map g (h n)) ns ≡ flat_map g (flat_map h ns)
joined_twice g h [] = refl
joined_twice g h (n ∷ ns) = ap (λ xs. flat_map g (h n) ++ xs) (joined_twice g h ns) ∙ sym (flat_map-append g (h n) (flat_map h ns))

module _ (f : Fabric) (fc pin column row first : ℕ) (from : 1 ≤ first) where
  pub above_by_track : first ≤ column → column ≤ f.nx → tapped_chanx f fc pin column row first ≡ flat_map (tapped_wire Row f fc pin column row) (tracks_from f f.nx column first)
  unfolding tapped_chanx wire_id
  above_by_track upto inside =
      picks_by_number (λ t. nat_le column (last_of f f.nx t first) && taps_track f fc pin t) (λ t. begins f f.nx t first) _ (tracks_in f.mode f.width)
      ∙ flat_map_same _ (λ t. cond (first_of f f.nx t column == first) (tapped_wire Row f fc pin column row t) []) (λ t.
      ap (λ b. when b (wire_id f Chanx first row t))
      (runs_on (is_between 1 f.nx first) (begins f f.nx t first) (nat_le first column) (nat_le column (last_of f f.nx t first)) (taps_track f fc pin t)
      (first == first_of f f.nx t column) (grind (arith, nat_tests)) (grind (arith, nat_tests)) (is_first_of f f.nx t column first (omega arith) inside))
      ∙ moved (λ q. wire_id f Chanx q row t) first (first_of f f.nx t column) (taps_track f fc pin t))
      (all_tracks f)
      ∙ joined_kept (tapped_wire Row f fc pin column row) (λ t. first_of f f.nx t column == first) (all_tracks f)

  pub right_by_track : first ≤ row → row ≤ f.ny → tapped_chany f fc pin column row first ≡ flat_map (tapped_wire Column f fc pin row column) (tracks_from f f.ny row first)
  unfolding tapped_chany wire_id
  right_by_track upto inside =
      picks_by_number (λ t. nat_le row (last_of f f.ny t first) && taps_track f fc pin t) (λ t. begins f f.ny t first) _ (tracks_in f.mode f.width)
      ∙ flat_map_same _ (λ t. cond (first_of f f.ny t row == first) (tapped_wire Column f fc pin row column t) []) (λ t.
      ap (λ b. when b (wire_id f Chany column first t))
      (runs_on (is_between 1 f.ny first) (begins f f.ny t first) (nat_le first row) (nat_le row (last_of f f.ny t first)) (taps_track f fc pin t)
      (first == first_of f f.ny t row) (grind (arith, nat_tests)) (grind (arith, nat_tests)) (is_first_of f f.ny t row first (omega arith) inside))
      ∙ moved (λ q. wire_id f Chany column q t) first (first_of f f.ny t row) (taps_track f fc pin t))
      (all_tracks f)
      ∙ joined_kept (tapped_wire Column f fc pin row column) (λ t. first_of f f.ny t row == first) (all_tracks f)

-- all the wires right of a column, in the order of where they begin
pub column_by_track : (f : Fabric) (fc pin column row : ℕ) → row ≤ f.ny → tapped_column f fc pin column row ≡ flat_map (tapped_wire Column f fc pin row column) (tracks_through f f.ny row)
unfolding tapped_column
column_by_track f fc pin column row inside =
    flat_map_agree _ (λ first. flat_map (tapped_wire Column f fc pin row column) (tracks_from f f.ny row first)) 1 row (λ first l m.
    right_by_track f fc pin column row first l (omega arith) inside)
    ∙ joined_twice (tapped_wire Column f fc pin row column) (tracks_from f f.ny row) (range_with_len 1 row)
    ∙ ap (flat_map (tapped_wire Column f fc pin row column)) (sym (through_all f f.ny row))

-- those above two rows, by the place where they begin
pub piece_by_track : (f : Fabric) (fc pin column row : ℕ) (s : Sides) (first : ℕ) (tracks : List ℕ) → 1 ≤ first → first ≤ column → column ≤ f.nx
    → tracks ≡ tracks_from f f.nx column first → rows_piece f fc pin column row s first ≡ rows_of_tracks f fc pin column row s tracks
piece_by_track f fc pin column row s first tracks from upto inside are =
    rw (above_by_track f fc pin column (row - 1) first from upto inside, above_by_track f fc pin column row first from upto inside) (
    ap (rows_of_tracks f fc pin column row s) (sym are))

-- on no side
pub rows_none : (f : Fabric) (fc pin x y : ℕ) → tapped_rows f fc pin x y false false ≡ []
unfolding tapped_rows
rows_none f fc pin x y = flat_map_empty (λ first. []) 1 x (λ k _ _. refl)

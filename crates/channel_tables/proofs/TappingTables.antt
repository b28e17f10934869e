-- The tables of tapping pins: how they grow, and what they give for a track.
use Rattle.std.proofs.Common.{◌≡◌, ℕ, ◌+◌, ◌-◌, ◌<◌, ◌≤◌, List, [], ◌∷◌, ◌++◌, length, map, take, drop, sym, ap, ◌∙◌, arith, zero-add, Bool}
use Rattle.std.specs.Prelude.{slice_index, ◌==◌}
use Rattle.std.specs.List.{range_with_len, flat_map, list_any}
use Rattle.std.proofs.Math.Seq.{drop-append_seam, take-append_seam}
use Rattle.std.proofs.lemmas.List.{append-nil, length-append}
use Rattle.std.proofs.lemmas.List.FromFn.{get_or-map-range_with_len, length-map-range_with_len, length-range_with_len}
use Rattle.channel_tables.specs.declared.sides.Tapping.{Tapping}
use Rattle.channel_tables.specs.kept.TappingTables.{IsTapping, HoldsTrack, places_of_track}
use Rattle.channel_tables.proofs.Ranges.{mapped_more}
use Rattle.channel_tables.proofs.Windows.{flat_map_next, flat_map_split}
use Rattle.std.proofs.lemmas.List.Sums.{length-filter, count_by-le-length}
use Rattle.arch_file.specs.declared.entries.Direction.TheVariants.{Input}
use Rattle.arch_file.specs.declared.entries.Sides.{Sides}
use Rattle.channel_tables.specs.Fabric.{Fabric, IsFabric, numbers_below}
use Rattle.channel_tables.specs.Pins.{pins_of, tapped_tracks}
use Rattle.channel_tables.specs.Picks.{picks}
use Rattle.channel_tables.specs.Sides.{taps_on, tapping_pins, tapping_pads}
use Rattle.channel_tables.proofs.Picks.{length-picks}
use Rattle.channel_tables.proofs.Rising.{length-rises, pins-rise}

-- where the places of a track start
abbrev start_of : (ℕ → List ℕ) → ℕ → ℕ
start_of g k = length (flat_map g (range_with_len 0 k))

-- a table that has come as far as a track
module _
    (g : ℕ → List ℕ) (k : ℕ) {starts places : List ℕ}
    (begun : starts ≡ map (start_of g) (range_with_len 0 k)) (filled : places ≡ flat_map g (range_with_len 0 k)) where
  pub starts_more : {n : ℕ} {next : List ℕ} → n ≡ length places → next ≡ starts ++ n ∷ [] → next ≡ map (start_of g) (range_with_len 0 (k + 1))
  starts_more {n} e h =
      h ∙ ap (λ xs. xs ++ n ∷ []) begun
      ∙ ap (λ m. map (start_of g) (range_with_len 0 k) ++ m ∷ []) (e ∙ ap length filled) ∙ mapped_more (start_of g) [] k

  pub places_more : {next : List ℕ} → next ≡ places ++ g k → next ≡ flat_map g (range_with_len 0 (k + 1))
  places_more h = h ∙ ap (λ xs. xs ++ g k) filled ∙ sym (flat_map_next g k)

module _ (g : ℕ → List ℕ) where
  start_next : (k : ℕ) → start_of g (k + 1) ≡ start_of g k + length (g k)
  start_next k = ap length (flat_map_next g k) ∙ length-append (flat_map g (range_with_len 0 k)) (g k)

  start_within : (k n : ℕ) → k ≤ n → start_of g k ≤ start_of g n
  start_within k n l =
      let rest = flat_map g (range_with_len (k + 0) (n - (k + 0))) in
      omega (arith, ap length (flat_map_split g k 0 n (omega arith)), length-append (flat_map g (range_with_len 0 k)) rest)

module _ {g : ℕ → List ℕ} {tracks : ℕ} {t : Tapping} (made : IsTapping g tracks t) where
  start_at : (k : ℕ) → k ≤ tracks → slice_index t.starts.items k ≡ start_of g k
  start_at k l =
      ap (λ xs. slice_index xs k) made.starts ∙ get_or-map-range_with_len (start_of g) 0 (tracks + 1) k k 0 (omega arith) (zero-add k)

  pub holds_track : (track : ℕ) → track < tracks → HoldsTrack t track
  holds_track track l =
      let here = start_at track (omega arith) in
      let next = start_at (track + 1) (omega arith) in
      record {
        listed = omega (arith, ap length made.starts, length-map-range_with_len (start_of g) 0 (tracks + 1));
        ordered = omega (arith, here, next, start_next g track);
        within = omega (arith, next, ap length made.places, start_within g (track + 1) tracks (omega arith));
      }

  pub places_of_track_are : (track : ℕ) → track < tracks → places_of_track t track ≡ g track
  unfolding places_of_track
  places_of_track_are track l =
      let front = flat_map g (range_with_len 0 track) in
      let rest = flat_map g (range_with_len (track + 1) (tracks - (track + 1))) in
      let here = start_at track (omega arith) in
      let next = start_at (track + 1) (omega arith) in
      let count : slice_index t.starts.items (track + 1) - slice_index t.starts.items track ≡ length (g track ++ []) =
      omega (arith, here, next, start_next g track, ap length (append-nil (g track))) in
      ap (λ n. take n (drop (slice_index t.starts.items track) t.places.items)) count
      ∙ ap (λ n. take (length (g track ++ [])) (drop n t.places.items)) here
      ∙ ap (λ xs. take (length (g track ++ [])) (drop (length front) xs)) (made.places ∙ flat_map_split g track 1 tracks (omega arith))
      ∙ ap (take (length (g track ++ []))) (drop-append_seam front ((g track ++ []) ++ rest))
      ∙ take-append_seam (g track ++ []) rest ∙ append-nil (g track)

-- ---- how many of them there are
few_picked : {X : Type 0} (p : X → Bool) (xs : List X) → length (picks p 0 xs) ≤ length xs
few_picked p xs = omega (arith, length-picks p 0 xs, length-filter p xs, count_by-le-length p xs)

pub few_pins : (f : Fabric) → IsFabric f → (side : Sides → Bool) (t : ℕ) → length (tapping_pins f side t) ≤ 64
unfolding tapping_pins
few_pins f within side t =
    omega (arith, few_picked (taps_on f side t) (pins_of f.architecture Input), length-rises 0 64 (pins_of f.architecture Input) (pins-rise f.architecture Input within.limits))

pub few_pads : (f : Fabric) → IsFabric f → (t : ℕ) → length (tapping_pads f t) ≤ 64
unfolding tapping_pads
few_pads f within t =
    omega (
      arith,
      few_picked (λ p. list_any (λ s. s == t) (tapped_tracks f f.architecture.fc_pad p)) (numbers_below f.architecture.io_rat),
      length-range_with_len 0 f.architecture.io_rat,
      within.limits.few_pads,
    )

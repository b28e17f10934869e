-- Which channel widths are tried, one after another (ours). A search from a start on doubles them
-- until one is routed; from then on it halves the gap between the greatest that was not and the
-- least that was. A search upward tries each one from a first on until one is routed.
use Rattle.std.specs.Prelude.{◌≡◌, ℕ, ◌+◌, ◌-◌, ◌*◌, ◌/◌, ◌<◌, min, max, nat_lt, false, if◌then◌else◌, List, length, take, slice_get, Option, None, Some, unwrap_or}
use Rattle.std.specs.List.{fold}
use Rattle.rr_graph.specs.Fabric.{most_tracks}
use Rattle.width_search.specs.declared.trial.Trial.{Trial}

-- the least routed width with one trial more
abbrev pub with_routed : Option ℕ → Trial → Option ℕ
with_routed least t = if t.routed then Some (min (unwrap_or least t.width) t.width) else least

-- the least width that was routed, if one was
unfoldable pub least_routed : List Trial → Option ℕ
least_routed = fold with_routed None

-- the greatest width that was not routed with one trial more
abbrev pub with_unrouted : ℕ → Trial → ℕ
with_unrouted greatest t = if t.routed then greatest else max greatest t.width

-- the greatest width that was not routed; 0 if there is none
unfoldable pub greatest_unrouted : List Trial → ℕ
greatest_unrouted = fold with_unrouted 0

-- twice the last width, or the greatest there is if that is less; after that one there is none
abbrev pub doubled : (last : ℕ) → Option ℕ
doubled last = if nat_lt last most_tracks then Some (min (2 * last) most_tracks) else None

-- half way between the greatest width that was not routed and the least that was, if a width lies
-- between them
abbrev pub halved : (unrouted routed : ℕ) → Option ℕ
halved unrouted routed = if nat_lt 1 (routed - unrouted) then Some ((unrouted + routed) / 2) else None

-- after some trials, by the last of them, the least width that was routed, and the greatest that
-- was not
abbrev pub width_after : (start : ℕ) → (last : Option Trial) → (routed : Option ℕ) → (unrouted : ℕ) → Option ℕ
width_after start None routed unrouted = Some start
width_after start (Some last) None unrouted = doubled last.width
width_after start (Some last) (Some routed) unrouted = halved unrouted routed

-- the width that is tried after these trials, if another one is
abbrev pub next_width : (start : ℕ) → List Trial → Option ℕ
next_width start trials = width_after start (slice_get trials (length trials - 1)) (least_routed trials) (greatest_unrouted trials)

-- ---- a search upward

-- a first width, or none if it is past the greatest there is
abbrev pub first_upward : (first : ℕ) → Option ℕ
first_upward first = if nat_lt most_tracks first then None else Some first

-- one more than the last width; after the greatest there is, there is none
abbrev pub one_more : (last : ℕ) → Option ℕ
one_more last = if nat_lt last most_tracks then Some (last + 1) else None

-- by the last trial: after one that was routed there is none
abbrev pub upward_after : (first : ℕ) → (last : Option Trial) → Option ℕ
upward_after first None = first_upward first
upward_after first (Some last) = if last.routed then None else one_more last.width

-- the width that is tried after these trials of a search upward, if another one is
abbrev pub next_upward : (first : ℕ) → List Trial → Option ℕ
next_upward first trials = upward_after first (slice_get trials (length trials - 1))

-- ---- the trials of a search, by the width that is next after some trials

-- each trial is of the width that is next after the trials before it
abbrev pub IsSequence : (next : List Trial → Option ℕ) → List Trial → Type 0
IsSequence next trials = (i : ℕ) (t : Trial) → slice_get trials i ≡ Some t → next (take i trials) ≡ Some t.width

-- The trials of a search upward, one by one: trial i, counted from 0, is of the width first + i,
-- and each trial but the last was not routed.
abbrev pub GoesUpward : (first : ℕ) → List Trial → Type 0
GoesUpward first trials =
    (i : ℕ) (t : Trial) → slice_get trials i ≡ Some t
    → (t.width ≡ first + i) × (i + 1 < length trials → t.routed ≡ false)

-- What the fields of a wave mean.
use Rattle.std.specs.Prelude.{ℕ, ◌+◌, ◌<◌, ◌≤◌, All, cond, min}
use Rattle.group_wave.specs.declared.wave.Wave.TheInside.{Inside}
use Rattle.group_wave.specs.kept.Labels.{widened}
use Rattle.wave_queue.specs.kept.Queues.{Waiting}
use Rattle.group_wave.specs.kept.WaveState.{FAR, Wave}

abbrev pub wave_of : {K : Type 0} → (value : K → ℕ) → (greatest : ℕ) → Inside K → Wave
wave_of value greatest w = record {
  labels = w.labels;
  queue = w.queue;
  limit = cond w.left_out (min greatest (value w.ceiling + 1)) FAR;
  best = widened greatest (value w.best);
  boxes = w.nearest.boxes;
  known = w.nearest.known;
}

-- an entry's label is below the greatest, and its key up to it
pub record IsFitting (greatest : ℕ) (e : Waiting) : Type 0 where
  pub label : e.label < greatest
  pub key : e.key ≤ greatest

-- costs are kept up to the greatest; if that is above all costs, so is the ceiling
pub record IsWaveInside {K : Type 0} (value : K → ℕ) (greatest : ℕ) (w : Inside K) : Type 0 where
  pub best : value w.best ≤ greatest
  pub ceiling : FAR ≤ greatest → greatest ≤ value w.ceiling
  pub entries : All (IsFitting greatest) w.queue

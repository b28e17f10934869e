-- The sink that is taken when a wave has spread.
use Rattle.std.proofs.Common.{◌<◌, ◌≤◌, ℕ, Option, Some, None}
use Rattle.std.specs.Prelude.{IfNone, IfSome}
use Rattle.wave_ground.specs.kept.Grounds.{Ground}
use Rattle.group_wave.specs.kept.WaveState.{FAR, Wave}
use Rattle.group_wave.specs.kept.Wave.{IsBest}
use Rattle.group_wave.specs.kept.Steps.{IsAbove, IsLeastKey, IsNearest, IsTaken, Settles}
use Rattle.group_wave.proofs.Popped.{none_taken, taken}

module _ (g : Ground) (s w : Wave) (spread : Settles g s w) (best : IsBest g s) (above : IsAbove w) where
  pub some_taken : (o : Option ℕ) → IfSome o (IsNearest g w) → IfSome o (λ sink. (w.best < FAR) × (w.best ≤ w.limit)) → IfSome o (IsTaken g w)
  some_taken None nearest reached = tt
  some_taken (Some sink) nearest reached = taken g w sink spread.wave spread.complete (spread.best best) above nearest.«open» nearest.at reached.0 reached.1

  pub none_left : (o : Option ℕ) → IfNone o (w.limit ≤ w.best) → IfNone o (IsLeastKey g w w.limit)
  none_left (Some sink) out = tt
  none_left None out = none_taken g w spread.wave spread.complete (spread.best best) above out

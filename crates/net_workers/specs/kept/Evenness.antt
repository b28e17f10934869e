-- What the lock of an iteration protects.
use Rattle.std.specs.Prelude.{◌≡◌, ℕ, ◌<◌, length, All}
use Rattle.congestion_book.specs.Contents.{Content}
use Rattle.net_workers.specs.WorkerParts.{IsOfIteration}

-- Each turn of the open iteration is one of these workers', the total is the number of these turns,
-- and the book is one of the iteration that opens with the book that was handed in.
pub record IsEven (c : Content) (total workers : ℕ) (opening : Content) : Type 0 where
  pub counted : total ≡ length c.turns
  pub known : All (λ t. t.worker < workers) c.turns
  pub within : IsOfIteration opening c

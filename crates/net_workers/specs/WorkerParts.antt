-- A worker's part of an iteration, and which books are of one iteration.
use Rattle.std.specs.Prelude.{◌≡◌, ℕ, ◌+◌, ◌<◌, List, [], length, get_or}
use Rattle.arch_file.specs.Reading.{architecture_from}
use Rattle.routing_problem.specs.node.Mode.TheVariants.{Detailed}
use Rattle.routing_problem.specs.Fabric.{fabric_with}
use Rattle.congestion_book.specs.Turns.{turns_at}
use Rattle.route_tree.specs.Usage.{list_in}
use Rattle.congestion_book.specs.Contents.{Content, opening}

-- a worker's number, and how many turns it made
pub record Part : Type 0 where
  pub worker : ℕ
  pub turns : ℕ

-- the part of a worker that made no turn
abbrev pub no_turns : ℕ → Part
no_turns worker = record { worker = worker; turns = 0 }

-- the part with one turn more
abbrev pub one_more : Part → Part
one_more p = record p { turns = p.turns + 1 }

-- one part for each worker, which made no turn
pub record AreParts (parts : List Part) (workers : ℕ) : Type 0 where
  pub count : length parts ≡ workers
  pub each : (w : ℕ) (d : Part) → w < workers → get_or parts w d ≡ no_turns w

-- an empty book, for a brand to which no call gave one
abbrev pub no_book : Content
no_book = opening (record { device = fabric_with 0 0 0 Detailed (architecture_from []); nets = [] }) 0

-- A book of the iteration that opens with this one: all but the open iteration is the same, and a
-- net that had no turn in it yet has the list that it had before.
pub record IsOfIteration (opening c : Content) : Type 0 where
  pub problem : c.problem ≡ opening.problem
  pub acc : c.acc ≡ opening.acc
  pub rows : c.rows ≡ opening.rows
  pub histories : c.histories ≡ opening.histories
  pub earlier : c.earlier ≡ opening.earlier
  pub unturned : (i : ℕ) → turns_at c.turns i ≡ 0 → list_in c.lists i ≡ list_in opening.lists i

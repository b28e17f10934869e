-- How connections are filed by net.
use Rattle.std.specs.Prelude.{◌≡◌, ℕ, ◌<◌, nat_lt, if◌then◌else◌, List, [], ◌∷◌, ◌++◌, length, slice_set, slice_index_or}
use Rattle.net_file.specs.declared.connection.Connection.{Connection}
use Rattle.net_file.specs.Connections.{on_net}

-- each row has the connections of its net
abbrev pub IsFiled : List Connection → List (List Connection) → Type 0
IsFiled connections rows = (n : ℕ) → n < length rows → slice_index_or rows n [] ≡ on_net connections n

-- the connection was added to the row of its net, if there is one
abbrev pub Files : List (List Connection) → List (List Connection) → Connection → Type 0
Files old new c = new ≡ (if nat_lt c.net (length old) then slice_set old c.net (slice_index_or old c.net [] ++ c ∷ []) else old)

-- the connections were added, each to the row of its net
pub record FilesAll (old new : List (List Connection)) (added : List Connection) : Type 0 where
  pub count : length new ≡ length old
  pub filed : (before : List Connection) → IsFiled before old → IsFiled (before ++ added) new

-- How the table of turns changes.
use Rattle.std.specs.Prelude.{◌≡◌, ℕ, ◌+◌, ◌<◌, Bool, [], ◌∷◌, ◌++◌, length, set, replicate, Option, Some, None}
use Rattle.congestion_book.specs.Turns.{TurnTable, turn_of}

abbrev pub first_table : (nets : ℕ) → TurnTable
first_table nets = record { drawn = 0; holders = replicate nets None; turns = []; earlier = [] }

abbrev pub table_drawn : TurnTable → (worker : ℕ) → TurnTable
table_drawn t worker = record t { drawn = t.drawn + 1; holders = set t.holders t.drawn (Some worker) }

abbrev pub table_turned : TurnTable → (worker net : ℕ) → (passed : Bool) → TurnTable
table_turned t worker net passed =
    record t { holders = set t.holders net None; turns = t.turns ++ turn_of worker net passed ∷ [] }

abbrev pub table_closed : TurnTable → TurnTable
table_closed t =
    record {
      drawn = 0;
      holders = replicate (length t.holders) None;
      turns = [];
      earlier = t.earlier ++ t.turns ∷ [];
    }

-- The worker gets the least net that was not drawn, or none if all were.
abbrev pub GivesNet : TurnTable → (worker : ℕ) → Option ℕ → TurnTable → Type 0
GivesNet old worker None new = (old.drawn ≡ length old.holders) × (new ≡ old)
GivesNet old worker (Some i) new = (i ≡ old.drawn) × (i < length old.holders) × (new ≡ table_drawn old worker)

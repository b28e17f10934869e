-- The rule of the history, and what its step gives.
use Rattle.std.specs.Prelude.{ℕ, ◌≡◌, ◌==◌, true, List, [], ◌∷◌, ◌++◌, length, MatchBool}
use Rattle.logbook.specs.Pages.{Cell, Step, View, Book, Named}
use Rattle.net_workers.specs.declared.made_turn.MadeTurn.{MadeTurn}

-- the first word is the length of the history; a logbook has two words, and this one leaves the
-- second at 0
abbrev pub IsKept : List Cell → List MadeTurn → Type 0
IsKept cells log = cells ≡ (length log, true) ∷ (0, true) ∷ []

abbrev pub head_of : Book → Named
head_of b = record { tracked = true; key = 0; book = b }

abbrev pub no_history : Book
no_history = record { number = 0; log_name = 0; cells_name = 0 }

-- the turn was added to all that had been seen; or the history was longer
abbrev pub Adds : Step MadeTurn → View MadeTurn ℕ → ℕ → View MadeTurn ℕ → Type 0
Adds s v found w = MatchBool (found == s.old) (w.0 ≡ v.0 ++ s.ask ∷ []) (Unit {0})

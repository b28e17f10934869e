use Rattle.std.proofs.Common.{rules, ◌<◌, length, None, refl, sym, subst}
use Rattle.congestion_book.specs.Turns.{TurnTable, IsFirstWaiting}
use Rattle.congestion_book.proofs.Turning.{opened}
use Rattle.congestion_book.proofs.turns.Turns.open_next.Goals as goal

abbrev Done : TurnTable → Type 0
Done t = IsFirstWaiting t.turns (length t.holders) None

abbrev IsShort : TurnTable → Type 0
IsShort t = length t.earlier < 500

pub invariant_of-self : goal.invariant_of-self
invariant_of-self c =
    opened c.self.inside _ c.self.invariant (subst Done (sym c.self.view_is) c.requires.done) (subst IsShort (sym c.self.view_is) c.requires.few)
    refl c.free_all.ensures (search rules) (search rules) (search rules) (search rules)

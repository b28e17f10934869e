use Rattle.std.proofs.Common.{refl, ap}
use Rattle.wave_ground.proofs.SightRows.{known_put}
use Rattle.wave_ground.proofs.nearest.Nearest.keep.Goals as goal

pub returns-clause-known : goal.returns-clause-known
returns-clause-known c = known_put c.self.inside.stamp c.self.inside.known.items c.args.self.now.known c.args.group _ refl (ap (λ s. s.known) c.self.view_is)

-- What the fields of a `Placement` mean.
use Rattle.place_file.specs.declared.placement.Placement.TheInside.{Inside}
use Rattle.place_file.specs.Placement.{Placement}

abbrev pub placement_in : Inside → Placement
placement_in p = record { nx = p.nx; ny = p.ny; sites = p.sites.items }

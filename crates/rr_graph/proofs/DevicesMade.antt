-- Designs that were read suit the devices that are made for them.
use Rattle.std.proofs.Common.{◌≡◌, ℕ, Bool, true, List, sym, ap, subst, ◌∙◌}
use Rattle.arch_file.specs.Architecture.{Architecture}
use Rattle.net_file.specs.Netlist.{Netlist}
use Rattle.net_file.specs.Reads.{ReadsBytes}
use Rattle.place_file.specs.Placement.{Placement, IsPlaced}
use Rattle.channel_tables.specs.declared.node.Mode.{Mode}
use Rattle.channel_tables.specs.Fabric.{Fabric}

-- what is known of designs that were read holds on the device of their array
pub suits_read : (d : Fabric) (a : Architecture) (nx ny width : ℕ) (mode : Mode) (netlist : Netlist) (p : Placement) (suits : Bool)
    → d ≡ record { architecture = a; nx = nx; ny = ny; width = width; mode = mode } → nx ≡ p.nx → ny ≡ p.ny
    → (bytes : List ℕ) × ReadsBytes a.pins bytes netlist → IsPlaced a.io_rat netlist.blocks p
    → ((bytes : List ℕ) → ReadsBytes d.architecture.pins bytes netlist → IsPlaced d.architecture.io_rat netlist.blocks p → d.nx ≡ p.nx → d.ny ≡ p.ny → suits ≡ true)
    → suits ≡ true
suits_read d a nx ny width mode netlist p suits made columns rows read placed known =
    known read.0 (subst (λ (f : Fabric). ReadsBytes f.architecture.pins read.0 netlist) (sym made) read.1)
    (subst (λ (f : Fabric). IsPlaced f.architecture.io_rat netlist.blocks p) (sym made) placed)
    (ap (λ (f : Fabric). f.nx) made ∙ columns) (ap (λ (f : Fabric). f.ny) made ∙ rows)

-- What the fields of an `Arch` mean.
use Rattle.arch_file.specs.Architecture.{Architecture}
use Rattle.arch_file.specs.declared.arch.Arch.TheInside.{Inside}

abbrev pub architecture_of : Inside → Architecture
architecture_of a =
    record {
      io_rat = a.io_rat;
      pins = a.pins.items;
      fc_type = a.fc_type;
      fc_output = a.fc_output;
      fc_input = a.fc_input;
      fc_pad = a.fc_pad;
      segments = a.segments.items;
      switches = a.switches.items;
    }

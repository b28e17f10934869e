-- The ranges and the defaults that the options of a negotiation have.
use Rattle.std.specs.Prelude.{◌≤◌, ℕ}
use Rattle.node_cost.specs.Options.{RouterOptions, AreWithinLimits, standard_options}
use Rattle.command_line.specs.Given.{IsDecimal}
use Rattle.command_line.specs.declared.choices.Choice.{Choice}
use Rattle.command_line.specs.declared.choices.Choices.{Choices}

-- a number may be chosen
abbrev pub IsAmong : Choice → ℕ → Type 0
IsAmong c n = (c.least ≤ n) × (n ≤ c.most)

-- these options may be chosen
pub record MayBeChosen (c : Choices) (o : RouterOptions) : Type 0 where
  pub first : IsAmong c.first o.first
  pub init : IsAmong c.init o.init
  pub mult : IsAmong c.mult o.mult
  pub acc : IsAmong c.acc o.acc
  pub bb : IsAmong c.bb o.bb
  pub iterations : IsAmong c.iterations o.iterations

-- the options that may be chosen are exactly those within the limits
pub record AreChoices (c : Choices) : Type 0 where
  pub allowed : (o : RouterOptions) → MayBeChosen c o → AreWithinLimits o
  pub whole : (o : RouterOptions) → AreWithinLimits o → MayBeChosen c o

-- the defaults are the standard options
pub record AreDefaults (c : Choices) : Type 0 where
  pub first : IsDecimal c.first.standard.now standard_options.first
  pub init : IsDecimal c.init.standard.now standard_options.init
  pub mult : IsDecimal c.mult.standard.now standard_options.mult
  pub acc : IsDecimal c.acc.standard.now standard_options.acc
  pub bb : IsDecimal c.bb.standard.now standard_options.bb
  pub iterations : IsDecimal c.iterations.standard.now standard_options.iterations

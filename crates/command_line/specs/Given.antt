-- What was given on a command line, as the words of each command have it.
use Rattle.std.specs.Prelude.{◌≡◌, ◌≢◌, ℕ, Bool, List, Option, Some, option_map, codes, MatchBool, IsSomeAnd}
use Rattle.std.specs.Borrow.{Bor}
use Rattle.std.specs.Str.Parse.{IsNumeral, digits_value, without_leading_plus}
use Rattle.clap.specs.Words.{found_of, first_value, one_text}
use Rattle.clap.specs.declared.parser.matches.ArgMatches.{ArgMatches}
use Rattle.node_cost.specs.Options.{RouterOptions}
use Rattle.command_line.specs.declared.command.RunWords.{RunWords}
use Rattle.command_line.specs.declared.command.RouteWords.{RouteWords}
use Rattle.command_line.specs.declared.command.WidthWords.{WidthWords}
use Rattle.command_line.specs.declared.command.CheckWords.{CheckWords}
use Rattle.command_line.specs.declared.command.ReportWords.{ReportWords}
use Rattle.command_line.specs.declared.command.BoundWords.{BoundWords}
use Rattle.command_line.specs.declared.command.GraphWords.{GraphWords}
use Rattle.command_line.specs.declared.command.NetsWords.{NetsWords}

-- the text that was given under a name, if one was: a file
abbrev pub text_given : ArgMatches → List ℕ → Option (List ℕ)
text_given m name = first_value (found_of m) name

-- this text is what was given under a name
abbrev pub IsTextGiven : ArgMatches → List ℕ → Bor (List ℕ) → Type 0
IsTextGiven m name t = text_given m name ≡ Some t.now

-- this is what was given under an optional name
abbrev pub IsTextIfGiven : ArgMatches → List ℕ → Option (Bor (List ℕ)) → Type 0
IsTextIfGiven m name t = text_given m name ≡ option_map (λ s. s.now) t

-- a text is a number: decimal digits, possibly after a plus
abbrev pub IsDecimal : List ℕ → ℕ → Type 0
IsDecimal text n =
    IsNumeral 10 (without_leading_plus text) × (digits_value 10 (without_leading_plus text) ≡ n)

-- this number is what was given under a name, or its default
abbrev pub IsNumberGiven : ArgMatches → List ℕ → ℕ → Type 0
IsNumberGiven m name n = IsSomeAnd (one_text (found_of m) name) (λ t. IsDecimal t n)

-- a flag is true if it was given, and false if not
abbrev pub IsFlagGiven : ArgMatches → List ℕ → Bool → Type 0
IsFlagGiven m name b = MatchBool b (one_text (found_of m) name ≡ Some (codes "true"))
    (one_text (found_of m) name ≢ Some (codes "true"))

-- these settings are those that were given
pub record AreSettingsGiven (m : ArgMatches) (o : RouterOptions) : Type 0 where
  pub first : IsNumberGiven m (codes "first-pres") o.first
  pub init : IsNumberGiven m (codes "init-pres") o.init
  pub mult : IsNumberGiven m (codes "mult") o.mult
  pub acc : IsNumberGiven m (codes "acc") o.acc
  pub bb : IsNumberGiven m (codes "bb") o.bb
  pub iterations : IsNumberGiven m (codes "iterations") o.iterations
  pub steady : IsFlagGiven m (codes "steady") o.steady

-- what was given to `route` or `width`, of the values that they share
pub record IsRunGiven (m : ArgMatches) (r : RunWords) : Type 0 where
  pub net : IsTextGiven m (codes "NET") r.net
  pub arch : IsTextGiven m (codes "ARCH") r.arch
  pub place : IsTextGiven m (codes "PLACE") r.place
  pub route : IsTextGiven m (codes "ROUTE") r.route
  pub global : IsFlagGiven m (codes "global") r.global
  pub explain : IsFlagGiven m (codes "explain") r.explain
  pub workers : IsNumberGiven m (codes "workers") r.workers
  pub settings : AreSettingsGiven m r.settings
  pub log : IsTextIfGiven m (codes "log") r.log
  pub schedule : IsTextIfGiven m (codes "schedule") r.schedule
  pub follow : IsTextIfGiven m (codes "follow") r.follow

-- what else was given to `route`
pub record IsRouteGiven (m : ArgMatches) (r : RouteWords) : Type 0 where
  pub width : IsNumberGiven m (codes "width") r.width
  pub rest : IsTextIfGiven m (codes "rest") r.rest

-- what else was given to `width`
pub record IsWidthGiven (m : ArgMatches) (w : WidthWords) : Type 0 where
  pub start : IsNumberGiven m (codes "start") w.start
  pub keep : IsTextIfGiven m (codes "keep") w.keep
  pub verify : IsNumberGiven m (codes "verify") w.verify
  pub upward : IsFlagGiven m (codes "upward") w.upward
  pub no_bound : IsFlagGiven m (codes "no-bound") w.no_bound

-- what was given to `check`
pub record IsCheckGiven (m : ArgMatches) (c : CheckWords) : Type 0 where
  pub net : IsTextGiven m (codes "NET") c.net
  pub arch : IsTextGiven m (codes "ARCH") c.arch
  pub place : IsTextGiven m (codes "PLACE") c.place
  pub route : IsTextGiven m (codes "ROUTE") c.route
  pub width : IsNumberGiven m (codes "width") c.width
  pub global : IsFlagGiven m (codes "global") c.global
  pub explain : IsFlagGiven m (codes "explain") c.explain

-- what was given to `report`
pub record IsReportGiven (m : ArgMatches) (r : ReportWords) : Type 0 where
  pub net : IsTextGiven m (codes "NET") r.net
  pub arch : IsTextGiven m (codes "ARCH") r.arch
  pub place : IsTextGiven m (codes "PLACE") r.place
  pub route : IsTextGiven m (codes "ROUTE") r.route
  pub width : IsNumberGiven m (codes "width") r.width
  pub global : IsFlagGiven m (codes "global") r.global
  pub explain : IsFlagGiven m (codes "explain") r.explain
  pub full_stats : IsFlagGiven m (codes "full-stats") r.full_stats
  pub map : IsFlagGiven m (codes "map") r.map
  pub json : IsFlagGiven m (codes "json") r.json

-- what was given to `bound`
pub record IsBoundGiven (m : ArgMatches) (b : BoundWords) : Type 0 where
  pub net : IsTextGiven m (codes "NET") b.net
  pub arch : IsTextGiven m (codes "ARCH") b.arch
  pub place : IsTextGiven m (codes "PLACE") b.place
  pub cut : IsTextIfGiven m (codes "cut") b.cut
  pub explain : IsFlagGiven m (codes "explain") b.explain

-- what was given to `graph`
pub record IsGraphGiven (m : ArgMatches) (g : GraphWords) : Type 0 where
  pub arch : IsTextGiven m (codes "ARCH") g.arch
  pub nx : IsNumberGiven m (codes "NX") g.nx
  pub ny : IsNumberGiven m (codes "NY") g.ny
  pub width : IsNumberGiven m (codes "W") g.width
  pub global : IsFlagGiven m (codes "global") g.global
  pub types : IsFlagGiven m (codes "types") g.types
  pub explain : IsFlagGiven m (codes "explain") g.explain

-- what was given to `nets`
pub record IsNetsGiven (m : ArgMatches) (n : NetsWords) : Type 0 where
  pub net : IsTextGiven m (codes "NET") n.net
  pub arch : IsTextGiven m (codes "ARCH") n.arch
  pub place : IsTextGiven m (codes "PLACE") n.place
  pub width : IsNumberGiven m (codes "width") n.width
  pub global : IsFlagGiven m (codes "global") n.global
  pub explain : IsFlagGiven m (codes "explain") n.explain

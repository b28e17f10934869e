-- Lines that describe a run (ours), as the heads of a schedule and of a log have them.
use Rattle.std.specs.Prelude.{ℕ, List, ◌++◌, codes, decimal}
use Rattle.node_cost.specs.Options.{RouterOptions}

-- a name and its value, as `# net a.net`
unfoldable pub entry_text : (name value : List ℕ) → List ℕ
entry_text name value = codes "# " ++ (name ++ (codes " " ++ (value ++ codes "\n")))

-- a name, a number and its unit, as `# bb 3 places`
unfoldable pub amount_text : (name : List ℕ) → (amount : ℕ) → (unit : List ℕ) → List ℕ
amount_text name amount unit = codes "# " ++ (name ++ (codes " " ++ (decimal amount ++ (unit ++ codes "\n"))))

-- the present-congestion factors
unfoldable pub factors_text : RouterOptions → List ℕ
factors_text o =
    amount_text (codes "first-pres") o.first (codes " sixteenths")
    ++ (amount_text (codes "init-pres") o.init (codes " sixteenths") ++ amount_text (codes "mult") o.mult (codes " sixteenths"))

-- the options of each negotiation
unfoldable pub options_text : RouterOptions → List ℕ
options_text o =
    amount_text (codes "iterations") o.iterations (codes " at most")
    ++ (factors_text o ++ (amount_text (codes "acc") o.acc (codes " twentieths of a wire") ++ amount_text (codes "bb") o.bb (codes " places")))

-- Members of an object that others come after, and texts as lists of parts.
use Rattle.std.specs.Prelude.{ℕ, List, [], ◌∷◌, ◌++◌, codes, decimal}
use Rattle.report_run.specs.declared.json_parts.Part.{Part}
use Rattle.report_run.specs.declared.json_parts.Part.TheVariants.{Text, Number, Share, Mean, Bound}
use Rattle.report_run.specs.JsonReport.{bound_json, share_json}
use Rattle.report_run.specs.Texts.{mean_text}

-- each member with a comma after it
abbrev pub before : List (List ℕ) → List ℕ
before [] = []
before (m ∷ ms) = m ++ (codes "," ++ before ms)

abbrev pub part_text : Part → List ℕ
part_text (Text bytes) = bytes.now
part_text (Number n) = decimal n
part_text (Share part whole) = share_json part whole
part_text (Mean sum count) = mean_text sum count
part_text (Bound b) = bound_json b

-- the texts of the parts, one after another
abbrev pub parts_text : List Part → List ℕ
parts_text [] = []
parts_text (p ∷ []) = part_text p
parts_text (p ∷ q ∷ ps) = part_text p ++ parts_text (q ∷ ps)

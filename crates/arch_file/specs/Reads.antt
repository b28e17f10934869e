-- Which architecture a text is (VPR and T-VPack manual 4.30).
use Rattle.std.specs.Prelude.{◌≡◌, ℕ, List, [], ◌∷◌, ◌++◌, None, Ok, MatchBool}
use Rattle.vpr_text.specs.Words.{Line}
use Rattle.vpr_text.specs.Text.{lines_of}
use Rattle.arch_file.specs.declared.line.ArchLine.{ArchLine}
use Rattle.arch_file.specs.Architecture.{Architecture}
use Rattle.arch_file.specs.Judge.{is_passed, judge}
use Rattle.arch_file.specs.Reading.{missing_of, architecture_from}

-- with the entries before them these lines make up the entries: each line that isn't passed over
-- unread is the next one
abbrev pub AreEntries : List ArchLine → List Line → List ArchLine → Type 0
AreEntries before [] entries = entries ≡ before
AreEntries before (l ∷ ls) entries =
    MatchBool (is_passed l.words) (AreEntries before ls entries)
    ((entry : ArchLine) × (judge before l.words ≡ Ok entry) × AreEntries (before ++ entry ∷ []) ls entries)

-- every line is an entry, none that is needed is missing, and the architecture has exactly these
-- entries
pub record ReadsArch (lines : List Line) (a : Architecture) : Type 0 where
  pub entries : List ArchLine
  pub each_line : AreEntries [] lines entries
  pub complete : missing_of entries ≡ None
  pub value : a ≡ architecture_from entries

-- the bytes are a text without faults, and its lines are read as this architecture
pub record ReadsBytes (bytes : List ℕ) (a : Architecture) : Type 0 where
  pub lines : List Line
  pub is_text : lines_of bytes ≡ Ok lines
  pub reads : ReadsArch lines a

-- The head of a schedule (ours).
use Rattle.std.specs.Prelude.{◌≡◌, ℕ, ◌≤◌, List, [], ◌++◌, codes}
use Rattle.node_cost.specs.Options.{most_workers}
use Rattle.run_schedule.specs.HeadLines.{amount_text, entry_text}
use Rattle.run_schedule.specs.Lines.{AreNotes, IsInLine, notes_text}

-- the most nets of a problem
abbrev pub most_nets : ℕ
most_nets = 65535

-- lines that begin with `# `: the sums of the three files, the workers, the six choices of each
-- negotiation, and the nets
pub record IsHeadRest (workers nets : ℕ) (bytes : List ℕ) : Type 0 where
  pub sums : List (List ℕ)
  pub choices : List (List ℕ)
  pub three : AreNotes 3 sums
  pub six : AreNotes 6 choices
  pub workers_least : 1 ≤ workers
  pub workers_most : workers ≤ most_workers
  pub nets_most : nets ≤ most_nets
  pub lines : bytes ≡ notes_text sums ++ (amount_text (codes "workers") workers [] ++ (notes_text choices ++ amount_text (codes "nets") nets []))

-- the program, and the command of the run
abbrev pub IsTitle : List ℕ × List ℕ → Type 0
IsTitle t = IsInLine t.0 × IsInLine t.1

abbrev pub title_text : List ℕ × List ℕ → List ℕ
title_text t = entry_text (codes "pathfinder") t.0 ++ entry_text (codes "schedule of") t.1

-- the lines of the head of a run with this many workers and nets
pub record IsHead (workers nets : ℕ) (bytes : List ℕ) : Type 0 where
  pub title : List ℕ × List ℕ
  pub rest : List ℕ
  pub title_lines : IsTitle title
  pub rest_lines : IsHeadRest workers nets rest
  pub lines : bytes ≡ title_text title ++ rest

-- No head and no line of a log is empty.
use Rattle.std.proofs.Common.{ℕ, ◌<◌, List, length, arith, length-append}
use Rattle.rr_graph.specs.Problems.{RoutingProblem}
use Rattle.node_cost.specs.Options.{RouterOptions}
use Rattle.congestion_book.specs.Contents.{Content}
use Rattle.run_log.specs.declared.run_files.RunFiles.{RunFiles}
use Rattle.run_log.specs.kept.LogTexts.{figures_text, head_text, row_text, trial_left_text, trial_routed_text}

pub head_filled : (program : List ℕ) (files : RunFiles) (p : RoutingProblem) (workers : ℕ) (o : RouterOptions) → 0 < length (head_text program files p workers o)
unfolding head_text
head_filled program files p workers o = simp length-append (omega arith)

pub row_filled : (o : RouterOptions) (iteration : ℕ) (c : Content) (milliseconds : ℕ) → 0 < length (row_text o iteration c milliseconds)
unfolding row_text figures_text
row_filled o iteration c milliseconds = simp length-append (omega arith)

pub routed_filled : (width iterations : ℕ) → 0 < length (trial_routed_text width iterations)
unfolding trial_routed_text
routed_filled width iterations = simp length-append (omega arith)

pub left_filled : (width unrouted overused iterations : ℕ) → 0 < length (trial_left_text width unrouted overused iterations)
unfolding trial_left_text
left_filled width unrouted overused iterations = simp length-append (omega arith)

-- Texts that are not empty.
use Rattle.std.proofs.Common.{◌<◌, length, arith, length-append}
use Rattle.width_bound.specs.declared.figures.CutFigures.{CutFigures}
use Rattle.width_bound.specs.Cuts.{Cut}
use Rattle.run_inputs.specs.Inputs.{PlacedNetlist}
use Rattle.bound_run.specs.Bounds.{bound_lines, count_line}
use Rattle.bound_run.specs.CutTexts.{cut_text, head_text}

pub bound_filled : (c : CutFigures) → 0 < length (bound_lines c)
unfolding bound_lines count_line
bound_filled c = simp length-append (omega arith)

pub cut_filled : (p : PlacedNetlist) (cut : Cut) → 0 < length (cut_text p cut)
unfolding cut_text head_text
cut_filled p cut = simp length-append (omega arith)

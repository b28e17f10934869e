-- The first lines of a routing's text are read as its head.
use Rattle.std.proofs.Common.{◌≡◌, ℕ, ◌^◌, ◌<◌, true, refl}
use Rattle.std.proofs.lemmas.Bool.{eq-eqb}
use Rattle.vpr_text.specs.Word.{is_text}
use Rattle.rr_graph.specs.Fabric.{Fabric}
use Rattle.route_file.specs.TextLine.{Size, Heading}
use Rattle.vpr_text.specs.ArraySize.{begins_size_line}
use Rattle.route_file.specs.Judge.{is_size_line, is_size_of, is_title}
use Rattle.route_file.proofs.LineWords.{line_words}
use Rattle.route_file.proofs.ReadNumbers.{number_read}

pub size_read : (nx ny : ℕ) → nx < 2 ^ 32 → ny < 2 ^ 32 → is_size_line (line_words (Size nx ny)) ≡ true
unfolding is_size_line begins_size_line is_text
size_read nx ny h k = rw (number_read nx h, number_read ny k) refl

pub size_same : (f : Fabric) → f.nx < 2 ^ 32 → f.ny < 2 ^ 32 → is_size_of f (line_words (Size f.nx f.ny)) ≡ true
size_same f h k = rw (number_read f.nx h, number_read f.ny k, eq-eqb f.nx f.nx refl, eq-eqb f.ny f.ny refl) refl

pub title_read : is_title (line_words Heading) ≡ true
unfolding is_text
title_read = refl

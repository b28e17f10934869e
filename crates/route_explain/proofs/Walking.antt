-- The net in whose section a line stands, with a line more.
use Rattle.std.proofs.Common.{◌≡◌, ℕ, ◌+◌, ◌<◌, cond, List, length, get_or, take, ap, ◌∙◌}
use Rattle.std.proofs.lemmas.List.{take_more}
use Rattle.vpr_text.specs.Words.{Line, no_line, words_at}
use Rattle.net_file.specs.Netlist.{Netlist}
use Rattle.route_file.specs.NetLine.{is_net_words, net_on}
use Rattle.route_file.specs.Sections.{latest}
use Rattle.route_file.proofs.Growing.{latest_more}

-- the net in whose section the next line stands
pub latest_next : (netlist : Netlist) (lines : List Line) (i : ℕ) → i < length lines
    → latest netlist (take (i + 1) lines) ≡ cond (is_net_words (words_at lines i)) (net_on netlist (words_at lines i)) (latest netlist (take i lines))
latest_next netlist lines i below = ap (latest netlist) (take_more lines i no_line below) ∙ latest_more netlist (take i lines) (get_or lines i no_line)

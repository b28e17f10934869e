-- The lines that nets' sections begin with (VPR and T-VPack manual 4.30, "Routing File Format").
use Rattle.std.specs.Prelude.{ℕ, ◌-◌, Bool, true, false, ◌&&◌, ◌==◌, if◌then◌else◌, List, [], ◌∷◌, length, take, drop, Option, Some, None, is_some, not, unwrap_or, option_and_then, slice_index_or, codes}
use Rattle.vpr_text.specs.Words.{Line}
use Rattle.vpr_text.specs.Word.{is_text, is_at, word_at, is_number}
use Rattle.net_file.specs.Facts.{names_of_nets}
use Rattle.net_file.specs.Names.{number_among}
use Rattle.net_file.specs.Netlist.{Netlist}
use Rattle.net_file.specs.Routed.{no_net}

abbrev pub same_answer : Bool → Bool → Bool
same_answer true b = b
same_answer false b = not b

-- `Net` as a first word is always a net's line
abbrev pub is_net_words : List (List ℕ) → Bool
is_net_words words = is_at words 0 (codes "Net")

abbrev pub is_net_line : Line → Bool
is_net_line l = is_net_words l.words

-- what comes before this ending of a text, if it ends so
unfoldable pub before_ending : (ending text : List ℕ) → Option (List ℕ)
before_ending ending text =
    if is_text (drop (length text - length ending) text) ending then Some (take (length text - length ending) text) else None

-- what is between the `(` that a word begins with and this ending of the word
unfoldable pub enclosed : (ending word : List ℕ) → Option (List ℕ)
enclosed ending [] = None
enclosed ending (b ∷ rest) = if b == 40 then before_ending ending rest else None

-- three words: `Net`, a number, the name of a net that isn't global
unfoldable pub is_plain_form : List (List ℕ) → Bool
is_plain_form words = length words == 3 && is_number words 1 && is_some (enclosed (codes ")") (word_at words 2))

-- six words for a global net
unfoldable pub is_global_form : List (List ℕ) → Bool
is_global_form words =
    length words == 6
    && is_number words 1
    && is_some (enclosed (codes "):") (word_at words 2))
    && is_at words 3 (codes "global")
    && is_at words 4 (codes "net")
    && is_at words 5 (codes "connecting:")

-- the name that the line of a net gives
unfoldable pub name_on : List (List ℕ) → List ℕ
name_on words = unwrap_or (enclosed (if is_global_form words then codes "):" else codes ")") (word_at words 2)) []

abbrev pub is_global_at : Netlist → ℕ → Bool
is_global_at netlist n = (slice_index_or netlist.nets n no_net).global

-- the net, if it is global exactly if this is said
abbrev pub if_global : Netlist → Bool → ℕ → Option ℕ
if_global netlist global n = if same_answer (is_global_at netlist n) global then Some n else None

-- the number of the net that a net's line names: a global net in the form of global nets, else
-- another one
unfoldable pub net_on : Netlist → List (List ℕ) → Option ℕ
net_on netlist words = option_and_then (if_global netlist (is_global_form words)) (number_among (names_of_nets netlist.nets) (name_on words))

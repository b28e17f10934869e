-- Worked examples: netlists of pads, and what is read.
use Rattle.std.proofs.Common.{◌≡◌, ℕ, false, List, [], ◌∷◌, Some, None, Ok, Err, refl}
use Rattle.std.specs.Prelude.{codes}
use Rattle.vpr_text.specs.Words.{Line}
use Rattle.vpr_text.specs.Word.{is_text}
use Rattle.net_file.specs.declared.fault.LineFault.TheVariants.{BadLine, DoubleName}
use Rattle.net_file.specs.declared.fault.NetFault.TheVariants as net
use Rattle.net_file.specs.declared.terminal.BlockKind.TheVariants.{InputPad, OutputPad}
use Rattle.net_file.specs.Blocks.{block_of, block_at, blocks_of, pinlists, pinlist_numbers}
use Rattle.net_file.specs.Connections.{is_repeated, connection_at, connections_of, connections, on_net, by_net}
use Rattle.net_file.specs.Judge.{is_bad_line, is_bad_count, is_double, are_too_many, fault_of_next}
use Rattle.net_file.specs.Lines.{kind_of, block_names, net_names, global_names, opened, latest}
use Rattle.net_file.specs.Names.{is_among, number_among, with_name}
use Rattle.net_file.specs.Reading.{line_fault_from, net_from, net_at, nets_of, rows_of, completed, reading}
use Rattle.net_file.specs.WholeFile.{net_fault, whole_fault}

abbrev line : ℕ → List (List ℕ) → Line
line n words = record { number = n; words = words }

abbrev input : Line
input = line 1 (codes ".input" ∷ codes "a" ∷ [])

abbrev pinlist : ℕ → Line
pinlist n = line n (codes "pinlist:" ∷ codes "a" ∷ [])

abbrev output : Line
output = line 3 (codes ".output" ∷ codes "o" ∷ [])

-- an element may begin a file, its pinlist stands after it, and a second one doesn't
begins : fault_of_next 3 [] input ≡ None
unfolding fault_of_next is_bad_line is_bad_count is_double are_too_many block_names net_names opened latest kind_of is_text is_among with_name
begins = refl

follows : fault_of_next 3 (input ∷ []) (pinlist 2) ≡ None
unfolding fault_of_next is_bad_line is_bad_count is_double are_too_many block_names net_names opened latest kind_of is_text is_among with_name
follows = refl

stands_twice : fault_of_next 3 (input ∷ pinlist 2 ∷ []) (pinlist 3) ≡ Some BadLine
unfolding fault_of_next is_bad_line is_bad_count is_double are_too_many block_names net_names opened latest kind_of is_text is_among with_name
stands_twice = refl

named_twice : fault_of_next 3 (input ∷ pinlist 2 ∷ []) input ≡ Some DoubleName
unfolding fault_of_next is_bad_line is_bad_count is_double are_too_many block_names net_names opened latest kind_of is_text is_among with_name
named_twice = refl

-- two pads on one net
two_pads : reading [] (input ∷ pinlist 2 ∷ output ∷ pinlist 4 ∷ [])
    ≡ Ok (record {
      blocks = record { kind = InputPad; name = codes "a"; nets = Some 0 ∷ [] } ∷ record { kind = OutputPad; name = codes "o"; nets = Some 0 ∷ [] } ∷ [];
      nets = record { name = codes "a"; global = false; driver = record { block = 0; class = None }; sinks = record { block = 1; class = None } ∷ [] } ∷ [];
    })
unfolding reading line_fault_from completed whole_fault net_fault nets_of net_at net_from rows_of by_net on_net connections connections_of connection_at is_repeated blocks_of block_at block_of pinlists pinlist_numbers global_names number_among fault_of_next is_bad_line is_bad_count is_double are_too_many block_names net_names opened latest kind_of is_text is_among with_name
two_pads = refl

-- nothing drives the net: the line of its first pinlist is reported
undriven : reading [] (output ∷ pinlist 4 ∷ []) ≡ Err (net.NoDriver 4)
unfolding reading line_fault_from completed whole_fault net_fault nets_of net_at net_from rows_of by_net on_net connections connections_of connection_at is_repeated blocks_of block_at block_of pinlists pinlist_numbers global_names number_among fault_of_next is_bad_line is_bad_count is_double are_too_many block_names net_names opened latest kind_of is_text is_among with_name
undriven = refl

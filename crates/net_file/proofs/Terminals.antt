-- Where the nets of a netlist begin and end: at pins of its blocks.
use Rattle.std.proofs.Common.{◌≡◌, ℕ, zero, suc, ◌+◌, ◌-◌, ◌<◌, Bool, true, false, cond, eqb, List, [], ◌∷◌, length, map, get_or, drop, All, Option, Some, None, refl, sym, ap, subst, ◌∙◌, arith, zero-add}
use Rattle.std.specs.Prelude.{slice_get, slice_index, unwrap_or}
use Rattle.std.specs.Option.{option_map_or, IfSome}
use Rattle.std.specs.List.{AllByRecursion}
use Rattle.std.proofs.lemmas.List.{length-drop, length-map}
use Rattle.std.proofs.lemmas.List.Sums.{sum_by-cons}
use Rattle.std.proofs.lemmas.List.Elements.{All-from_recursion, All-get_or}
use Rattle.std.proofs.lemmas.List.FromFn.{get_or-map-range_with_len}
use Rattle.vpr_text.specs.Words.{Line, words_at}
use Rattle.arch_file.specs.declared.entries.Direction.{Direction}
use Rattle.arch_file.specs.declared.entries.Direction.TheVariants.{Input, Output}
use Rattle.arch_file.specs.declared.entries.Pin.{Pin}
use Rattle.net_file.specs.declared.connection.Connection.{Connection}
use Rattle.net_file.specs.declared.fault.NetFault.{NetFault}
use Rattle.net_file.specs.declared.terminal.BlockKind.{BlockKind}
use Rattle.net_file.specs.declared.terminal.BlockKind.TheVariants.{InputPad, OutputPad, LogicBlock}
use Rattle.net_file.specs.declared.terminal.Terminal.{Terminal}
use Rattle.net_file.specs.Blocks.{net_of, block_of, block_at, blocks_of, pinlists, pinlist_numbers}
use Rattle.net_file.specs.Connections.{is_output, role_of_pin, role_of_pad, role_of, net_at, connection_at, connections_of, no_block, connections_at, connections, on_net, by_net}
use Rattle.net_file.specs.Judge.{pin_count}
use Rattle.net_file.specs.Lines.{is_pinlist, net_names, global_names}
use Rattle.net_file.specs.Netlist.{Netlist, Block, Net}
use Rattle.net_file.specs.Reading.{driver_of, sinks_of, net_from, nets_of, rows_of}
use Rattle.net_file.specs.Reading as reading
use Rattle.net_file.specs.Reads.{AreAccepted, ReadsNet}
use Rattle.net_file.specs.WholeFile.{driver_count, net_fault, fault_at, is_global_net}
use Rattle.net_file.proofs.Each.{each_mapped, each_kept, each_picked, each_listed, each_passed, each_made, if_mapped}
use Rattle.net_file.proofs.PinCounts.{HasPins, pinlist_fits}

-- a pin of this direction at a block of this kind: an input pad drives its net, an output pad takes
-- it, and both have no class; a pin of a logic block is one of the architecture, with its class
abbrev pub IsPin : List Pin → Direction → BlockKind → Option ℕ → Type 0
IsPin pins direction InputPad class = (direction ≡ Output) × (class ≡ None)
IsPin pins direction OutputPad class = (direction ≡ Input) × (class ≡ None)
IsPin pins direction LogicBlock class = (p : ℕ) × (pin : Pin) × (slice_get pins p ≡ Some pin) × (pin.direction ≡ direction) × (class ≡ Some pin.class)

-- the terminal is at a pin of this direction of one of the blocks
pub record IsAtPin (pins : List Pin) (blocks : List Block) (direction : Direction) (t : Terminal) : Type 0 where
  pub there : t.block < length blocks
  pub at_pin : IsPin pins direction (get_or blocks t.block no_block).kind t.class

-- ---- the pins of blocks

-- a pad has one pin, and a logic block those of the architecture
abbrev pub HasAllPins : ℕ → Block → Type 0
HasAllPins pins block = length block.nets ≡ pin_count pins block.kind

all_pins_at : (pins : ℕ) (names : List (List ℕ)) (element words : List (List ℕ)) (o : Option BlockKind) → HasPins pins o words
    → length (map (net_of names) (drop 1 words)) ≡ pin_count pins (unwrap_or o InputPad)
all_pins_at pins names element words o h =
    let count : length (map (net_of names) (drop 1 words)) ≡ length words - 1 = length-map (drop 1 words) (net_of names) ∙ length-drop 1 words in
    let kind : pin_count pins (unwrap_or o InputPad) ≡ pin_count pins h.0 = ap (λ k. pin_count pins (unwrap_or k InputPad)) h.1 in
    omega (arith, count, kind, h.2)

-- the blocks of accepted lines have all their pins
pub blocks_have_pins : (pins : ℕ) (names : List (List ℕ)) (ls : List Line) → AreAccepted pins [] ls → All (HasAllPins pins) (blocks_of names ls)
unfolding blocks_of block_at block_of pinlists
blocks_have_pins pins names ls h =
    All-from_recursion (HasAllPins pins) (blocks_of names ls)
    (each_made (HasAllPins pins) (block_at names ls) (pinlists ls)
    (each_kept (λ i. is_pinlist (words_at ls i)) (λ i. HasAllPins pins (block_at names ls i)) 0 (length ls)
    (λ i low high e. all_pins_at pins names (words_at ls (i - 1)) (words_at ls i) _ (pinlist_fits pins ls i h (omega (arith, high)) e).1)))

-- ---- connections

abbrev direction_by : Bool → Direction
direction_by drives = cond drives Output Input

pin_within : (pins : List Pin) (p : ℕ) → p < length pins → (pin : Pin) × (slice_get pins p ≡ Some pin)
pin_within [] p lt = absurd (omega (arith, lt))
pin_within (x ∷ xs) zero lt = (x, refl)
pin_within (x ∷ xs) (suc p) lt = pin_within xs p (omega (arith, lt))

directed : (d : Direction) → d ≡ direction_by (is_output d)
directed Input = refl
directed Output = refl

role_at_pin : (pins : List Pin) (kind : BlockKind) (p : ℕ) → p < pin_count (length pins) kind → IsPin pins (direction_by (role_of pins kind p).drives) kind (role_of pins kind p).class
role_at_pin pins InputPad p lt = (refl, refl)
role_at_pin pins OutputPad p lt = (refl, refl)
role_at_pin pins LogicBlock p lt =
    let found = pin_within pins p lt in
    let role : role_of pins LogicBlock p ≡ role_of_pin found.0 = ap (λ o. option_map_or role_of_pin o (role_of_pad false)) found.1 in
    (p, found.0, found.1, directed found.0.direction ∙ ap (λ r. direction_by r.drives) (sym role), ap (λ r. r.class) role)

-- the connection is at a pin that drives its net, or takes its signal
abbrev IsJoined : List Pin → List Block → Connection → Type 0
IsJoined pins blocks c = IsAtPin pins blocks (direction_by c.drives) c.terminal

joined_at : (pins : List Pin) (blocks : List Block) (line b p : ℕ) → b < length blocks → p < pin_count (length pins) (get_or blocks b no_block).kind
    → IfSome (connection_at pins line b (get_or blocks b no_block) p) (IsJoined pins blocks)
unfolding connection_at
joined_at pins blocks line b p within lt =
    let block = get_or blocks b no_block in
    if_mapped (IsJoined pins blocks) _ (net_at block p) (λ net. record { there = within; at_pin = role_at_pin pins block.kind p lt })

block_joined : (pins : List Pin) (numbers : List ℕ) (blocks : List Block) (b : ℕ) → b < length blocks → HasAllPins (length pins) (get_or blocks b no_block)
    → AllByRecursion (IsJoined pins blocks) (connections_at pins numbers blocks b)
unfolding connections_of
block_joined pins numbers blocks b within all =
    let block = get_or blocks b no_block in
    each_picked (IsJoined pins blocks) (connection_at pins (slice_index numbers b) b block) 0 (length block.nets)
    (λ p low high. joined_at pins blocks (slice_index numbers b) b p within (omega (arith, high, all)))

all_joined : (pins : List Pin) (numbers : List ℕ) (blocks : List Block) → All (HasAllPins (length pins)) blocks → AllByRecursion (IsJoined pins blocks) (connections pins numbers blocks)
unfolding connections
all_joined pins numbers blocks all =
    each_listed (IsJoined pins blocks) (connections_at pins numbers blocks) 0 (length blocks)
    (λ b low high.
    let within : b < length blocks = omega (arith, high) in
    block_joined pins numbers blocks b within (All-get_or (HasAllPins (length pins)) blocks b no_block within all))

row_joined : (pins : List Pin) (numbers : List ℕ) (blocks : List Block) (count n : ℕ) → All (HasAllPins (length pins)) blocks → n < count
    → AllByRecursion (IsJoined pins blocks) (get_or (by_net (connections pins numbers blocks) count) n [])
unfolding by_net on_net
row_joined pins numbers blocks count n all lt =
    let all_connections = connections pins numbers blocks in
    let row : get_or (by_net all_connections count) n [] ≡ on_net all_connections n = get_or-map-range_with_len (on_net all_connections) 0 count n n [] lt (zero-add n) in
    subst (AllByRecursion (IsJoined pins blocks)) (sym row) (each_passed (IsJoined pins blocks) (λ c. eqb c.net n) all_connections (all_joined pins numbers blocks all))

-- ---- nets

first_test : (b : Bool) (fault : NetFault) (rest : Option NetFault) → cond b (Some fault) rest ≡ None → b ≡ false
first_test true fault rest e = absurd cc
first_test false fault rest e = refl

driven : (global : Bool) (row : List Connection) → net_fault global row ≡ None → eqb (driver_count row) 0 ≡ false
unfolding net_fault
driven global row e = first_test _ _ _ e

driver_first : (pins : List Pin) (blocks : List Block) (c : Connection) (cs : List Connection) (b : Bool) → c.drives ≡ b → IsJoined pins blocks c → eqb (driver_count (c ∷ cs)) 0 ≡ false
    → (eqb (driver_count cs) 0 ≡ false → IsAtPin pins blocks Output (driver_of cs)) → IsAtPin pins blocks Output (driver_of (c ∷ cs))
driver_first pins blocks c cs true d joined e rest =
    let is : driver_of (c ∷ cs) ≡ c.terminal = rw d refl in
    subst (IsAtPin pins blocks Output) (sym is) (subst (λ b. IsAtPin pins blocks (direction_by b) c.terminal) d joined)
driver_first pins blocks c cs false d joined e rest =
    let is : driver_of (c ∷ cs) ≡ driver_of cs = rw d refl in
    let count : driver_count (c ∷ cs) ≡ driver_count cs = sum_by-cons (λ (k : Connection). cond k.drives 1 0) c cs ∙ ap (λ b. cond b 1 0 + driver_count cs) d ∙ zero-add (driver_count cs) in
    subst (IsAtPin pins blocks Output) (sym is) (rest (ap (λ n. eqb n 0) (sym count) ∙ e))

driver_at_pin : (pins : List Pin) (blocks : List Block) (row : List Connection) → AllByRecursion (IsJoined pins blocks) row → eqb (driver_count row) 0 ≡ false → IsAtPin pins blocks Output (driver_of row)
driver_at_pin pins blocks [] h e = absurd cc
driver_at_pin pins blocks (c ∷ cs) h e = driver_first pins blocks c cs c.drives refl h.0 e (driver_at_pin pins blocks cs h.1)

sink_first : (pins : List Pin) (blocks : List Block) (c : Connection) (cs : List Connection) (b : Bool) → c.drives ≡ b → IsJoined pins blocks c → AllByRecursion (IsAtPin pins blocks Input) (sinks_of cs)
    → AllByRecursion (IsAtPin pins blocks Input) (sinks_of (c ∷ cs))
sink_first pins blocks c cs true d joined rest =
    let is : sinks_of (c ∷ cs) ≡ sinks_of cs = rw d refl in
    subst (AllByRecursion (IsAtPin pins blocks Input)) (sym is) rest
sink_first pins blocks c cs false d joined rest =
    let is : sinks_of (c ∷ cs) ≡ c.terminal ∷ sinks_of cs = rw d refl in
    subst (AllByRecursion (IsAtPin pins blocks Input)) (sym is) (subst (λ b. IsAtPin pins blocks (direction_by b) c.terminal) d joined, rest)

sinks_at_pins : (pins : List Pin) (blocks : List Block) (row : List Connection) → AllByRecursion (IsJoined pins blocks) row → AllByRecursion (IsAtPin pins blocks Input) (sinks_of row)
sinks_at_pins pins blocks [] h = tt
sinks_at_pins pins blocks (c ∷ cs) h = sink_first pins blocks c cs c.drives refl h.0 (sinks_at_pins pins blocks cs h.1)

-- the net begins at an output pin and ends at input pins
pub record JoinsPins (pins : List Pin) (blocks : List Block) (net : Net) : Type 0 where
  pub driver : IsAtPin pins blocks Output net.driver
  pub sinks : All (IsAtPin pins blocks Input) net.sinks

net_joins : (pins : List Pin) (blocks : List Block) (names globals : List (List ℕ)) (rows : List (List Connection)) (n : ℕ) → AllByRecursion (IsJoined pins blocks) (get_or rows n []) → fault_at names globals rows n ≡ None
    → JoinsPins pins blocks (reading.net_at names globals rows n)
unfolding reading.net_at net_from
net_joins pins blocks names globals rows n h e =
    record {
      driver = driver_at_pin pins blocks (get_or rows n []) h (driven (is_global_net names globals n) (get_or rows n []) e);
      sinks = All-from_recursion (IsAtPin pins blocks Input) (sinks_of (get_or rows n [])) (sinks_at_pins pins blocks (get_or rows n []) h);
    }

-- each net of a netlist begins at an output pin of one of its blocks, and ends at input pins
pub nets_join_pins : (pins : List Pin) (ls : List Line) (netlist : Netlist) → ReadsNet pins ls netlist → All (JoinsPins pins netlist.blocks) netlist.nets
unfolding rows_of nets_of
nets_join_pins pins ls netlist h =
    let names = net_names ls in
    let blocks = blocks_of names ls in
    let rows = rows_of pins names ls in
    let have = blocks_have_pins (length pins) names ls h.each_line in
    let joined : All (JoinsPins pins blocks) (nets_of names (global_names ls) rows) =
    each_mapped (JoinsPins pins blocks) (reading.net_at names (global_names ls) rows) (length names)
    (λ n lt. net_joins pins blocks names (global_names ls) rows n (row_joined pins (pinlist_numbers ls) blocks (length names) n have lt) (h.each_net n lt)) in
    subst (λ (m : Netlist). All (JoinsPins pins m.blocks) m.nets) (sym h.value) joined

-- The map of a routing: the array, with the occupancy of each place of its channels (ours).
use Rattle.std.specs.Prelude.{ℕ, ◌+◌, ◌*◌, ◌-◌, ◌/◌, ◌%◌, nat_le, nat_lt, Bool, ◌&&◌, if◌then◌else◌, List, [], ◌∷◌, ◌++◌, codes, decimal, get_or, map}
use Rattle.std.specs.List.{flat_map}
use Rattle.rr_graph.specs.node.Kind.TheVariants.{Chanx}
use Rattle.rr_graph.specs.Fabric.{Fabric, numbers_below}
use Rattle.rr_graph.specs.Nodes.{node_count_of}
use Rattle.rr_graph.specs.Wires.{Place}
use Rattle.route_report.specs.Channels.{Channel, channel_with, channels_of, runs_at}
use Rattle.route_report.specs.Overused.{is_over}
use Rattle.report_run.specs.Texts.{digit_code}

-- 1 for each node that is overused by these uses, else 0
unfoldable pub over_flags : Fabric → (uses : List ℕ) → List ℕ
over_flags f uses = map (λ a. if is_over f uses a then 1 else 0) (numbers_below (node_count_of f))

-- how many overused wires run through each place of the channels
abbrev pub overused_channels : Fabric → (uses : List ℕ) → List Channel
overused_channels f uses = channels_of f (over_flags f uses)

-- node a is an overused wire that runs through the place
abbrev pub is_over_at : Fabric → (uses : List ℕ) → Place → ℕ → Bool
is_over_at f uses q a = runs_at f q a && is_over f uses a

abbrev pub no_channel : Channel
no_channel = channel_with Chanx 0 []

-- what is occupied at place m of channel i of a list, both from 0 on
abbrev pub occupied_at : List Channel → (i m : ℕ) → ℕ
occupied_at channels i m = get_or (get_or channels i no_channel).occupied m 0

-- the channel right of a column, in the list that has those above the rows first
abbrev pub right_of : Fabric → (column : ℕ) → ℕ
right_of f column = f.ny + 1 + column

-- the byte for a place: a digit or a letter for what is occupied, or `!` if a wire is overused
abbrev pub place_code : (occupied over : ℕ) → ℕ
place_code n over = if nat_lt 0 over then 33 else digit_code n

-- place m of channel i, and the byte right of it
unfoldable pub cell_text : (all over : List Channel) → (i m right : ℕ) → List ℕ
cell_text all over i m right = place_code (occupied_at all i m) (occupied_at over i m) ∷ right ∷ []

-- place m of the channel above a row, and the `+` right of it, where channels meet
abbrev pub crossing_at : (all over : List Channel) → (row m : ℕ) → List ℕ
crossing_at all over row m = cell_text all over row m 43

-- the channel above a row
unfoldable pub crossing_line : Fabric → (all over : List Channel) → (row : ℕ) → List ℕ
crossing_line f all over row =
    codes "    +" ++ (flat_map (crossing_at all over row) (numbers_below f.nx) ++ codes "\n")

-- place m of the channel right of a column, and the `.` of the block right of it
abbrev pub block_at : Fabric → (all over : List Channel) → (m column : ℕ) → List ℕ
block_at f all over m column = cell_text all over (right_of f column) m 46

-- the blanks before a number, so that it ends in the third column of text
abbrev pub blanks_before : ℕ → List ℕ
blanks_before n = if nat_lt n 10 then codes "  " else (if nat_lt n 100 then codes " " else [])

unfoldable pub row_number : ℕ → List ℕ
row_number n = blanks_before n ++ decimal n

-- row m, from 0 on, of blocks, between its numbers: the blocks, and the places beside them of the
-- channels right of the columns
unfoldable pub blocks_line : Fabric → (all over : List Channel) → (m : ℕ) → List ℕ
blocks_line f all over m =
    row_number (m + 1) ++ (codes " " ++ (flat_map (block_at f all over m) (numbers_below f.nx)
    ++ (cell_text all over (right_of f f.nx) m 32 ++ (row_number (m + 1) ++ codes "\n"))))

-- the row of blocks that has k rows above it, and the channel below it
unfoldable pub row_lines : Fabric → (all over : List Channel) → (k : ℕ) → List ℕ
row_lines f all over k =
    blocks_line f all over (f.ny - 1 - k) ++ crossing_line f all over (f.ny - 1 - k)

-- a digit of the number of column k, from 0 on, or a blank if the number has no such digit
abbrev pub column_code : (unit k : ℕ) → ℕ
column_code unit k = if nat_le unit (k + 1) then digit_code ((k + 1) / unit % 10) else 32

unfoldable pub column_digit : (unit k : ℕ) → List ℕ
column_digit unit k = 32 ∷ column_code unit k ∷ []

-- a digit of the numbers of the columns
unfoldable pub digit_line : (columns unit : ℕ) → List ℕ
digit_line columns unit = codes "    " ++ (flat_map (column_digit unit) (numbers_below columns) ++ codes "\n")

-- its line, if there is a column that has it
abbrev pub axis_line : (columns unit : ℕ) → List ℕ
axis_line columns unit = if nat_le unit columns then digit_line columns unit else []

-- the numbers of the columns, read downward
unfoldable pub axis_lines : (columns : ℕ) → List ℕ
axis_lines columns = axis_line columns 100 ++ (axis_line columns 10 ++ axis_line columns 1)

-- the most columns of an array whose map is at most 80 characters wide
abbrev pub most_mapped : ℕ
most_mapped = 35

-- `map`, or as `map, 81 characters wide`, if that is more than 80
unfoldable pub map_head : (columns : ℕ) → List ℕ
map_head columns =
    if nat_le columns most_mapped then codes "map\n"
    else (codes "map, " ++ (decimal (columns * 2 + 9) ++ codes " characters wide\n"))

-- its head, all rows from the top, and the numbers of the columns
unfoldable pub map_text : Fabric → (all over : List Channel) → List ℕ
map_text f all over =
    map_head f.nx ++ (crossing_line f all over f.ny
    ++ (flat_map (row_lines f all over) (numbers_below f.ny) ++ axis_lines f.nx))

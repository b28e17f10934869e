-- The text of a log (ours): lines with `#` describe the run. After the titles, each iteration has a
-- line.
use Rattle.std.specs.Prelude.{ℕ, ◌-◌, ◌*◌, ◌/◌, ◌%◌, Bool, false, true, List, [], ◌++◌, Option, Some, None, codes, decimal, length, option_copied, take}
use Rattle.rr_graph.specs.node.Mode.{Mode}
use Rattle.rr_graph.specs.node.Mode.TheVariants.{Detailed, Global}
use Rattle.rr_graph.specs.Problems.{RoutingProblem}
use Rattle.node_cost.specs.Options.{RouterOptions, present_of}
use Rattle.congestion_book.specs.Contents.{Content}
use Rattle.run_schedule.specs.HeadLines.{amount_text, entry_text, options_text}
use Rattle.run_log.specs.declared.run_files.RunFiles.{RunFiles}
use Rattle.congestion_book.specs.Recorded.{excess_in, overused_in, unrouted_in, wirelength_in}

-- ---- the head

-- the size of an array, as `# array 11 x 9 blocks`
unfoldable pub array_text : (nx ny : ℕ) → List ℕ
array_text nx ny = codes "# array " ++ (decimal nx ++ (codes " x " ++ (decimal ny ++ codes " blocks\n")))

abbrev pub mode_name : Mode → List ℕ
mode_name Detailed = codes "detailed"
mode_name Global = codes "global"

-- a name that may have a value
abbrev pub given_text : (name : List ℕ) → Option (List ℕ) → List ℕ
given_text name None = []
given_text name (Some value) = entry_text name value

-- the files of the run, and its schedules, if it has any
unfoldable pub files_text : RunFiles → List ℕ
files_text f =
    entry_text (codes "net") f.net.now
    ++ (entry_text (codes "arch") f.arch.now
    ++ (entry_text (codes "place") f.place.now
    ++ (entry_text (codes "route") f.route.now
    ++ (given_text (codes "schedule") (option_copied f.schedule) ++ given_text (codes "follow") (option_copied f.follow)))))

-- the problem of the first negotiation
unfoldable pub problem_text : RoutingProblem → List ℕ
problem_text p =
    array_text p.device.nx p.device.ny
    ++ (amount_text (codes "nets") (length p.nets) []
    ++ (entry_text (codes "routing") (mode_name p.device.mode) ++ amount_text (codes "width") p.device.width (codes " tracks")))

-- the titles of the columns
abbrev pub titles_text : List ℕ
titles_text = codes "width iteration    present overused   excess unrouted wirelength   seconds\n"

-- the line that nets keep to the trees that they have, if they do
abbrev pub steady_text : Bool → List ℕ
steady_text false = []
steady_text true = entry_text (codes "steady") (codes "yes")

-- the head: the version of the program, the files, the problem and the options
unfoldable pub head_text : (program : List ℕ) → RunFiles → RoutingProblem → (workers : ℕ) → RouterOptions → List ℕ
head_text program files p workers o =
    entry_text (codes "pathfinder") program
    ++ (files_text files
    ++ (problem_text p ++ (amount_text (codes "workers") workers [] ++ (options_text o ++ (steady_text o.steady ++ titles_text)))))

-- ---- columns

-- a text in at least this many places; a shorter text is preceded by a front of the filling
unfoldable pub filled_text : (filling : List ℕ) → (places : ℕ) → List ℕ → List ℕ
filled_text filling places text = take (places - length text) filling ++ text

-- a text right-aligned in this many places, at most ten
abbrev pub column_text : (places : ℕ) → List ℕ → List ℕ
column_text places text = filled_text (codes "          ") places text

-- the digits after a decimal point, in this many places, at most four
abbrev pub part_text : (places : ℕ) → List ℕ → List ℕ
part_text places text = filled_text (codes "0000") places text

-- a number with this many places after the decimal point
unfoldable pub point_text : (whole : List ℕ) → (places : ℕ) → (part : List ℕ) → List ℕ
point_text whole places part = column_text 5 whole ++ (codes "." ++ part_text places part)

-- a number of sixteenths, as `    0.5000` of 8
abbrev pub sixteenths_text : ℕ → List ℕ
sixteenths_text n = point_text (decimal (n / 16)) 4 (decimal (n % 16 * 625))

-- a number of milliseconds, in seconds
abbrev pub seconds_text : ℕ → List ℕ
seconds_text n = point_text (decimal (n / 1000)) 3 (decimal (n % 1000))

-- the columns for the width, the iteration and the present-congestion factor
unfoldable pub iteration_text : (width iteration present : ℕ) → List ℕ
iteration_text width iteration present =
    column_text 5 (decimal width) ++ (codes " " ++ (column_text 9 (decimal iteration) ++ (codes " " ++ sixteenths_text present)))

-- the columns for what the iteration left
unfoldable pub figures_text : (overused excess unrouted wirelength : ℕ) → List ℕ
figures_text overused excess unrouted wirelength =
    codes " "
    ++ (column_text 8 (decimal overused)
    ++ (codes " " ++ (column_text 8 (decimal excess) ++ (codes " " ++ (column_text 8 (decimal unrouted) ++ (codes " " ++ column_text 10 (decimal wirelength)))))))

-- the time at which the iteration ended, and the end of the line
unfoldable pub time_text : (milliseconds : ℕ) → List ℕ
time_text milliseconds = codes " " ++ (seconds_text milliseconds ++ codes "\n")

-- the line of an iteration by these options, from the book that it left, this many milliseconds
-- after the beginning
unfoldable pub row_text : RouterOptions → (iteration : ℕ) → Content → (milliseconds : ℕ) → List ℕ
row_text o iteration c milliseconds =
    iteration_text c.problem.device.width iteration (present_of o iteration)
    ++ (figures_text (overused_in c.problem c.lists) (excess_in c.problem c.lists) (unrouted_in c.lists) (wirelength_in c.problem c.lists)
    ++ time_text milliseconds)

-- ---- the outcome of a trial of a width

-- a routing, after this many iterations
unfoldable pub trial_routed_text : (width iterations : ℕ) → List ℕ
trial_routed_text width iterations =
    codes "# width " ++ (decimal width ++ (codes ": routed, iterations " ++ (decimal iterations ++ codes "\n")))

-- no routing: this many nets without a tree and overused nodes, after this many iterations
unfoldable pub trial_left_text : (width unrouted overused iterations : ℕ) → List ℕ
trial_left_text width unrouted overused iterations =
    codes "# width "
    ++ (decimal width
    ++ (codes ": not routed: unrouted "
    ++ (decimal unrouted ++ (codes ", overused " ++ (decimal overused ++ (codes ", iterations " ++ (decimal iterations ++ codes "\n")))))))

-- The text of a schedule (ours): lines with `#` describe the run. After the titles, each turn has a
-- line, below the lines of its trial and its iteration.
use Rattle.std.specs.Prelude.{ℕ, ◌+◌, List, [], ◌∷◌, ◌++◌, codes, decimal}
use Rattle.std.specs.List.{flat_map}
use Rattle.gates.specs.declared.schedule.ScheduledTurn.{ScheduledTurn}
use Rattle.run_schedule.specs.HeadLines.{amount_text, entry_text, options_text}
use Rattle.run_schedule.specs.Schedules.{TrialTurns}
use Rattle.run_schedule.specs.declared.head.Head.{Head}

-- ---- the head

-- the program, the command and the sums of the files
unfoldable pub run_text : (program command net arch place : List ℕ) → List ℕ
run_text program command net arch place =
    entry_text (codes "pathfinder") program
    ++ (entry_text (codes "schedule of") command
    ++ (entry_text (codes "net") net ++ (entry_text (codes "arch") arch ++ entry_text (codes "place") place)))

unfoldable pub head_text : Head → List ℕ
head_text h =
    run_text h.program.now h.command.now h.net.now h.arch.now h.place.now
    ++ (amount_text (codes "workers") h.workers [] ++ (options_text h.settings ++ amount_text (codes "nets") h.nets []))

-- the titles of the columns
abbrev pub titles_text : List ℕ
titles_text = codes "net worker seen\n"

-- ---- the trials

-- a turn, as `7 0 12`
unfoldable pub turn_text : ScheduledTurn → List ℕ
turn_text t = decimal t.net ++ (codes " " ++ (decimal t.worker ++ (codes " " ++ (decimal t.seen ++ codes "\n"))))

abbrev pub turns_text : List ScheduledTurn → List ℕ
turns_text turns = flat_map turn_text turns

-- a word and its number, as `width 6`
unfoldable pub numbered_text : (word : List ℕ) → (number : ℕ) → List ℕ
numbered_text word number = word ++ (codes " " ++ (decimal number ++ codes "\n"))

-- the iteration with this number, which is counted from 1
unfoldable pub iteration_text : (number : ℕ) → List ScheduledTurn → List ℕ
iteration_text number turns = numbered_text (codes "iteration") number ++ turns_text turns

-- iterations; the first has this number
abbrev pub iterations_text : (number : ℕ) → List (List ScheduledTurn) → List ℕ
iterations_text number [] = []
iterations_text number (turns ∷ later) = iteration_text number turns ++ iterations_text (number + 1) later

unfoldable pub trial_text : TrialTurns → List ℕ
trial_text t = numbered_text (codes "width") t.width ++ iterations_text 1 t.iterations

abbrev pub trials_text : List TrialTurns → List ℕ
trials_text trials = flat_map trial_text trials

-- the last line
abbrev pub end_text : List ℕ
end_text = codes "end\n"

-- all of a schedule
unfoldable pub schedule_text : (head : List ℕ) → List TrialTurns → List ℕ
schedule_text head trials = head ++ (titles_text ++ (trials_text trials ++ end_text))

-- What is kept of the lines so far.
use Rattle.std.specs.Prelude.{◌≡◌, ℕ, if◌then◌else◌, List, Option, None}
use Rattle.vpr_text.specs.Words.{Line}
use Rattle.net_file.specs.declared.fault.LineFault.{LineFault}
use Rattle.net_file.specs.declared.terminal.BlockKind.{BlockKind}
use Rattle.net_file.specs.declared.seen.Seen.{Seen}
use Rattle.net_file.specs.Judge.{first_fault, is_bad_line, is_bad_count, is_double, are_too_many}
use Rattle.net_file.specs.Lines.{kind_at, is_element, block_name_on, net_names_on, global_names_on, block_names, net_names, global_names}
use Rattle.net_file.specs.Lines as lines
use Rattle.net_file.specs.Names.{with_names}

-- seen is what these lines say
pub record IsSeen (before : List Line) (seen : Seen) : Type 0 where
  pub opened : seen.opened ≡ lines.opened before
  pub latest : seen.latest ≡ lines.latest before
  pub blocks : seen.blocks ≡ block_names before
  pub nets : seen.nets ≡ net_names before
  pub globals : seen.globals ≡ global_names before

-- the block that lines describe last, after a line with these words
abbrev pub latest_after : Option BlockKind → List (List ℕ) → Option BlockKind
latest_after latest words = if is_element words then kind_at words else latest

-- a line with these words was added
pub record Notes (old new : Seen) (words : List (List ℕ)) : Type 0 where
  pub opened : new.opened ≡ kind_at words
  pub latest : new.latest ≡ latest_after old.latest words
  pub blocks : new.blocks ≡ with_names old.blocks (block_name_on words)
  pub nets : new.nets ≡ with_names old.nets (net_names_on words)
  pub globals : new.globals ≡ with_names old.globals (global_names_on words)

-- the first fault of a line with these words
unfoldable pub fault_after : ℕ → Seen → List (List ℕ) → Option LineFault
fault_after pins seen words =
    first_fault (is_bad_line seen.opened seen.latest words)
    (is_bad_count pins seen.opened words)
    (is_double seen.blocks words)
    (are_too_many (with_names seen.blocks (block_name_on words)) (with_names seen.nets (net_names_on words)))

-- a line with these words was judged, and added if it has no fault
pub record Judges (pins : ℕ) (old new : Seen) (words : List (List ℕ)) (fault : Option LineFault) : Type 0 where
  pub is : fault ≡ fault_after pins old words
  pub added : fault ≡ None → Notes old new words

-- what these lines say
abbrev pub seen_of : List Line → Seen
seen_of before =
    record {
      opened = lines.opened before;
      latest = lines.latest before;
      blocks = block_names before;
      nets = net_names before;
      globals = global_names before;
    }

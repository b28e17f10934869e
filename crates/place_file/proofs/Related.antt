-- Reading is the relation between a text and its placement: each gives the other.
use Rattle.std.proofs.Common.{◌≡◌, ℕ, ◌+◌, ◌<◌, true, not, List, [], ◌∷◌, length, map, Option, None, Some, Result, Ok, refl, sym, ap, ◌∙◌, arith}
use Rattle.std.specs.Prelude.{is_some, IfOk}
use Rattle.std.specs.Option.{option_map}
use Rattle.std.specs.List.{filter_map, position_from}
use Rattle.std.proofs.lemmas.Bool.Decides.{nat_tests}
use Rattle.std.proofs.lemmas.Iterator.Adapters.{position_from-zero}
use Rattle.vpr_text.specs.Readings.{Gives, with_fault}
use Rattle.vpr_text.specs.Words.{Line}
use Rattle.vpr_text.specs.Text.{lines_of}
use Rattle.vpr_text.specs.Word.{number_or_0}
use Rattle.vpr_text.proofs.Readings.{bind_ok, given_ok, given_only, not_faulty, with_fault_ok}
use Rattle.net_file.specs.Netlist.{Block}
use Rattle.place_file.specs.declared.fault.PlaceFault.{PlaceFault}
use Rattle.place_file.specs.declared.fault.PlaceFault.TheVariants as place
use Rattle.place_file.specs.declared.site.Array.{Array}
use Rattle.place_file.specs.declared.site.Site.{Site}
use Rattle.place_file.specs.Judge.{header_fault, rows_fault_from, is_size}
use Rattle.place_file.specs.Lines.{is_title, is_size_line, array_on}
use Rattle.place_file.specs.Placement.{Placement, IsPlaced, IsWithinLimits, array_of}
use Rattle.place_file.specs.Reading.{first_missing, completed, placing, reading, placement_of}
use Rattle.place_file.specs.Reads.{AreRows, ReadsPlace, ReadsBytes}
use Rattle.place_file.specs.Sites.{sites_in}
use Rattle.place_file.proofs.OneRowEach.{rows_faultless, rows_give, rows_are}
use Rattle.place_file.proofs.Placed.{all_some, not_missing, ok_from, placed_rows}
use Rattle.place_file.proofs.Steps.{header_good, header_faultless}

-- ---- the rows

filled : (k : ℕ) (ys : List Site) → (position_from (λ s. not (is_some s)) k (map Some ys) ≡ None) × (filter_map (λ s. s) (map Some ys) ≡ ys)
filled k [] = (refl, refl)
filled k (y ∷ ys) = let rest = filled (k + 1) ys in (rest.0, ap (λ zs. y ∷ zs) rest.1)

all_given : (array : Array) (ys : List Site) → completed array (map Some ys) ≡ Ok (record { nx = array.nx; ny = array.ny; sites = ys })
unfolding completed
all_given array ys =
    let none : first_missing (map Some ys) ≡ None = position_from-zero (λ (s : Option Site). not (is_some s)) (map Some ys) ∙ (filled 0 ys).0 in
    rw (none, (filled 0 ys).1) refl

rows_given : (io_rat : ℕ) (blocks : List Block) (rows : List Line) (p : Placement) → AreRows blocks p rows → IsPlaced io_rat blocks p → placing (array_of io_rat p) blocks rows ≡ Ok p
unfolding placing
rows_given io_rat blocks rows p h placed =
    rw (rows_faultless blocks p rows h io_rat placed, rows_give blocks p rows h io_rat placed) (all_given (array_of io_rat p) p.sites)

-- rows that are read are those of a placement that has the array's size
record AreRead (array : Array) (blocks : List Block) (rows : List Line) (p : Placement) : Type 0 where
  nx : p.nx ≡ array.nx
  ny : p.ny ≡ array.ny
  one_row_each : AreRows blocks p rows

rows_read : (array : Array) (blocks : List Block) (rows : List Line) (p : Placement) → placing array blocks rows ≡ Ok p → AreRead array blocks rows p
unfolding placing completed
rows_read array blocks rows p e =
    let sites = sites_in blocks rows in
    let good = not_faulty (rows_fault_from array blocks [] rows) _ p e in
    let whole = not_faulty (option_map place.Missing (first_missing sites)) _ p good.1 in
    let none = sym (position_from-zero (λ (s : Option Site). not (is_some s)) sites) ∙ not_missing (first_missing sites) whole.0 in
    let is = ok_from p p _ whole.1 in
    let made = all_some 0 sites none ∙ ap (λ q. map Some q.sites) is in
    record {
      nx = sym (ap (λ q. q.nx) is);
      ny = sym (ap (λ q. q.ny) is);
      one_row_each = rows_are array blocks rows good.0 p made (placed_rows array blocks rows p e).all;
    }

-- ---- the lines

long_enough : {P : Type 0} (io_rat : ℕ) (lines : List Line) → length lines < 2 → header_fault io_rat lines ≡ None → P
long_enough io_rat lines short e = absurd (omega (arith, short, (header_good io_rat lines e).long))

-- lines that are read are related to what is read
pub reads_related : (io_rat : ℕ) (blocks : List Block) (lines : List Line) (p : Placement) → reading io_rat blocks lines ≡ Ok p → ReadsPlace io_rat blocks lines p
unfolding reading
reads_related io_rat blocks [] p e = long_enough io_rat [] (omega arith) (not_faulty (header_fault io_rat []) _ p e).0
reads_related io_rat blocks (t ∷ []) p e = long_enough io_rat (t ∷ []) (omega arith) (not_faulty (header_fault io_rat (t ∷ [])) _ p e).0
reads_related io_rat blocks (t ∷ s ∷ rows) p e =
    let lines = t ∷ s ∷ rows in
    let good = not_faulty (header_fault io_rat lines) _ p e in
    let head = header_good io_rat lines good.0 in
    let array = array_on io_rat lines in
    let read = rows_read array blocks rows p good.1 in
    let size = head.size in
    let nx = read.nx in
    let ny = read.ny in
    record {
      title = t;
      size = s;
      rows = rows;
      whole = refl;
      title_line = head.title;
      size_line = head.size_line;
      nx = nx;
      ny = ny;
      limits = record { some_columns = grind (arith, nat_tests, size, nx); few_columns = grind (arith, nat_tests, size, nx); some_rows = grind (arith, nat_tests, size, ny); few_rows = grind (arith, nat_tests, size, ny) };
      one_row_each = read.one_row_each;
      placed = placed_rows array blocks rows p good.1;
    }

given_by : (io_rat : ℕ) (blocks : List Block) (t s : Line) (rows : List Line) (p : Placement) → is_title t.words ≡ true → is_size_line s.words ≡ true → p.nx ≡ number_or_0 s.words 2 → p.ny ≡ number_or_0 s.words 4
    → IsWithinLimits p → AreRows blocks p rows → IsPlaced io_rat blocks p → reading io_rat blocks (t ∷ s ∷ rows) ≡ Ok p
unfolding reading
given_by io_rat blocks t s rows p title size_line nx ny limits once placed =
    let lines = t ∷ s ∷ rows in
    let same : array_on io_rat lines ≡ array_of io_rat p = λ i. record { io_rat = io_rat; nx = sym nx i; ny = sym ny i } in
    let few_columns = limits.few_columns in
    let some_columns = limits.some_columns in
    let few_rows = limits.few_rows in
    let some_rows = limits.some_rows in
    let fits : is_size (array_of io_rat p) ≡ true = grind (arith, nat_tests, some_columns, few_columns, some_rows, few_rows) in
    let head = header_faultless io_rat lines (record { long = omega arith; title = title; size_line = size_line; size = ap is_size same ∙ fits }) in
    rw head (ap (λ array. placing array blocks rows) same ∙ rows_given io_rat blocks rows p once placed)

reads_given : (io_rat : ℕ) (blocks : List Block) (lines : List Line) (p : Placement) → ReadsPlace io_rat blocks lines p → reading io_rat blocks lines ≡ Ok p
reads_given io_rat blocks lines p h =
    ap (reading io_rat blocks) h.whole ∙ given_by io_rat blocks h.title h.size h.rows p h.title_line h.size_line h.nx h.ny h.limits h.one_row_each h.placed

-- ---- the bytes

is_read : (io_rat : ℕ) (blocks : List Block) (bytes : List ℕ) (p : Placement) → placement_of io_rat blocks bytes ≡ Ok p → ReadsBytes io_rat blocks bytes p
unfolding placement_of
is_read io_rat blocks bytes p e =
    let b = bind_ok (with_fault place.Text (lines_of bytes)) (reading io_rat blocks) p e in
    record { lines = b.0; is_text = with_fault_ok place.Text (lines_of bytes) b.0 b.1; reads = reads_related io_rat blocks b.0 p b.2 }

-- a text that is a placement gives it
pub is_given : (io_rat : ℕ) (blocks : List Block) (bytes : List ℕ) (p : Placement) → ReadsBytes io_rat blocks bytes p → placement_of io_rat blocks bytes ≡ Ok p
unfolding placement_of
is_given io_rat blocks bytes p h =
    let first : placement_of io_rat blocks bytes ≡ reading io_rat blocks h.lines = rw h.is_text refl in
    first ∙ reads_given io_rat blocks h.lines p h.reads

-- what a reader gave is the placement of the text
pub found : (io_rat : ℕ) (blocks : List Block) (bytes : List ℕ) (r : Result Placement PlaceFault) → Gives place.Memory (λ p. p) r (placement_of io_rat blocks bytes) → IfOk r (ReadsBytes io_rat blocks bytes)
found io_rat blocks bytes r given = given_ok place.Memory (ReadsBytes io_rat blocks bytes) r (placement_of io_rat blocks bytes) given (is_read io_rat blocks bytes)

-- and a text that is a placement is read as it
pub only : (io_rat : ℕ) (blocks : List Block) (bytes : List ℕ) (r : Result Placement PlaceFault) → Gives place.Memory (λ p. p) r (placement_of io_rat blocks bytes) → (p : Placement) → ReadsBytes io_rat blocks bytes p → Gives place.Memory (λ q. q) r (Ok p)
only io_rat blocks bytes r given p reads = given_only place.Memory r (placement_of io_rat blocks bytes) p given (is_given io_rat blocks bytes p reads)

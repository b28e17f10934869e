-- Reading is the relation between a text and its netlist: each gives the other.
use Rattle.std.proofs.Common.{◌≡◌, ℕ, zero, suc, ◌<◌, ◌≤◌, cond, List, [], ◌∷◌, ◌++◌, length, fold, Option, Some, None, Result, Ok, inl, inr, refl, sym, ap, ◌∙◌, add-one, arith, eq-or-lt_of_le}
use Rattle.std.specs.Prelude.{is_some}
use Rattle.std.specs.List.{range_with_len}
use Rattle.std.specs.Option.{option_or}
use Rattle.std.proofs.lemmas.List.{append-nil, append_assoc}
use Rattle.vpr_text.specs.Readings.{with_fault}
use Rattle.vpr_text.specs.Words.{Line}
use Rattle.vpr_text.specs.Text.{lines_of}
use Rattle.vpr_text.proofs.Readings.{bind_ok, not_faulty, with_fault_ok}
use Rattle.arch_file.specs.declared.entries.Pin.{Pin}
use Rattle.net_file.specs.declared.fault.LineFault.{LineFault}
use Rattle.net_file.specs.declared.fault.NetFault.{NetFault}
use Rattle.net_file.specs.declared.fault.NetFault.TheVariants as net
use Rattle.net_file.specs.declared.terminal.BlockKind.{BlockKind}
use Rattle.net_file.specs.Judge.{fault_of_next}
use Rattle.net_file.specs.Lines.{net_names, global_names, opened}
use Rattle.net_file.specs.Netlist.{Netlist}
use Rattle.net_file.specs.Reading.{or_else, line_fault_from, rows_of, completed, reading, netlist_of}
use Rattle.net_file.specs.Reads.{AreAccepted, ReadsNet, ReadsBytes}
use Rattle.net_file.specs.WholeFile.{fault_at, whole_fault}
use Rattle.net_file.proofs.Ranges.{fold_next}

-- ---- the lines

none_of_both : (f : Option LineFault) (n : ℕ) (rest : Option NetFault) → or_else f n rest ≡ None → (f ≡ None) × (rest ≡ None)
none_of_both None n rest e = (refl, e)
none_of_both (Some x) n rest e = absurd cc

no_element : (o : Option BlockKind) (fault : NetFault) → cond (is_some o) (Some fault) None ≡ None → o ≡ None
no_element None fault e = refl
no_element (Some kind) fault e = absurd cc

pub accepted : (pins : ℕ) (before ls : List Line) → line_fault_from pins before ls ≡ None → AreAccepted pins before ls × (opened (before ++ ls) ≡ None)
unfolding line_fault_from
accepted pins before [] e = (tt, ap opened (append-nil before) ∙ no_element (opened before) _ e)
accepted pins before (l ∷ ls) e =
    let both = none_of_both (fault_of_next pins before l) l.number (line_fault_from pins (before ++ l ∷ []) ls) e in
    let rest = accepted pins (before ++ l ∷ []) ls both.1 in
    ((both.0, rest.0), ap opened (sym (append_assoc before (l ∷ []) ls)) ∙ rest.1)

faultless : (pins : ℕ) (before ls : List Line) → AreAccepted pins before ls → opened (before ++ ls) ≡ None → line_fault_from pins before ls ≡ None
unfolding line_fault_from
faultless pins before [] h e = rw (sym (ap opened (append-nil before)) ∙ e) refl
faultless pins before (l ∷ ls) h e = rw h.0 (faultless pins (before ++ l ∷ []) ls h.1 (ap opened (append_assoc before (l ∷ []) ls) ∙ e))

-- ---- the nets

neither : (a b : Option NetFault) → option_or a b ≡ None → (a ≡ None) × (b ≡ None)
neither None b e = (refl, e)
neither (Some x) b e = absurd cc

abbrev first_of : (ℕ → Option NetFault) → ℕ → Option NetFault
first_of f n = fold (λ found k. option_or found (f k)) None (range_with_len 0 n)

first_next : (f : ℕ → Option NetFault) (n : ℕ) → first_of f (suc n) ≡ option_or (first_of f n) (f n)
first_next f n = ap (first_of f) (sym (add-one n)) ∙ fold_next (λ found k. option_or found (f k)) None n

pub each_none : (f : ℕ → Option NetFault) (n : ℕ) → first_of f n ≡ None → (k : ℕ) → k < n → f k ≡ None
each_none f zero e k lt = absurd (omega (arith, lt))
each_none f (suc n) e k lt =
    let both = neither (first_of f n) (f n) (sym (first_next f n) ∙ e) in
    let below : k ≤ n = omega (arith, lt) in
    elim (eq-or-lt_of_le below) [
      | inl last ↦ ap f last ∙ both.1
      | inr less ↦ each_none f n both.0 k less
    ]

all_none : (f : ℕ → Option NetFault) (n : ℕ) → ((k : ℕ) → k < n → f k ≡ None) → first_of f n ≡ None
all_none f zero h = refl
all_none f (suc n) h = first_next f n ∙ rw (all_none f n (λ k lt. h k (omega (arith, lt))), h n (omega arith)) refl

-- ---- the netlist

abbrev read_as : {X : Type 0} → X → Result X NetFault
read_as a = Ok a

same_value : {X : Type 0} (a b : X) → read_as a ≡ read_as b → b ≡ a
same_value a b e = cc

reads_related : (pins : List Pin) (ls : List Line) (n : Netlist) → reading pins ls ≡ Ok n → ReadsNet pins ls n
unfolding reading completed whole_fault
reads_related pins ls n e =
    let lined = not_faulty (line_fault_from (length pins) [] ls) _ n e in
    let whole = not_faulty (whole_fault (net_names ls) (global_names ls) (rows_of pins (net_names ls) ls)) _ n lined.1 in
    let lines = accepted (length pins) [] ls lined.0 in
    record {
      each_line = lines.0;
      complete = lines.1;
      each_net = each_none (fault_at (net_names ls) (global_names ls) (rows_of pins (net_names ls) ls)) (length (net_names ls)) whole.0;
      value = same_value _ n whole.1;
    }

reads_given : (pins : List Pin) (ls : List Line) (n : Netlist) → ReadsNet pins ls n → reading pins ls ≡ Ok n
unfolding reading completed whole_fault
reads_given pins ls n h =
    let lined = faultless (length pins) [] ls h.each_line h.complete in
    let whole = all_none (fault_at (net_names ls) (global_names ls) (rows_of pins (net_names ls) ls)) (length (net_names ls)) h.each_net in
    rw (lined, whole) (ap Ok (sym h.value))

-- ---- the bytes

pub is_read : (pins : List Pin) (bytes : List ℕ) (n : Netlist) → netlist_of pins bytes ≡ Ok n → ReadsBytes pins bytes n
unfolding netlist_of
is_read pins bytes n e =
    let b = bind_ok (with_fault net.Text (lines_of bytes)) (reading pins) n e in
    record { lines = b.0; is_text = with_fault_ok net.Text (lines_of bytes) b.0 b.1; reads = reads_related pins b.0 n b.2 }

pub is_given : (pins : List Pin) (bytes : List ℕ) (n : Netlist) → ReadsBytes pins bytes n → netlist_of pins bytes ≡ Ok n
unfolding netlist_of
is_given pins bytes n h =
    let first : netlist_of pins bytes ≡ reading pins h.lines = rw h.is_text refl in
    first ∙ reads_given pins h.lines n h.reads

-- Reading is the relation between a text and its architecture: each gives the other.
use Rattle.std.proofs.Common.{◌≡◌, ℕ, Bool, true, false, cond, List, [], ◌∷◌, ◌++◌, Option, Some, None, Result, Ok, Err, refl, sym, ap, ◌∙◌}
use Rattle.std.specs.Prelude.{MatchBool}
use Rattle.vpr_text.specs.Readings.{◌>>=◌, with_fault}
use Rattle.vpr_text.specs.Words.{Line}
use Rattle.vpr_text.specs.Text.{lines_of}
use Rattle.vpr_text.proofs.Readings.{bind_ok, with_fault_ok}
use Rattle.arch_file.specs.declared.fault.ArchFault.TheVariants as arch
use Rattle.arch_file.specs.declared.fault.Entry.{Entry}
use Rattle.arch_file.specs.declared.fault.LineFault.{LineFault}
use Rattle.arch_file.specs.declared.line.ArchLine.{ArchLine}
use Rattle.arch_file.specs.Architecture.{Architecture}
use Rattle.arch_file.specs.Judge.{is_passed, judge}
use Rattle.arch_file.specs.Reading.{at_number, entries_from, missing_of, architecture_from, completed, reading, arch_of}
use Rattle.arch_file.specs.Reads.{AreEntries, ReadsArch, ReadsBytes}

one_related : (b : Bool) (j : Result ArchLine LineFault) (n : ℕ) (before : List ArchLine) (ls : List Line) (es : List ArchLine)
    → ((front : List ArchLine) → entries_from front ls ≡ Ok es → AreEntries front ls es)
    → cond b (entries_from before ls) (at_number n j >>= λ x. entries_from (before ++ x ∷ []) ls) ≡ Ok es
    → MatchBool b (AreEntries before ls es) ((x : ArchLine) × (j ≡ Ok x) × AreEntries (before ++ x ∷ []) ls es)
one_related true j n before ls es rest e = rest before e
one_related false (Ok x) n before ls es rest e = (x, refl, rest (before ++ x ∷ []) e)
one_related false (Err f) n before ls es rest e = absurd cc

entries_related : (before : List ArchLine) (ls : List Line) (es : List ArchLine) → entries_from before ls ≡ Ok es → AreEntries before ls es
unfolding entries_from
entries_related before [] es e = cc
entries_related before (l ∷ ls) es e = one_related (is_passed l.words) (judge before l.words) l.number before ls es (λ front h. entries_related front ls es h) e

one_given : (b : Bool) (j : Result ArchLine LineFault) (n : ℕ) (before : List ArchLine) (ls : List Line) (es : List ArchLine)
    → ((front : List ArchLine) → AreEntries front ls es → entries_from front ls ≡ Ok es)
    → MatchBool b (AreEntries before ls es) ((x : ArchLine) × (j ≡ Ok x) × AreEntries (before ++ x ∷ []) ls es)
    → cond b (entries_from before ls) (at_number n j >>= λ x. entries_from (before ++ x ∷ []) ls) ≡ Ok es
one_given true j n before ls es rest h = rest before h
one_given false j n before ls es rest h = rw h.1 (rest (before ++ h.0 ∷ []) h.2)

entries_given : (before : List ArchLine) (ls : List Line) (es : List ArchLine) → AreEntries before ls es → entries_from before ls ≡ Ok es
unfolding entries_from
entries_given before [] es h = cc
entries_given before (l ∷ ls) es h = one_given (is_passed l.words) (judge before l.words) l.number before ls es (λ front k. entries_given front ls es k) h

completed_ok : (es : List ArchLine) (m : Option Entry) (a : Architecture) → completed es m ≡ Ok a → (m ≡ None) × (a ≡ architecture_from es)
completed_ok es None a e = (refl, cc)
completed_ok es (Some x) a e = absurd cc

reads_related : (ls : List Line) (a : Architecture) → reading ls ≡ Ok a → ReadsArch ls a
unfolding reading
reads_related ls a e =
    let b = bind_ok (entries_from [] ls) (λ es. completed es (missing_of es)) a e in
    let c = completed_ok b.0 (missing_of b.0) a b.2 in
    record { entries = b.0; each_line = entries_related [] ls b.0 b.1; complete = c.0; value = c.1 }

reads_given : (ls : List Line) (a : Architecture) → ReadsArch ls a → reading ls ≡ Ok a
unfolding reading
reads_given ls a h =
    let given : reading ls ≡ Ok (architecture_from h.entries) = rw (entries_given [] ls h.entries h.each_line, h.complete) refl in
    given ∙ ap Ok (sym h.value)

pub is_read : (bytes : List ℕ) (a : Architecture) → arch_of bytes ≡ Ok a → ReadsBytes bytes a
unfolding arch_of
is_read bytes a e =
    let b = bind_ok (with_fault arch.Text (lines_of bytes)) reading a e in
    record { lines = b.0; is_text = with_fault_ok arch.Text (lines_of bytes) b.0 b.1; reads = reads_related b.0 a b.2 }

pub is_given : (bytes : List ℕ) (a : Architecture) → ReadsBytes bytes a → arch_of bytes ≡ Ok a
unfolding arch_of
is_given bytes a h =
    let first : arch_of bytes ≡ reading h.lines = rw h.is_text refl in
    first ∙ reads_given h.lines a h.reads

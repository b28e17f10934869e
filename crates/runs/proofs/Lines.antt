-- The lines of a listing, one after the other.
use Rattle.std.proofs.Common.{◌≡◌, ℕ, zero, suc, ◌+◌, ◌-◌, ◌≤◌, Bool, true, List, [], ◌++◌, Some, None, refl, sym, ap, subst, ◌∙◌, append_assoc, arith, codes, decimal, add-zero}
use Rattle.std.specs.Prelude.{Result, Ok, Err, IsOk, OnOk}
use Rattle.std.specs.List.{flat_map}
use Rattle.std.specs.Option.{option_map}
use Rattle.std.proofs.lemmas.List.{append-nil}
use Rattle.std.proofs.lemmas.Bool.{false≢true}
use Rattle.vpr_text.specs.declared.sink.ByteSink.{Ghosts}
use Rattle.text_output.specs.declared.printer.Printer.{Printer}
use Rattle.text_output.specs.Printing.{PrintsTo}
use Rattle.vpr_text.proofs.Printing.{breaks_more}
use Rattle.rr_graph.specs.node.Node.{Node}
use Rattle.rr_graph.specs.node.Label.{Label}
use Rattle.rr_graph.specs.node.Span.{Span}
use Rattle.rr_graph.specs.Fabric.{Fabric, numbers_below}
use Rattle.rr_graph.specs.Nodes.{node_at, label_of, span_of, capacity_of}
use Rattle.run_inputs.proofs.Lines.{lines_more}
use Rattle.runs.specs.Texts.{node_line}
use Rattle.runs.specs.ListedTypes.{if_asked, type_text}
use Rattle.text_output.specs.NodeTexts.{node_text}
use Rattle.runs.specs.Listing.{line_at, line_of}
use Rattle.route_file.proofs.NodeTexts.{some_is}

-- the lines of the first numbers begin those of all
lines_rest : (line : ℕ → List ℕ) (i k : ℕ) → (rest : List ℕ) × (flat_map line (numbers_below i) ++ rest ≡ flat_map line (numbers_below (i + k)))
lines_rest line i zero = ([], append-nil (flat_map line (numbers_below i)) ∙ ap (λ n. flat_map line (numbers_below n)) (sym (add-zero i)))
lines_rest line i (suc k) =
    let before = lines_rest line i k in
    let e : i + k + 1 ≡ i + suc k = omega arith in
    (before.0 ++ line (i + k), sym (append_assoc (flat_map line (numbers_below i)) before.0 (line (i + k))) ∙ (ap (λ (t : List ℕ). t ++ line (i + k)) before.1 ∙ (lines_more line (i + k) ∙ ap (λ n. flat_map line (numbers_below n)) e)))

pub lines_begin : (line : ℕ → List ℕ) (i n : ℕ) → i ≤ n → (rest : List ℕ) × (flat_map line (numbers_below i) ++ rest ≡ flat_map line (numbers_below n))
lines_begin line i n le =
    let found = lines_rest line i (n - i) in
    let e : i + (n - i) ≡ n = omega arith in
    (found.0, found.1 ∙ ap (λ m. flat_map line (numbers_below m)) e)

module _ {W : Type 0} {sink : Ghosts W} where
  -- what broke off may have had more after it
  pub prints_broken : {s t : Printer W} {x : List ℕ} (y : List ℕ) → PrintsTo sink s t x → t.buffer.broken ≡ true → PrintsTo sink s t (x ++ y)
  prints_broken {s} {t} {x} y p broken = record {
    same_sink = p.same_sink;
    sends = record {
      prints = λ e. absurd (false≢true (sym e ∙ broken));
      breaks = λ e f. breaks_more y (p.sends.breaks e f);
      stays = p.sends.stays;
    };
  }

  -- lines up to one after which the sink broke
  pub prints_broken_lines : {s t : Printer W} (line : ℕ → List ℕ) (i n : ℕ) → i ≤ n → PrintsTo sink s t (flat_map line (numbers_below i)) → t.buffer.broken ≡ true → PrintsTo sink s t (flat_map line (numbers_below n))
  prints_broken_lines {s} {t} line i n le p broken =
      let rest = lines_begin line i n le in subst (PrintsTo sink s t) rest.1 (prints_broken rest.0 p broken)

-- what is printed for a node is its line
pub line_text : (is_typed : Bool) (f : Fabric) (i : ℕ) (n : Node) (s : Span) (l : Label) (c : ℕ)
    → Some n ≡ node_at f i → Some s ≡ option_map (span_of f) (node_at f i) → Some l ≡ option_map (label_of f) (node_at f i) → Some c ≡ option_map (capacity_of f) (node_at f i)
    → decimal i ++ (codes " " ++ (node_text n.kind s l n.number ++ (codes " cap " ++ (decimal c ++ (if_asked is_typed (type_text f n) ++ codes "\n"))))) ≡ line_at is_typed f i
unfolding line_at node_line
line_text is_typed f i n s l c e es el ec =
    let s-is = some_is (span_of f) (node_at f i) n s e es in
    let l-is = some_is (label_of f) (node_at f i) n l e el in
    let c-is = some_is (capacity_of f) (node_at f i) n c e ec in
    let same : decimal i ++ (codes " " ++ (node_text n.kind s l n.number ++ (codes " cap " ++ (decimal c ++ (if_asked is_typed (type_text f n) ++ codes "\n"))))) ≡ node_line is_typed f i n = rw (s-is, l-is, c-is) refl in
    same ∙ ap (line_of is_typed f i) e

-- a number of no node has no line
pub no_line : (is_typed : Bool) (f : Fabric) (i : ℕ) → None ≡ node_at f i → [] ≡ line_at is_typed f i
unfolding line_at
no_line is_typed f i e = ap (line_of is_typed f i) e

-- what holds where a call succeeds, at a call that does
pub ok_gives : {T E P : Type 0} (r : Result T E) → IsOk r → OnOk r P → P
ok_gives (Ok x) i p = p
ok_gives (Err e) i p = absurd (false≢true i)

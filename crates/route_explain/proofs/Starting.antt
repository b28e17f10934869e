-- Where sections begin, with a line more.
use Rattle.std.proofs.Common.{◌≡◌, ℕ, ◌+◌, ◌<◌, ◌==◌, cond, List, length, get_or, set, replicate, Option, None, Some, inl, inr, refl, sym, ap, ◌∙◌, arith}
use Rattle.std.specs.List.{fold}
use Rattle.std.proofs.lemmas.Bool.{cases_eq, eq-eqb, ne_eqb}
use Rattle.std.proofs.lemmas.List.{get_or-replicate, get_or-set_other, get_or-set_same, length-replicate, length-set, same_lists}
use Rattle.std.proofs.lemmas.List.Sums.{fold_push}
use Rattle.vpr_text.specs.Words.{Line, words_at}
use Rattle.net_file.specs.Netlist.{Netlist}
use Rattle.rr_graph.specs.Fabric.{numbers_below}
use Rattle.rr_graph.proofs.Ranges.{below_next, get_below, length_below}
use Rattle.route_file.specs.Sections.{is_net, net_begun}
use Rattle.route_explain.specs.Lines.{begins_for, start_among, starts_among}
use Rattle.route_explain.specs.kept.Starts.{noted}

module _ (netlist : Netlist) (lines : List Line) (i : ℕ) where
  abbrev count : ℕ
  count = length netlist.nets

  next : (n : ℕ) → start_among netlist lines (i + 1) n ≡ cond (begins_for netlist lines n i) (i + 1) (start_among netlist lines i n)
  next n =
      ap (fold (λ start k. cond (begins_for netlist lines n k) (k + 1) start) 0) (below_next i)
      ∙ fold_push (λ start k. cond (begins_for netlist lines n k) (k + 1) start) 0 (numbers_below i) i

  size : (k : ℕ) → length (starts_among netlist lines k) ≡ count
  size k = length_below (start_among netlist lines k) count

  at : (k n d : ℕ) → n < count → get_or (starts_among netlist lines k) n d ≡ start_among netlist lines k n
  at k n d low = get_below (start_among netlist lines k) count n d low

  by_net : (o : Option ℕ) → net_begun netlist (words_at lines i) ≡ o → noted (starts_among netlist lines i) o (i + 1) ≡ starts_among netlist lines (i + 1)
  by_net None e =
      same_lists (starts_among netlist lines i) (starts_among netlist lines (i + 1)) (size i ∙ sym (size (i + 1)))
      (λ n d l.
      let low : n < count = omega (arith, l, size i) in
      at i n d low ∙ sym (at (i + 1) n d low ∙ next n ∙ ap (λ o. cond (is_net n o) (i + 1) (start_among netlist lines i n)) e))
  by_net (Some m) e =
      same_lists (set (starts_among netlist lines i) m (i + 1)) (starts_among netlist lines (i + 1)) (length-set (starts_among netlist lines i) m (i + 1) ∙ size i ∙ sym (size (i + 1)))
      (λ n d l.
      let low : n < count = omega (arith, l, size i, length-set (starts_among netlist lines i) m (i + 1)) in
      let new : get_or (starts_among netlist lines (i + 1)) n d ≡ cond (m == n) (i + 1) (start_among netlist lines i n) =
      at (i + 1) n d low ∙ next n ∙ ap (λ o. cond (is_net n o) (i + 1) (start_among netlist lines i n)) e in
      elim (cases_eq n m) [
        | inl same ↦ (
            let here : get_or (set (starts_among netlist lines i) m (i + 1)) n d ≡ i + 1 =
            ap (λ k. get_or (set (starts_among netlist lines i) m (i + 1)) k d) same ∙ get_or-set_same (starts_among netlist lines i) m (i + 1) d (omega (arith, low, same, size i)) in
            here ∙ sym (new ∙ ap (λ b. cond b (i + 1) (start_among netlist lines i n)) (eq-eqb m n (sym same))))
        | inr apart ↦ (
            get_or-set_other (starts_among netlist lines i) m n (i + 1) d apart ∙ at i n d low
            ∙ sym (new ∙ ap (λ b. cond b (i + 1) (start_among netlist lines i n)) (ne_eqb m n (λ e. apart (sym e)))))
      ])

  -- a line more is noted
  pub starts_more : noted (starts_among netlist lines i) (net_begun netlist (words_at lines i)) (i + 1) ≡ starts_among netlist lines (i + 1)
  starts_more = by_net (net_begun netlist (words_at lines i)) refl

-- no line begins a section
pub none_start : (netlist : Netlist) (lines : List Line) → replicate (length netlist.nets) 0 ≡ starts_among netlist lines 0
none_start netlist lines =
    let n = length netlist.nets in
    same_lists (replicate n 0) (starts_among netlist lines 0) (length-replicate {A = ℕ} n 0 ∙ sym (length_below (start_among netlist lines 0) n))
    (λ k d l.
    let low : k < n = omega (arith, l, length-replicate {A = ℕ} n 0) in
    get_or-replicate n k 0 d low ∙ sym (get_below (start_among netlist lines 0) n k d low))

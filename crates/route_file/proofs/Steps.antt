-- Reading line by line, as the loop does.
use Rattle.std.proofs.Common.{◌≡◌, ℕ, ◌+◌, ◌<◌, ◌≤◌, List, [], ◌∷◌, length, get_or, take, drop, Option, Some, None, Result, Ok, Err, sym, ap, subst, ◌∙◌, add-one, zero-add}
use Rattle.std.specs.List.{range_with_len}
use Rattle.std.specs.Option.{option_or}
use Rattle.std.proofs.Math.Seq.{drop-cons}
use Rattle.std.proofs.lemmas.List.{drop_all, take_all, take_more, ext_get_or, length-map}
use Rattle.std.proofs.lemmas.List.FromFn.{length-range_with_len, get_or-map-range_with_len}
use Rattle.vpr_text.specs.Words.{Line, no_line, number_at, words_at}
use Rattle.net_file.specs.Netlist.{Netlist}
use Rattle.rr_graph.specs.Fabric.{Fabric}
use Rattle.route_file.specs.declared.entry.FileEntry.{FileEntry}
use Rattle.route_file.specs.declared.fault.RouteFileFault.{RouteFileFault}
use Rattle.route_file.specs.declared.seen.Seen.{Seen}
use Rattle.route_file.specs.Judge.{judge, fault_in, line_fault, fault_from}
use Rattle.route_file.specs.kept.LinesSeen.{IsSeen, Notes, entry_after, routed_list, lists_by_net}
use Rattle.route_file.proofs.Adding.{line_added}
use Rattle.route_file.proofs.Judged.{judged_same}

module _ (netlist : Netlist) (f : Fabric) (ls : List Line) where
  abbrev line_at : ℕ → Line
  line_at i = get_or ls i no_line

  -- the fault of line i, and the first from line i on
  abbrev fault_of : ℕ → Option RouteFileFault
  fault_of i = line_fault netlist f (take i ls) (line_at i)

  abbrev first_from : ℕ → Option RouteFileFault
  first_from i = fault_from netlist f (take i ls) (drop i ls)

  opens : (i : ℕ) → i < length ls → first_from i ≡ option_or (fault_of i) (first_from (i + 1))
  unfolding fault_from
  opens i lt =
      let rest : drop i ls ≡ line_at i ∷ drop (i + 1) ls = rw add-one (drop-cons ls i no_line lt) in
      ap (fault_from netlist f (take i ls)) rest ∙ ap (λ front. option_or (fault_of i) (fault_from netlist f front (drop (i + 1) ls))) (sym (take_more ls i no_line lt))

  -- what the lines so far say is kept, and none of them is faulty
  abbrev pub IsSoFar : ℕ → Seen → Type 0
  IsSoFar i seen = IsSeen netlist f (take i ls) seen × (first_from i ≡ fault_from netlist f [] ls)

  judged_at : (i line : ℕ) (words : List (List ℕ)) (seen : Seen) (r : Result FileEntry RouteFileFault) → line ≡ number_at ls i → words ≡ words_at ls i → r ≡ entry_after netlist f seen line words → IsSoFar i seen → r ≡ judge netlist f (take i ls) (line_at i)
  judged_at i line words seen r at here is h = is ∙ rw (at, here) (judged_same netlist f (take i ls) (line_at i) seen h.0)

  pub stepped : (i line : ℕ) (words : List (List ℕ)) (old new : Seen) (r : Result FileEntry RouteFileFault) (e : FileEntry) → i < length ls → line ≡ number_at ls i → words ≡ words_at ls i → r ≡ entry_after netlist f old line words
      → r ≡ Ok e → Notes f old new e → IsSoFar i old → IsSoFar (i + 1) new
  stepped i line words old new r e lt at here is ok notes h =
      let judged : judge netlist f (take i ls) (line_at i) ≡ Ok e = sym (judged_at i line words old r at here is h) ∙ ok in
      let no_fault : fault_of i ≡ None = ap fault_in judged in (
        subst (λ front. IsSeen netlist f front new) (sym (take_more ls i no_line lt)) (line_added netlist f (take i ls) (line_at i) old new e h.0 judged notes),
        ap (λ x. option_or x (first_from (i + 1))) (sym no_fault) ∙ sym (opens i lt) ∙ h.1,
      )

  pub refused : (i line : ℕ) (words : List (List ℕ)) (seen : Seen) (r : Result FileEntry RouteFileFault) (fault : RouteFileFault) → i < length ls → line ≡ number_at ls i → words ≡ words_at ls i → r ≡ entry_after netlist f seen line words
      → r ≡ Err fault → IsSoFar i seen → fault_from netlist f [] ls ≡ Some fault
  refused i line words seen r fault lt at here is faulty h =
      let judged : judge netlist f (take i ls) (line_at i) ≡ Err fault = sym (judged_at i line words seen r at here is h) ∙ faulty in
      let one : fault_of i ≡ Some fault = ap fault_in judged in
      sym h.1 ∙ opens i lt ∙ ap (λ x. option_or x (first_from (i + 1))) one

  pub ended : (i : ℕ) (seen : Seen) → length ls ≤ i → IsSoFar i seen → (fault_from netlist f [] ls ≡ None) × (seen.lists.items ≡ lists_by_net netlist f ls)
  unfolding fault_from
  ended i seen past h =
      let count = length netlist.nets in
      let all : IsSeen netlist f ls seen = subst (λ front. IsSeen netlist f front seen) (take_all i ls past) h.0 in
      let long : length (lists_by_net netlist f ls) ≡ count = length-map (range_with_len 0 count) (routed_list netlist f ls) ∙ length-range_with_len 0 count in (
        sym h.1 ∙ ap (fault_from netlist f (take i ls)) (drop_all i ls past),
        ext_get_or None seen.lists.items (lists_by_net netlist f ls) (all.lists_count ∙ sym long)
            (λ n lt.
            let within : n < count = subst (λ k. n < k) all.lists_count lt in
            all.lists n within ∙ sym (get_or-map-range_with_len (routed_list netlist f ls) 0 count n n None within (zero-add n))),
      )

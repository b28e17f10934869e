-- What is kept of no lines.
use Rattle.std.proofs.Common.{◌≡◌, ℕ, ◌≤◌, Bool, true, false, cond, [], length, map, get_or, replicate, Option, None, inl, inr, refl, ap, ◌∙◌, arith, zero-add}
use Rattle.std.specs.List.{range_with_len}
use Rattle.std.proofs.lemmas.Bool.{cases_lt}
use Rattle.std.proofs.lemmas.List.{length-map, length-replicate, get_or-replicate, get_or_past}
use Rattle.std.proofs.lemmas.List.FromFn.{length-range_with_len, get_or-map-range_with_len}
use Rattle.net_file.specs.Netlist.{Netlist}
use Rattle.net_file.specs.Routed.{is_routed_at}
use Rattle.rr_graph.specs.Fabric.{Fabric}
use Rattle.rr_graph.specs.Nodes.{node_count_of}
use Rattle.route_file.specs.declared.seen.Seen.{Seen}
use Rattle.route_file.specs.kept.LinesSeen.{IsSeen, no_owner}
use Rattle.route_file.specs.Sections.{had_line, latest, section_of, nodes_in, list_of_net}

none_either : {X : Type 0} (b : Bool) (r : Option X) → r ≡ cond b r r
none_either true r = refl
none_either false r = refl

same_throughout : {X : Type 0} (n i : ℕ) (x : X) → get_or (replicate n x) i x ≡ x
same_throughout n i x =
    elim (cases_lt i n) [
      | inl below ↦ get_or-replicate n i x x below
      | inr past ↦ get_or_past (replicate n x) i x (let long = length-replicate n x in omega (arith, long, past))
    ]

pub nothing_seen : (netlist : Netlist) (f : Fabric) (seen : Seen) → length netlist.nets ≤ 65535 → seen.net ≡ None → seen.had.items ≡ replicate (length netlist.nets) false
    → seen.owners.items ≡ replicate (node_count_of f) no_owner → seen.lists.items ≡ map (λ _. None) (range_with_len 0 (length netlist.nets)) → IsSeen netlist f [] seen
unfolding had_line latest section_of nodes_in list_of_net
nothing_seen netlist f seen few net had owners lists =
    let count = length netlist.nets in
    record {
      net = net;
      last = λ n e. absurd cc;
      had_count = ap length had ∙ length-replicate count false;
      had = λ n lt. ap (λ xs. get_or xs n false) had ∙ get_or-replicate count n false false lt;
      lists_count = ap length lists ∙ length-map (range_with_len 0 count) (λ _. None) ∙ length-range_with_len 0 count;
      lists = λ n lt. ap (λ xs. get_or xs n None) lists ∙ get_or-map-range_with_len (λ _. None) 0 count n n None lt (zero-add n) ∙ none_either (is_routed_at netlist n) None;
      owners_count = ap length owners ∙ length-replicate (node_count_of f) no_owner;
      owned = λ n a lt routed e.
          let free : get_or seen.owners.items a no_owner ≡ no_owner = ap (λ xs. get_or xs a no_owner) owners ∙ same_throughout (node_count_of f) a no_owner in
          absurd (omega (arith, free, e, lt, few));
      owns = λ n a e. absurd cc;
      ended = λ n e. absurd cc;
      opened = λ n e. absurd cc;
    }

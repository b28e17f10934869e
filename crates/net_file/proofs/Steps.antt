-- Reading line by line, as the loop does.
use Rattle.std.proofs.Common.{◌≡◌, ℕ, ◌+◌, ◌<◌, ◌≤◌, Bool, cond, List, [], ◌∷◌, length, get_or, take, drop, Option, Some, None, sym, ap, subst, ◌∙◌, add-one}
use Rattle.std.specs.Prelude.{is_some}
use Rattle.std.proofs.Math.Seq.{drop-cons}
use Rattle.std.proofs.lemmas.List.{drop_all, take_all}
use Rattle.vpr_text.specs.Words.{Line, no_line, number_at, words_at}
use Rattle.net_file.specs.declared.fault.LineFault.{LineFault}
use Rattle.net_file.specs.declared.fault.NetFault.{NetFault}
use Rattle.net_file.specs.declared.fault.NetFault.TheVariants as net
use Rattle.net_file.specs.declared.seen.Seen.{Seen}
use Rattle.net_file.specs.Judge.{fault_of_next}
use Rattle.net_file.specs.Lines as lines
use Rattle.net_file.specs.Reading.{at_line, or_else, line_fault_from}
use Rattle.net_file.specs.kept.LinesSeen.{IsSeen, Judges, seen_of}
use Rattle.net_file.proofs.Judging.{fault_is, seen_more}
use Rattle.net_file.proofs.Ranges.{take_next}

module _ (pins : ℕ) (ls : List Line) where
  -- the fault of line i, and the first from line i on
  abbrev fault_of : ℕ → Option LineFault
  fault_of i = fault_of_next pins (take i ls) (get_or ls i no_line)

  abbrev first_from : ℕ → Option NetFault
  first_from i = line_fault_from pins (take i ls) (drop i ls)

  opens : (i : ℕ) → i < length ls → first_from i ≡ or_else (fault_of i) (number_at ls i) (first_from (i + 1))
  unfolding line_fault_from
  opens i lt =
      let rest : drop i ls ≡ get_or ls i no_line ∷ drop (i + 1) ls = rw add-one (drop-cons ls i no_line lt) in
      ap (line_fault_from pins (take i ls)) rest
      ∙ ap (λ front. or_else (fault_of i) (number_at ls i) (line_fault_from pins front (drop (i + 1) ls))) (sym (take_next ls i no_line lt))

  -- line i was judged
  pub judged : (i : ℕ) (old new : Seen) (words : List (List ℕ)) (fault : Option LineFault) → words ≡ words_at ls i → IsSeen (take i ls) old → Judges pins old new words fault → fault ≡ fault_of i
  judged i old new words fault here seen judges =
      let same : Judges pins old new (words_at ls i) fault = subst (λ w. Judges pins old new w fault) here judges in
      same.is ∙ fault_is pins (take i ls) (get_or ls i no_line) old seen

  pub stepped : (i : ℕ) (old new : Seen) (words : List (List ℕ)) (fault : Option LineFault) → i < length ls → words ≡ words_at ls i → Judges pins old new words fault → fault ≡ None
      → IsSeen (take i ls) old × (first_from i ≡ line_fault_from pins [] ls)
      → IsSeen (take (i + 1) ls) new × (first_from (i + 1) ≡ line_fault_from pins [] ls)
  stepped i old new words fault lt here judges none h =
      let same : Judges pins old new (words_at ls i) fault = subst (λ w. Judges pins old new w fault) here judges in
      let no_fault : fault_of i ≡ None = sym (judged i old new words fault here h.0 judges) ∙ none in (
        subst (λ front. IsSeen front new) (sym (take_next ls i no_line lt)) (seen_more (take i ls) (get_or ls i no_line) old new h.0 (same.added none)),
        ap (λ f. or_else f (number_at ls i) (first_from (i + 1))) (sym no_fault) ∙ sym (opens i lt) ∙ h.1,
      )

  pub refused : (i : ℕ) (fault : LineFault) → i < length ls → Some fault ≡ fault_of i → first_from i ≡ line_fault_from pins [] ls → line_fault_from pins [] ls ≡ Some (at_line fault (number_at ls i))
  refused i fault lt is h = sym h ∙ opens i lt ∙ ap (λ f. or_else f (number_at ls i) (first_from (i + 1))) (sym is)

  pub ended : (i : ℕ) (seen : Seen) (b : Bool) → length ls ≤ i → IsSeen (take i ls) seen × (first_from i ≡ line_fault_from pins [] ls) → is_some seen.opened ≡ b
      → (line_fault_from pins [] ls ≡ cond b (Some (net.BadLine 0)) None) × (seen ≡ seen_of ls)
  unfolding line_fault_from
  ended i seen b past h last =
      let all : IsSeen ls seen = subst (λ front. IsSeen front seen) (take_all i ls past) h.0 in
      let end : first_from i ≡ cond (is_some (lines.opened (take i ls))) (Some (net.BadLine 0)) None = ap (line_fault_from pins (take i ls)) (drop_all i ls past) in
      let waits : is_some (lines.opened (take i ls)) ≡ b = ap is_some (sym h.0.opened) ∙ last in (
        sym h.1 ∙ end ∙ ap (λ t. cond t (Some (net.BadLine 0)) None) waits,
        λ k. record { opened = all.opened k; latest = all.latest k; blocks = all.blocks k; nets = all.nets k; globals = all.globals k },
      )
